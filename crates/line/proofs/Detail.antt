-- An answer that is no job, no outcome and no refusal adds nothing to its line. Assumes nothing.
use Rattle.std.proofs.Common.{◌≡◌, [], refl}
use Rattle.jobs.specs.Form.{Form}
use Rattle.model.specs.declared.reply.Answer.{Answer}
use Rattle.model.specs.declared.reply.Answer.TheVariants.{Going, Pushed, Work, Stolen, Retired, Taken, AllGone, NoShare, Changed, Finished, Refused}
use Rattle.model.specs.declared.reply.Refusal.{Refusal}
use Rattle.line.specs.Lines.{detail}

module _ {J O : Type 0} (job : Form J) (outcome : Form O) where
  pub no_detail : (answer : Answer J O) → ((j : J) → answer ≡ Work j → ⊥) → ((j : J) → answer ≡ Taken j → ⊥) → ((o : O) → answer ≡ Retired o → ⊥) → ((r : Refusal) → answer ≡ Refused r → ⊥) → detail job outcome answer ≡ []
  no_detail Going not_work not_taken not_retired not_refused = refl
  no_detail Pushed not_work not_taken not_retired not_refused = refl
  no_detail (Work j) not_work not_taken not_retired not_refused = absurd (not_work j refl)
  no_detail Stolen not_work not_taken not_retired not_refused = refl
  no_detail (Retired o) not_work not_taken not_retired not_refused = absurd (not_retired o refl)
  no_detail (Taken j) not_work not_taken not_retired not_refused = absurd (not_taken j refl)
  no_detail AllGone not_work not_taken not_retired not_refused = refl
  no_detail NoShare not_work not_taken not_retired not_refused = refl
  no_detail Changed not_work not_taken not_retired not_refused = refl
  no_detail Finished not_work not_taken not_retired not_refused = refl
  no_detail (Refused r) not_work not_taken not_retired not_refused = absurd (not_refused r refl)
