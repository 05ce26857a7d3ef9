-- Every call keeps the owner's numbers in range, and has one reply. Assumes nothing.
use Rattle.std.proofs.Common.{◌≡◌, ℕ, Bool, true, ltb, Some, None, Option, refl, ◌∙◌, arith}
use Rattle.calls.specs.declared.call.Call.{Call}
use Rattle.model.specs.Calls.{effect_of}
use Rattle.model.specs.State.{State, Effect, reply_of, state_after}
use Rattle.calls.specs.declared.call.Call.TheVariants.{Push, Pop, Retire, OwnerStep, HelperStep, Finish, Land}
use Rattle.model.specs.Keeping.{InRange, PhaseFits, Sound, NumbersKeep, CallsHaveOneReply}
use Rattle.model.specs.Helping.{swap_at, step_aimed, step_of, helper_step, finish}
use Rattle.model.specs.Owning.{idle, top, push, popped, pop, retired, retired_with, retire, owner_step_at, owner_step, lowered}
use Rattle.model.specs.Places.{at, at_number}
use Rattle.model.specs.declared.cell.Cell.{Cell}
use Rattle.model.specs.declared.helper.Aim.{Aim}
use Rattle.model.specs.declared.helper.Aim.TheVariants.{Swap}
use Rattle.model.specs.declared.helper.Helper.{Helper}
use Rattle.model.specs.declared.owner.Open.TheVariants as open_at
use Rattle.model.specs.declared.owner.Owner.{Owner}
use Rattle.model.specs.declared.owner.Phase.{Phase}
use Rattle.model.specs.declared.owner.Phase.TheVariants.{Opening, Sharing, Shrinking}
use Rattle.model.specs.declared.owner.Share.TheVariants as share_at
use Rattle.model.specs.declared.owner.Shrink.TheVariants as shrink_at
use Rattle.model.specs.declared.reply.Access.TheVariants as access
use Rattle.model.proofs.Entries.{number_positive}
use Rattle.model.proofs.Ways.{idle_is, handed_ways, begun_ways, finish_ways}
use Rattle.std.proofs.lemmas.Bool.{cond_both}
use Rattle.std.proofs.lemmas.Bool.Decides.{nat_tests}

module _ {J O : Type 0} where
  pub calls_have_one_reply : CallsHaveOneReply J O
  calls_have_one_reply s handed call n may =
      let effect = effect_of s handed call in
      record {
        entry = record { handed = handed; call = call; reply = reply_of effect n };
        next = state_after s effect n;
        asked = (refl, refl, refl);
        made = record { lands = may; replies = refl; moves = refl };
        only = λ e s' h c l made. (
          made.replies ∙ (λ i. reply_of (effect_of s (h i) (c i)) (l i)),
          made.moves ∙ (λ i. state_after s (effect_of s (h i) (c i)) (l i)),
        );
      }

module _ {J O : Type 0} (s : State J O) (sound : Sound s.owner) where
  abbrev o : Owner J O
  o = s.owner

  abbrev Keeps : Effect J O → Type 0
  Keeps e = Sound e.owner

  range : InRange o
  range = sound.in_range

  abbrev Fits : Phase J O → Type 0
  Fits p = PhaseFits o.own_flag o.told o.own_split o.head p

  step_keeps : (p : Phase J O) → Fits p → Keeps (owner_step_at s p)
  step_keeps (Opening open_at.WritePair) fits = grind (arith, nat_tests)
  step_keeps (Sharing share_at.ReadRequest end) fits = grind (arith, nat_tests)
  step_keeps (Shrinking shrink_at.ReadPair job) fits = grind (arith, nat_tests)
  step_keeps p fits = grind (arith, nat_tests)

  -- with no operation unfinished, any numbers fit
  at_rest : (p : Phase J O) → idle p ≡ true → (flag : Bool) (told split head : ℕ) → PhaseFits flag told split head p
  at_rest p is flag told split head = rw (idle_is p is) tt

  push_keeps : (job : J) → Keeps (push s job)
  push_keeps job = grind (arith, nat_tests)

  popped_keeps : idle o.phase ≡ true → (x : Option (Cell J O)) → top s ≡ x → Keeps (popped s x)
  popped_keeps rest None is = sound
  popped_keeps rest (Some cell) is =
      let some = number_positive s.cells o.head cell is in
      let fits = at_rest o.phase rest o.own_flag o.head o.own_split o.head in
      grind (arith, nat_tests)

  retired_with_keeps : idle o.phase ≡ true → (x : Option O) → Keeps (retired_with s x)
  retired_with_keeps rest None = sound
  retired_with_keeps rest (Some outcome) =
      let fits = at_rest o.phase rest o.own_flag (lowered s).told o.own_split (lowered s).head in
      grind (arith, nat_tests)

  retired_keeps : idle o.phase ≡ true → (x : Option (Cell J O)) → Keeps (retired s x)
  retired_keeps rest None = sound
  retired_keeps rest (Some cell) = cond_both (ltb o.told o.head) _ _ Keeps (λ _. sound) (λ _. retired_with_keeps rest cell.outcome)

  -- a helper's call leaves the owner alone
  swap_keeps : (helper t s' : ℕ) (x : Option (Cell J O)) → Keeps (swap_at s helper t s' x)
  swap_keeps helper t s' None = sound
  swap_keeps helper t s' (Some cell) = grind arith

  aimed_keeps : (helper : ℕ) (a : Aim) → Keeps (step_aimed s helper a)
  aimed_keeps helper (Swap pair) = swap_keeps helper pair.0 pair.1 (at s.cells pair.0)
  aimed_keeps helper a = grind arith

  helper_keeps : (helper : ℕ) (h : Option Helper) → Keeps (step_of s helper h)
  helper_keeps helper None = sound
  helper_keeps helper (Some h) = aimed_keeps helper h.aim

  call_keeps : (handed : ℕ) (call : Call J O) → Keeps (effect_of s handed call)
  call_keeps handed (Push job) = handed_ways s Keeps handed access.Push (push s job) (push_keeps job) sound
  call_keeps handed Pop = handed_ways s Keeps handed access.Pop (pop s) (begun_ways s Keeps access.Pop _ (λ rest. popped_keeps rest (top s) refl) sound) sound
  call_keeps handed Retire = handed_ways s Keeps handed access.Retire (retire s) (begun_ways s Keeps access.Retire _ (λ rest. retired_keeps rest (top s)) sound) sound
  call_keeps handed OwnerStep = handed_ways s Keeps handed access.Step (owner_step s) (step_keeps o.phase sound.fits) sound
  call_keeps handed (HelperStep helper) = handed_ways s Keeps handed access.Step (helper_step s helper) (helper_keeps helper (at_number s.helpers helper)) sound
  call_keeps handed (Finish helper outcome) =
      handed_ways s Keeps handed access.Finish (finish s helper outcome) (finish_ways s Keeps helper outcome (at_number s.helpers helper) sound (λ _ _ _. sound) (λ _ _ _ _. sound)) sound
  call_keeps handed Land = sound

pub numbers_keep : (J O : Type 0) → NumbersKeep J O
numbers_keep J O s handed call sound = call_keeps s sound handed call
