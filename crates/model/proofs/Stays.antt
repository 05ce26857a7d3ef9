-- Every call keeps a board safe, so that on a board just made refusal 20 never comes. Assumes nothing.
use Rattle.std.proofs.Common.{◌≡◌, ℕ, zero, suc, List, [], ◌∷◌, length, replicate, refl, arith}
use Rattle.std.specs.List.{AllByRecursion}
use Rattle.calls.specs.declared.call.Call.{Call}
use Rattle.calls.specs.declared.call.Call.TheVariants.{Push, Pop, Retire, OwnerStep, HelperStep, Finish, Land}
use Rattle.memory.specs.Meaning as memory
use Rattle.model.specs.Calls.{effect_of, Entry, Makes}
use Rattle.model.specs.Helping.{helper_step, finish}
use Rattle.model.specs.Histories.{New, Runs, NeverMisread}
use Rattle.model.specs.Keeping.{Sound}
use Rattle.model.specs.Naming.{refusal_number}
use Rattle.model.specs.Orders.{progress}
use Rattle.model.specs.Owning.{push, pop, retire, owner_step}
use Rattle.model.specs.Places.{at_number}
use Rattle.model.specs.State.{State, refused, state_after}
use Rattle.model.specs.declared.helper.Aim.TheVariants.{ReadFlag}
use Rattle.model.specs.declared.helper.Helper.{Helper}
use Rattle.model.specs.declared.reply.Access.{Access}
use Rattle.model.specs.declared.reply.Access.TheVariants as access
use Rattle.model.specs.declared.reply.Refusal.TheVariants.{WrongCells}
use Rattle.model.proofs.HelperStays.{helper_goes, finish_goes}
use Rattle.model.proofs.Keeping.{numbers_keep}
use Rattle.model.proofs.OwnerStays.{Goes, refused_goes, step_goes, push_goes, pop_goes, retire_goes}
use Rattle.model.proofs.Safe.{need, AimFits, Safe, taken_more, given_up, next_stolen, fits_lands}
use Rattle.model.proofs.Ways.{handed_ways}

module _ {J O : Type 0} (s : State J O) (R : ℕ) (sound : Sound s.owner) (safe : Safe R s) (handed n : ℕ) where
  wrong_goes : (name : Access) → Goes R s (refused s name WrongCells) n
  wrong_goes name = refused_goes s R sound safe n name WrongCells (omega arith)

  pub call_goes : (call : Call J O) → memory.MayLand (effect_of s handed call).touches n s.memory → Goes (next_stolen call (effect_of s handed call).answer R) s (effect_of s handed call) n
  call_goes (Push job) may = handed_ways s (λ e. Goes R s e n) handed access.Push (push s job) (push_goes s R sound safe n job) (wrong_goes access.Push)
  call_goes Pop may = handed_ways s (λ e. Goes R s e n) handed access.Pop (pop s) (pop_goes s R sound safe n) (wrong_goes access.Pop)
  call_goes Retire may =
      handed_ways s (λ e. Goes (given_up (progress e.answer) R) s e n) handed access.Retire (retire s) (retire_goes s R sound safe n) (wrong_goes access.Retire)
  call_goes OwnerStep may =
      handed_ways s (λ e. memory.MayLand e.touches n s.memory → Goes R s e n) handed access.Step (owner_step s) (step_goes s R sound safe n s.owner.phase sound.fits safe.memory safe.numbers) (λ _. wrong_goes access.Step) may
  call_goes (HelperStep helper) may =
      handed_ways s (λ e. Goes (taken_more e.answer R) s e n) handed access.Step (helper_step s helper) (helper_goes s R sound safe n helper (at_number s.helpers helper) refl) (wrong_goes access.Step)
  call_goes (Finish helper outcome) may =
      handed_ways s (λ e. Goes R s e n) handed access.Finish (finish s helper outcome) (finish_goes s R sound safe n helper outcome (at_number s.helpers helper)) (wrong_goes access.Finish)
  call_goes Land may = record {
    safe = search (fits_lands s.owner.size R n s.memory (need s.owner.own_flag s.owner.own_split s.owner.head s.owner.phase) safe.memory);
    fine = omega arith;
  }

-- what a run from a board just made keeps
pub record KeptSafe {J O : Type 0} (s : State J O) : Type 0 where
  pub stolen : ℕ
  pub sound : Sound s.owner
  pub safe : Safe stolen s

all_aims : (size helpers : ℕ) → AllByRecursion {X = Helper} (λ h. AimFits size h.aim) (replicate helpers (record { aim = ReadFlag }))
all_aims size zero = tt
all_aims size (suc helpers) = (tt, all_aims size helpers)

module _ {J O : Type 0} where
  -- a board just made has nothing stolen
  pub start_sound : (s : State J O) → New s → Sound s.owner
  start_sound s new = rw new.made (record { in_range = omega arith; fits = tt })

  pub start_safe : (s : State J O) → New s → Safe 0 s
  start_safe s new = rw new.made (record { told = omega arith; memory = omega arith; numbers = refl; aims = all_aims s.owner.size (length s.helpers); cells = new.cells })

  pub start_kept : (s : State J O) → New s → KeptSafe s
  start_kept s new = record { stolen = 0; sound = start_sound s new; safe = start_safe s new }

  pub made_kept : (s s' : State J O) (e : Entry J O) → KeptSafe s → Makes s e s' → KeptSafe s' × (refusal_number e.reply.answer ≡ 20 → ⊥)
  made_kept s s' e kept makes =
      let effect = effect_of s e.handed e.call in
      let n = e.reply.landed in
      let goes = call_goes s kept.stolen kept.sound kept.safe e.handed n e.call makes.lands in
      let next : KeptSafe (state_after s effect n) = record {
        stolen = next_stolen e.call effect.answer kept.stolen;
        sound = numbers_keep J O s e.handed e.call kept.sound;
        safe = goes.safe;
      } in
      (rw makes.moves next, λ is. goes.fine (cc makes.replies))

  pub runs_kept : (start s : State J O) (h : List (Entry J O)) → KeptSafe start → Runs start h s → KeptSafe s
  runs_kept start s [] kept runs = rw runs kept
  runs_kept start s (e ∷ h) kept (before, runs, makes) = (made_kept before s e (runs_kept start before h kept runs) makes).0

  no_misread : (start s : State J O) (h : List (Entry J O)) → KeptSafe start → Runs start h s → AllByRecursion (λ e. refusal_number e.reply.answer ≡ 20 → ⊥) h
  no_misread start s [] kept runs = tt
  no_misread start s (e ∷ h) kept (before, runs, makes) =
      ((made_kept before s e (runs_kept start before h kept runs) makes).1, no_misread start before h kept runs)

pub never_misread : (J O : Type 0) → NeverMisread J O
never_misread J O start s h new runs = no_misread start s h (start_kept start new) runs
