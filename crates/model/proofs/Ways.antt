-- The ways that a call may go: what holds on each of them holds of the call. Assumes nothing.
use Rattle.std.proofs.Common.{◌≡◌, ℕ, true, Some, None, Option, refl}
use Rattle.std.proofs.lemmas.Bool.{cond_both}
use Rattle.model.specs.Calls.{with_cells}
use Rattle.model.specs.Helping.{finish_aimed, finish_of}
use Rattle.model.specs.Owning.{idle, begun}
use Rattle.model.specs.State.{State, Effect, refused}
use Rattle.model.specs.declared.helper.Aim.{Aim}
use Rattle.model.specs.declared.helper.Aim.TheVariants.{Hold}
use Rattle.model.specs.declared.helper.Helper.{Helper}
use Rattle.model.specs.declared.owner.Phase.{Phase}
use Rattle.model.specs.declared.owner.Phase.TheVariants.{Idle}
use Rattle.model.specs.declared.reply.Access.{Access}
use Rattle.model.specs.declared.reply.Access.TheVariants as access
use Rattle.model.specs.declared.reply.Refusal.TheVariants.{Busy, WrongCells, UnknownHelper, HoldsNone}

pub idle_is : {J O : Type 0} (p : Phase J O) → idle p ≡ true → p ≡ Idle
idle_is Idle is = refl
idle_is p is = cc

-- an aim that holds no position
abbrev pub HoldsNothing : Aim → Type 0
HoldsNothing a = (p : ℕ) → a ≡ Hold p → ⊥

module _ {J O : Type 0} (s : State J O) (P : Effect J O → Type 0) where
  -- it is handed the board's cells, or another number of them
  pub handed_ways : (handed : ℕ) (name : Access) (e : Effect J O) → P e → P (refused s name WrongCells) → P (with_cells s handed name e)
  handed_ways handed name e right wrong = cond_both _ _ _ P (λ _. right) (λ _. wrong)

  -- no operation of the owner's is unfinished, or one is
  pub begun_ways : (name : Access) (e : Effect J O) → (idle s.owner.phase ≡ true → P e) → P (refused s name Busy) → P (begun s name e)
  begun_ways name e rest busy = cond_both _ _ _ P rest (λ _. busy)

  finish_aimed_ways : (helper : ℕ) (outcome : O) (a : Aim) → (HoldsNothing a → P (refused s access.Finish HoldsNone)) → ((p : ℕ) → a ≡ Hold p → P (finish_aimed s helper outcome (Hold p))) → P (finish_aimed s helper outcome a)
  finish_aimed_ways helper outcome (Hold p) none holds = holds p refl
  finish_aimed_ways helper outcome a none holds = none (λ p is. cc)

  -- a finish finds no helper, or one that holds nothing, or one that holds a job
  pub finish_ways : (helper : ℕ) (outcome : O) (x : Option Helper) → P (refused s access.Finish UnknownHelper) → ((h : Helper) → x ≡ Some h → HoldsNothing h.aim → P (refused s access.Finish HoldsNone)) → ((h : Helper) (p : ℕ) → x ≡ Some h → h.aim ≡ Hold p → P (finish_aimed s helper outcome (Hold p))) → P (finish_of s helper outcome x)
  finish_ways helper outcome None unknown none holds = unknown
  finish_ways helper outcome (Some h) unknown none holds = finish_aimed_ways helper outcome h.aim (none h refl) (λ p. holds h p refl)
