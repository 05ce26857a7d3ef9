-- The law of every run, on a board's call. Assumes nothing.
use Rattle.std.specs.Prelude.{◌≡◌, cond, List, ◌∷◌, length, ◌==◌}
use Rattle.calls.specs.declared.call.Call.{Call}
use Rattle.model.specs.Calls.{Entry}
use Rattle.model.specs.Histories.{New, Runs}
use Rattle.model.specs.Law.{Holds}
use Rattle.model.specs.State.{State}
use Rattle.model.specs.declared.cell.Cell.{Cell}
use Rattle.model.specs.declared.reply.Reply.{Reply}

module _ {J O : Type 0} where
  -- the law holds of the history up to the call, the call goes on with it, and the law holds then
  pub record Lawful (start : State J O) (h : List (Entry J O)) (s : State J O) (e : Entry J O) (s' : State J O) : Type 0 where
    pub holds : Holds start h s
    pub reached : Runs start (e ∷ h) s'
    pub still_holds : Holds start (e ∷ h) s'

  -- a board's own cells after a call: those that it was handed, or where that were too few or too many, its own as they were
  abbrev pub own_after : State J O → List (Cell J O) → List (Cell J O) → List (Cell J O)
  own_after s handed left = cond (length handed == s.owner.size) left s.cells

  -- whenever a history has led from a board just made to the board before the call, and the call is handed the board's own cells or
  -- another number of cells
  abbrev pub KeepsTheLaw : (List (Cell J O) → State J O) → Call J O → List (Cell J O) → Reply J O → (List (Cell J O) → State J O) → List (Cell J O) → Type 0
  KeepsTheLaw before call handed r after left =
      (start : State J O) (h : List (Entry J O)) (own : List (Cell J O)) → New start → Runs start h (before own) → (length handed ≡ (before own).owner.size → handed ≡ own) → Lawful start h (before own) (record { handed = length handed; call = call; reply = r }) (after (own_after (before own) handed left))
