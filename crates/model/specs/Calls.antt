-- One call, whichever it is, and the making of a board. Assumes nothing.
use Rattle.std.specs.Prelude.{ℕ, true, false, cond, ◌||◌, List, [], replicate, Ok, Err, Result, ◌==◌, nat_lt}
use Rattle.calls.specs.declared.call.Call.{Call}
use Rattle.calls.specs.declared.call.Call.TheVariants.{Push, Pop, Retire, OwnerStep, HelperStep, Finish, Land}
use Rattle.memory.specs.Meaning as memory
use Rattle.model.specs.Helping.{helper_step, finish}
use Rattle.model.specs.Owning.{push, pop, retire, owner_step}
use Rattle.model.specs.State.{State, Effect, Does, refused, owns}
use Rattle.model.specs.declared.cell.Cell.{Cell}
use Rattle.model.specs.declared.helper.Aim.TheVariants.{ReadFlag}
use Rattle.model.specs.declared.owner.Phase.TheVariants.{Idle}
use Rattle.model.specs.declared.reply.Access.{Access}
use Rattle.model.specs.declared.reply.Access.TheVariants as access
use Rattle.model.specs.declared.reply.Answer.TheVariants.{Going}
use Rattle.model.specs.declared.reply.Refusal.{Refusal}
use Rattle.model.specs.declared.reply.Refusal.TheVariants.{WrongSize, WrongHelpers, WrongCells}
use Rattle.model.specs.declared.reply.Reply.{Reply}

module _ {J O : Type 0} where
  -- the number of cells that are handed in has to be the board's size
  abbrev pub with_cells : State J O → ℕ → Access → Effect J O → Effect J O
  with_cells s handed name effect = cond (handed == s.owner.size) effect (refused s name WrongCells)

  -- what a call does that is handed so many cells
  abbrev pub effect_of : State J O → ℕ → Call J O → Effect J O
  effect_of s handed (Push job) = with_cells s handed access.Push (push s job)
  effect_of s handed Pop = with_cells s handed access.Pop (pop s)
  effect_of s handed Retire = with_cells s handed access.Retire (retire s)
  effect_of s handed OwnerStep = with_cells s handed access.Step (owner_step s)
  effect_of s handed (HelperStep helper) = with_cells s handed access.Step (helper_step s helper)
  effect_of s handed (Finish helper outcome) = with_cells s handed access.Finish (finish s helper outcome)
  effect_of s handed Land = owns s memory.lands access.Land Going s.owner

-- one call of a history: how many cells it was handed, what it asked and the whole reply
pub record Entry (J O : Type 0) : Type 0 where
  pub handed : ℕ
  pub call : Call J O
  pub reply : Reply J O

module _ {J O : Type 0} where
  -- the call leads from s to s' with its reply
  abbrev pub Makes : State J O → Entry J O → State J O → Type 0
  Makes s e s' = Does (effect_of s e.handed e.call) s e.reply s'

  -- a board just made, whatever its cells held
  abbrev pub new_board : ℕ → ℕ → List (Cell J O) → State J O
  new_board size helpers cells = record {
    memory = record { words = record { tail = 0; split = 0; flag = true; request = false }; waiting = [] };
    owner = record { size = size; head = 0; own_split = 0; own_flag = true; told = 0; phase = Idle };
    helpers = replicate helpers (record { aim = ReadFlag });
    cells = cells;
  }

  -- size is 1 to 1,024 and helpers are 1 to 16
  abbrev pub making : ℕ → ℕ → List (Cell J O) → Result (State J O) Refusal
  making size helpers cells =
      cond (nat_lt size 1 || nat_lt 1024 size) (Err WrongSize)
      (cond (nat_lt helpers 1 || nat_lt 16 helpers) (Err WrongHelpers) (Ok (new_board size helpers cells)))
