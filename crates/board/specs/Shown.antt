-- What a board means, and what a call of it comes to. Assumes nothing.
use Rattle.std.specs.Prelude.{ℕ, List, length, take}
use Rattle.calls.specs.declared.call.Call.{Call}
use Rattle.jobs.specs.declared.job.Job as job_bound
use Rattle.memory.specs.declared.memory.Memory as memory_bound
use Rattle.memory.specs.Meaning as memory
use Rattle.model.specs.Calls.{effect_of}
use Rattle.model.specs.State.{State}
use Rattle.model.specs.declared.cell.Cell.{Cell}
use Rattle.model.specs.declared.reply.Reply.{Reply}
use Rattle.deque.specs.Doing.{board_of, Acts}
use Rattle.board.specs.declared.board.Board.{Board}

module _ {M J O : Type 0} {gm : memory_bound.Ghosts M} {gj : job_bound.Ghosts J O} (meaning : M → memory.Meaning) where
  -- the state of a board with these cells: of the table of helpers the first records count, as many as there are helpers
  abbrev pub shown : Board M J O gm gj → List (Cell J O) → State J O
  shown b cells = board_of meaning b.deque (take b.helpers b.table) cells

  -- the call, handed these cells, is answered by r and leads to the other board and cells, as the model defines, with as many
  -- writes landed as the memory picks
  abbrev pub Answers : (memory.Access → ℕ → memory.Meaning → Type 0) → Call J O → Board M J O gm gj → List (Cell J O) → Reply J O → Board M J O gm gj → List (Cell J O) → Type 0
  Answers picks call b cells r b' cells' = Acts picks (effect_of (shown b cells) (length cells) call) (shown b cells) r (shown b' cells')
