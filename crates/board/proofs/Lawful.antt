-- A call of a board goes on with the history that led to it. Assumes nothing.
use Rattle.std.proofs.Common.{◌≡◌, ℕ, false, eqb, List, ◌∷◌, length, arith}
use Rattle.std.proofs.lemmas.Grind.{common_steps}
use Rattle.calls.specs.declared.call.Call.{Call}
use Rattle.jobs.specs.declared.job.Job as job_bound
use Rattle.memory.specs.declared.memory.Memory as memory_bound
use Rattle.memory.specs.Meaning as memory
use Rattle.model.specs.Calls.{effect_of, Entry, Makes}
use Rattle.model.specs.Histories.{Runs}
use Rattle.model.specs.State.{State, Does}
use Rattle.model.specs.declared.cell.Cell.{Cell}
use Rattle.model.specs.declared.reply.Reply.{Reply}
use Rattle.model.proofs.Lawful.{holds_always}
use Rattle.board.specs.Lawful.{own_after, KeepsTheLaw}
use Rattle.board.specs.Shown.{shown, Answers}
use Rattle.board.specs.declared.board.Board.{Board}

module _ {J O : Type 0} where
  -- the same board with other cells
  abbrev with : State J O → List (Cell J O) → State J O
  with s cells = record { memory = s.memory; owner = s.owner; helpers = s.helpers; cells = cells }

  -- a call that is handed another number of cells says the same whatever the cells are
  others_with : (s s' : State J O) (handed : ℕ) (call : Call J O) (r : Reply J O) (own : List (Cell J O)) → eqb handed s.owner.size ≡ false → Does (effect_of s handed call) s r s' → Does (effect_of (with s own) handed call) (with s own) r (with s' own)
  others_with s s' handed call r own wrong does = grind (arith, common_steps)

module _ {M J O : Type 0} {gm : memory_bound.Ghosts M} {gj : job_bound.Ghosts J O} (meaning : M → memory.Meaning) (picks : memory.Access → ℕ → memory.Meaning → Type 0) (b b' : Board M J O gm gj) (call : Call J O) (cells cells' : List (Cell J O)) (r : Reply J O) (answers : Answers meaning picks call b cells r b' cells') where
  abbrev entry : Entry J O
  entry = record { handed = length cells; call = call; reply = r }

  abbrev own_then : List (Cell J O) → List (Cell J O)
  own_then own = own_after (shown meaning b own) cells cells'

  goes_on : (own : List (Cell J O)) → (length cells ≡ b.deque.owner.size → cells ≡ own) → Makes (shown meaning b own) entry (shown meaning b' (own_then own))
  goes_on own same = grind (arith, common_steps, others_with (shown meaning b cells) (shown meaning b' cells') (length cells) call r own)

  pub keeps_the_law : KeepsTheLaw (shown meaning b) call cells r (shown meaning b') cells'
  keeps_the_law start h own new runs same =
      let then : Runs start (entry ∷ h) (shown meaning b' (own_then own)) = (shown meaning b own, runs, goes_on own same) in
      record {
        holds = holds_always J O start (shown meaning b own) h new runs;
        reached = then;
        still_holds = holds_always J O start (shown meaning b' (own_then own)) (entry ∷ h) new then;
      }
