-- What every board keeps: each call leaves the owner's numbers and phase sound. Assumes nothing.
use Rattle.std.proofs.Common.{ℕ, List, length, take, sym, ap, subst}
use mathlib.Core.Logic.{∥∥₁_elim, ∥∥₁_prop}
use Rattle.calls.specs.declared.call.Call.{Call}
use Rattle.jobs.specs.declared.job.Job as job_bound
use Rattle.memory.specs.declared.memory.Memory as memory_bound
use Rattle.memory.specs.Meaning as memory
use Rattle.model.specs.Calls.{effect_of}
use Rattle.model.specs.Keeping.{Sound}
use Rattle.model.specs.declared.cell.Cell.{Cell}
use Rattle.model.specs.declared.reply.Reply.{Reply}
use Rattle.model.proofs.Keeping.{numbers_keep}
use Rattle.deque.specs.Doing.{board_of, Acts}
use Rattle.board.specs.Shown.{shown}
use Rattle.board.specs.declared.board.Board.{Board}
use Rattle.deque.specs.declared.deque.Deque.{Deque}

module _ {M J O : Type 0} {gm : memory_bound.Ghosts M} {gj : job_bound.Ghosts J O} (meaning : M → memory.Meaning) (picks : memory.Access → ℕ → memory.Meaning → Type 0) (b : Board M J O gm gj) (cells : List (Cell J O)) where
  -- a call keeps its owner sound
  pub stays_sound : (call : Call J O) (r : Reply J O) (d : Deque M J O) (cells' : List (Cell J O)) → Acts picks (effect_of (shown meaning b cells) (length cells) call) (shown meaning b cells) r (board_of meaning d (take b.helpers b.table) cells') → ∥ Sound d.owner ∥₁
  stays_sound call r d cells' acts =
      ∥∥₁_elim b.sound ∥∥₁_prop (λ x. ∣ subst Sound (sym (ap (λ t. t.owner) acts.does.moves)) (numbers_keep J O (shown meaning b cells) (length cells) call x) ∣₁)
