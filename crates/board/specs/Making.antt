-- What a board is before it is made, and what a making comes to. Assumes nothing.
use Rattle.std.specs.Prelude.{List, [], Ok, Err, Result}
use Rattle.memory.specs.Meaning as memory
use Rattle.model.specs.State.{State}
use Rattle.model.specs.declared.cell.Cell.{Cell}
use Rattle.model.specs.declared.reply.Refusal.{Refusal}
use Rattle.deque.specs.Making.{new_owner}

module _ {J O : Type 0} where
  -- a board that was never made has no position and no helper, and its memory is as it was handed in
  abbrev pub unmade : memory.Meaning → List (Cell J O) → State J O
  unmade m cells = record {
    memory = m;
    owner = new_owner 0;
    helpers = [];
    cells = cells;
  }

  -- what a making answers
  abbrev pub made_answer : Result (State J O) Refusal → Result (Unit {0}) Refusal
  made_answer (Ok s) = Ok tt
  made_answer (Err refusal) = Err refusal

  -- the board after it: a refused making leaves the board as it was
  abbrev pub made_board : Result (State J O) Refusal → State J O → State J O
  made_board (Ok s) before = s
  made_board (Err refusal) before = before
