-- A board just made: its memory, its owner and its table. Assumes nothing.
use Rattle.std.proofs.Common.{◌≡◌, ℕ, ◌≤◌, List, length, take, replicate, Ok, sym, ap, ◌∙◌, subst, arith}
use lib.ListN.{length-replicate}
use Rattle.std.proofs.lemmas.List.{take-replicate}
use Rattle.memory.specs.Meaning as memory
use Rattle.model.specs.Calls.{making, new_board}
use Rattle.model.specs.Histories.{New}
use Rattle.model.specs.State.{State}
use Rattle.model.specs.declared.cell.Cell.{Cell}
use Rattle.model.specs.declared.helper.Aim.TheVariants.{ReadFlag}
use Rattle.model.specs.declared.owner.Owner.{Owner}
use Rattle.board.specs.Making.{made_answer, made_board}

module _ {J O : Type 0} where
  pub making_made : (size helpers : ℕ) (cells : List (Cell J O)) → 1 ≤ size → size ≤ 1024 → 1 ≤ helpers → helpers ≤ 16 → making size helpers cells ≡ Ok (new_board size helpers cells)
  making_made size helpers cells some few one most = grind arith

  -- what a making that passed was asked for
  passed_so : (size helpers : ℕ) (cells : List (Cell J O)) → Ok tt ≡ made_answer (making size helpers cells) → (1 ≤ size) × (size ≤ 1024) × (1 ≤ helpers) × (helpers ≤ 16)
  passed_so size helpers cells passed = grind arith

  -- the state of a board just made is new
  pub is_new : (s : State J O) (size helpers : ℕ) (cells : List (Cell J O)) → s ≡ new_board size helpers cells → 1 ≤ size → size ≤ 1024 → 1 ≤ helpers → helpers ≤ 16 → length cells ≡ size → New s
  is_new s size helpers cells is some few one most long =
      let count : length (replicate helpers (record { aim = ReadFlag })) ≡ helpers = length-replicate helpers (record { aim = ReadFlag }) in
      subst New (sym is) (record {
        made = ap (λ n. new_board size n cells) (sym count);
        size = (some, few);
        helpers = (omega (arith, count), omega (arith, count));
        cells = long;
      })

  -- a board with such a memory, owner and table is the one just made
  module _ (m : memory.Meaning) (o : Owner J O) (size helpers : ℕ) (cells : List (Cell J O)) (memory_so : m ≡ (new_board size helpers cells).memory) (owner_so : o ≡ (new_board size helpers cells).owner) (passed : Ok tt ≡ made_answer (making size helpers cells)) where
    abbrev made : State J O
    made = record { memory = m; owner = o; helpers = take helpers (replicate 16 (record { aim = ReadFlag })); cells = cells }

    made_so : made ≡ new_board size helpers cells
    made_so =
        let table = take-replicate helpers 16 (record { aim = ReadFlag }) (passed_so size helpers cells passed).3 in
        λ i. record { memory = memory_so i; owner = owner_so i; helpers = table i; cells = cells }

    pub board_so : (before : State J O) → made ≡ made_board (making size helpers cells) before
    board_so before =
        let (some, few, one, most) = passed_so size helpers cells passed in
        made_so ∙ ap (λ x. made_board x before) (sym (making_made size helpers cells some few one most))

    pub new_so : length cells ≡ size → New made
    new_so long =
        let (some, few, one, most) = passed_so size helpers cells passed in
        is_new made size helpers cells made_so some few one most long
