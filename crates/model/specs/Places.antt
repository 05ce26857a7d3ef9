-- What stands at a position of a list, if anything does, a list with one position changed, and what a push writes there. Assumes nothing.
use Rattle.std.specs.Prelude.{ℕ, zero, suc, List, [], ◌∷◌, Some, None, Option}
use Rattle.model.specs.declared.cell.Cell.{Cell}

module _ {X : Type 0} where
  abbrev pub at : List X → ℕ → Option X
  at [] i = None
  at (x ∷ xs) zero = Some x
  at (x ∷ xs) (suc i) = at xs i

  abbrev pub changed : List X → ℕ → (X → X) → List X
  changed [] i f = []
  changed (x ∷ xs) zero f = f x ∷ xs
  changed (x ∷ xs) (suc i) f = x ∷ changed xs i f

  -- positions counted from 1
  abbrev pub at_number : List X → ℕ → Option X
  at_number xs zero = None
  at_number xs (suc i) = at xs i

-- a job just pushed: nobody has taken it
abbrev pub new_cell : {J O : Type 0} → J → Cell J O
new_cell job = record { job = job; taker = None; outcome = None }
