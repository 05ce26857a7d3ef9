-- What the calls find in the cells. Assumes nothing.
use Rattle.std.specs.Prelude.{ℕ, cond, List, Some, None, Err, Option, Result, nat_lt}
use Rattle.std.specs.Option.{option_map, ok_or}
use Rattle.model.specs.Places.{at}
use Rattle.model.specs.declared.cell.Cell.{Cell}
use Rattle.model.specs.declared.reply.Refusal.{Refusal}
use Rattle.model.specs.declared.reply.Refusal.TheVariants.{Empty, NotTold, Unfinished}

module _ {J O : Type 0} where
  abbrev pub job_at : List (Cell J O) → ℕ → Option J
  job_at cells position = option_map (λ cell. cell.job) (at cells position)

  -- the outcome of the cell below head, or why it can't be retired
  abbrev pub retirable : ℕ → ℕ → Option (Cell J O) → Result O Refusal
  retirable told head None = Err Empty
  retirable told head (Some cell) = cond (nat_lt told head) (Err NotTold) (ok_or cell.outcome Unfinished)
