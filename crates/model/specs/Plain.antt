-- The plain board: what the operations of a board mean when they come one at a time. Assumes nothing.
use Rattle.std.specs.Prelude.{ℕ, suc, ◌-◌, min, Bool, false, cond, List, [], ◌∷◌, ◌++◌, length, take, is_some, Some, None, Option, ◌==◌, nat_lt}
use Rattle.model.specs.Helping.{marked, with_outcome}
use Rattle.model.specs.Places.{at, at_number, changed, new_cell}
use Rattle.model.specs.declared.cell.Cell.{Cell}
use Rattle.model.specs.declared.reply.Answer.{Answer}
use Rattle.model.specs.declared.reply.Answer.TheVariants.{Pushed, Work, Stolen, Retired, Taken, Finished, Refused}
use Rattle.model.specs.declared.reply.Refusal.{Refusal}
use Rattle.model.specs.declared.reply.Refusal.TheVariants.{Full, Empty, NotTold, Unfinished, Holding, HoldsNone}

-- its size, its entries, oldest first, and how many of them a pop has reported stolen
pub record Plain (J O : Type 0) : Type 0 where
  pub size : ℕ
  pub entries : List (Cell J O)
  pub told : ℕ

-- what an operation asks
pub data Deed (J O : Type 0) : Type 0 where
  pushes : J → Deed J O
  pops : Deed J O
  retires : Deed J O
  takes : ℕ → Deed J O
  finishes : ℕ → O → Deed J O

-- an answer, and the plain board after it
pub record Turn (J O : Type 0) : Type 0 where
  pub answer : Answer J O
  pub board : Plain J O

abbrev past_one : Option ℕ → Option ℕ
past_one None = None
past_one (Some place) = Some (suc place)

abbrev is_number : ℕ → Option ℕ → Bool
is_number helper None = false
is_number helper (Some number) = number == helper

module _ {J O : Type 0} where
  abbrev pub new_plain : ℕ → Plain J O
  new_plain size = record { size = size; entries = []; told = 0 }

  abbrev pub with_entries : Plain J O → List (Cell J O) → Plain J O
  with_entries b entries = record { size = b.size; entries = entries; told = b.told }

  -- an answer with a board that holds these entries, or a refusal that leaves it alone
  abbrev pub answers : Plain J O → Answer J O → List (Cell J O) → Turn J O
  answers b answer entries = record { answer = answer; board = with_entries b entries }

  abbrev pub refuses : Plain J O → Refusal → Turn J O
  refuses b refusal = record { answer = Refused refusal; board = b }

  -- the place of the oldest entry that nobody has taken
  abbrev pub oldest_untaken : List (Cell J O) → Option ℕ
  oldest_untaken [] = None
  oldest_untaken (entry ∷ entries) = cond (is_some entry.taker) (past_one (oldest_untaken entries)) (Some 0)

  -- a helper holds what it took and has not finished
  abbrev pub held_by : ℕ → Cell J O → Bool
  held_by helper entry = cond (is_some entry.outcome) false (is_number helper entry.taker)

  abbrev pub place_held : ℕ → List (Cell J O) → Option ℕ
  place_held helper [] = None
  place_held helper (entry ∷ entries) = cond (held_by helper entry) (Some 0) (past_one (place_held helper entries))

module _ {J O : Type 0} (b : Plain J O) where
  -- the newest entry, and the entries without it
  abbrev newest : Option (Cell J O)
  newest = at_number b.entries (length b.entries)

  abbrev older : List (Cell J O)
  older = take (length b.entries - 1) b.entries

  abbrev pub plain_push : J → Turn J O
  plain_push job =
      cond (length b.entries == b.size) (refuses b Full) (answers b Pushed (b.entries ++ new_cell job ∷ []))

  abbrev pub plain_pop : Option (Cell J O) → Turn J O
  plain_pop None = refuses b Empty
  plain_pop (Some entry) =
      cond (is_some entry.taker) (record {
        answer = Stolen;
        board = record { size = b.size; entries = b.entries; told = length b.entries };
      }) (answers b (Work entry.job) older)

  abbrev plain_retire_with : Option O → Turn J O
  plain_retire_with None = refuses b Unfinished
  plain_retire_with (Some outcome) = record {
    answer = Retired outcome;
    board = record { size = b.size; entries = older; told = min b.told (length b.entries - 1) };
  }

  abbrev pub plain_retire : Option (Cell J O) → Turn J O
  plain_retire None = refuses b Empty
  plain_retire (Some entry) = cond (nat_lt b.told (length b.entries)) (refuses b NotTold) (plain_retire_with entry.outcome)

  abbrev plain_take_at : ℕ → ℕ → Option (Cell J O) → Option (Turn J O)
  plain_take_at helper place None = None
  plain_take_at helper place (Some entry) = Some (answers b (Taken entry.job) (changed b.entries place (marked helper)))

  abbrev plain_take_first : ℕ → Option ℕ → Option (Turn J O)
  plain_take_first helper None = None
  plain_take_first helper (Some place) = plain_take_at helper place (at b.entries place)

  -- with nothing untaken a take has no answer
  abbrev pub plain_take : ℕ → Option ℕ → Option (Turn J O)
  plain_take helper (Some place) = Some (refuses b Holding)
  plain_take helper None = plain_take_first helper (oldest_untaken b.entries)

  abbrev pub plain_finish : O → Option ℕ → Turn J O
  plain_finish outcome None = refuses b HoldsNone
  plain_finish outcome (Some place) = answers b Finished (changed b.entries place (with_outcome outcome))

  -- what the plain board answers to a deed, if it has an answer
  abbrev pub does : Deed J O → Option (Turn J O)
  does (pushes job) = Some (plain_push job)
  does pops = Some (plain_pop newest)
  does retires = Some (plain_retire newest)
  does (takes helper) = plain_take helper (place_held helper b.entries)
  does (finishes helper outcome) = Some (plain_finish outcome (place_held helper b.entries))
