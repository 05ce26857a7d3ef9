-- What a whole file holds after its board's record: its calls, in order, and how it ends. Assumes nothing.
use Rattle.std.specs.Prelude.{◌≡◌, ℕ, zero, suc, ◌+◌, false, List, [], ◌∷◌, length, drop, Some, None, Ok, Err, Option, Result}
use Rattle.calls.specs.declared.call.Call.{Call}
use Rattle.jobs.specs.Form.{Form}
use Rattle.dayfile.specs.Format.{record_length, next_from}
use Rattle.dayfile.specs.declared.fault.FileFault.{FileFault}
use Rattle.dayfile.specs.declared.fault.FileRefusal.{FileRefusal}

-- the calls that are read, and what is wrong with the record after them, if that is not the end
pub record Held (J O : Type 0) : Type 0 where
  pub calls : List (Call J O)
  pub fault : Option FileFault

module _ {J O : Type 0} where
  abbrev pub and_then : Call J O → Held J O → Held J O
  and_then call later = record { calls = call ∷ later.calls; fault = later.fault }

  abbrev pub ended : ℕ → Result (Option (Call J O)) FileRefusal → Held J O → Held J O
  ended place (Ok (Some call)) later = and_then call later
  ended place (Ok None) later = record { calls = []; fault = None }
  ended place (Err refusal) later = record { calls = []; fault = Some (record { refusal = refusal; place = place }) }

  -- what a call that reads on takes of what was left
  abbrev pub Takes : Held J O → Result (Option (Call J O)) FileFault → Held J O → Type 0
  Takes before (Ok (Some call)) after = before ≡ and_then call after
  Takes before (Ok None) after = before ≡ record { calls = []; fault = None }
  Takes before (Err fault) after = before ≡ record { calls = []; fault = Some fault }

module _ {J O : Type 0} (job : Form J) (outcome : Form O) where
  -- what the bytes from a place on hold; no more than `turns` records are read, and a file has no more than bytes
  abbrev pub held : ℕ → ℕ → List ℕ → Held J O
  held zero place rest = record { calls = []; fault = None }
  held (suc turns) place rest =
      ended place (next_from job outcome false rest) (held turns (place + record_length rest) (drop (record_length rest) rest))

  -- all that a file holds after its board's record
  abbrev pub held_in : List ℕ → Held J O
  held_in file = held (length file) (record_length file) (drop (record_length file) file)
