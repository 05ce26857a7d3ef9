-- How a day is written as a file, and the law that reading gives back what was written. Assumes nothing.
use Rattle.std.specs.Prelude.{◌≡◌, ℕ, ◌<◌, ◌≤◌, Bool, true, false, not, ◌&&◌, T, List, [], ◌∷◌, ◌++◌, length, drop, Some, None, Ok, nat_lt}
use Rattle.std.specs.List.{flat_map, AllByRecursion}
use Rattle.calls.specs.declared.call.Call.{Call}
use Rattle.calls.specs.declared.call.Call.TheVariants.{Push, Pop, Retire, OwnerStep, HelperStep, Finish, Land}
use Rattle.jobs.specs.Bytes.{u16_bytes}
use Rattle.jobs.specs.Form.{Form}
use Rattle.dayfile.specs.Format.{outside, record_length, settings_from, next_from}
use Rattle.dayfile.specs.declared.settings.JobKind.{JobKind}
use Rattle.dayfile.specs.declared.settings.JobKind.TheVariants.{Cards, Labels}
use Rattle.dayfile.specs.declared.settings.MemoryKind.{MemoryKind}
use Rattle.dayfile.specs.declared.settings.MemoryKind.TheVariants.{Direct, Queued}
use Rattle.dayfile.specs.declared.settings.Settings.{Settings}

abbrev pub record_bytes : ℕ → List ℕ → List ℕ
record_bytes tag value = tag ∷ (u16_bytes (length value) ++ value)

abbrev pub memory_byte : MemoryKind → ℕ
memory_byte Direct = 0
memory_byte Queued = 1

abbrev pub job_byte : JobKind → ℕ
job_byte Cards = 0
job_byte Labels = 1

abbrev pub settings_bytes : Settings → List ℕ
settings_bytes s = record_bytes 1 (u16_bytes s.size ++ (s.helpers ∷ memory_byte s.memory ∷ job_byte s.jobs ∷ []))

abbrev pub settings_fit : Settings → Bool
settings_fit s = not (outside 1 1024 s.size) && not (outside 1 16 s.helpers)

module _ {J O : Type 0} (job : Form J) (outcome : Form O) where
  abbrev pub call_bytes : Call J O → List ℕ
  call_bytes (Push j) = record_bytes 2 (job.encoded j)
  call_bytes Pop = record_bytes 3 []
  call_bytes Retire = record_bytes 4 []
  call_bytes OwnerStep = record_bytes 5 []
  call_bytes (HelperStep helper) = record_bytes 6 (helper ∷ [])
  call_bytes (Finish helper o) = record_bytes 7 (helper ∷ outcome.encoded o)
  call_bytes Land = record_bytes 8 []

  -- its numbers fit their bytes
  abbrev pub call_fits : Call J O → Bool
  call_fits (Push j) = job.fits j
  call_fits Pop = true
  call_fits Retire = true
  call_fits OwnerStep = true
  call_fits (HelperStep helper) = nat_lt helper 256
  call_fits (Finish helper o) = nat_lt helper 256 && outcome.fits o
  call_fits Land = true

  abbrev pub day_bytes : Settings → List (Call J O) → List ℕ
  day_bytes s calls = settings_bytes s ++ flat_map call_bytes calls

  -- reading on from here gives these calls, one after another, and then the end
  abbrev pub Reads : List ℕ → List (Call J O) → Type 0
  Reads rest [] = next_from job outcome false rest ≡ Ok None
  Reads rest (c ∷ calls) = (next_from job outcome false rest ≡ Ok (Some c)) × Reads (drop (record_length rest) rest) calls

  -- a day that was written is a file of bytes, and is read as that day
  pub record ReadAsWritten (s : Settings) (calls : List (Call J O)) : Type 0 where
    pub bytes : AllByRecursion (λ b. b < 256) (day_bytes s calls)
    pub board : settings_from true (day_bytes s calls) ≡ Ok s
    pub rest : Reads (drop (record_length (day_bytes s calls)) (day_bytes s calls)) calls

  -- every day whose numbers fit, and that a file has room for, is read as it was written
  abbrev pub DaysReadBack : Type 0
  DaysReadBack =
      (s : Settings) (calls : List (Call J O)) → T (settings_fit s) → AllByRecursion (λ c. T (call_fits c)) calls → length (day_bytes s calls) ≤ 61440 → ReadAsWritten s calls
