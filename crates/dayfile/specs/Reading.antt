-- Where a reader stands in its file, and how a call moves it. Assumes nothing.
use Rattle.std.specs.Prelude.{◌≡◌, ℕ, ◌+◌, ◌≤◌, Bool, true, false, cond, T, List, length, drop, Some, None, Ok, Err, Option, Result, ◌==◌}
use Rattle.dayfile.specs.Format.{record_length}
use Rattle.dayfile.specs.declared.fault.FileFault.{FileFault}
use Rattle.dayfile.specs.declared.fault.FileRefusal.{FileRefusal}
use Rattle.dayfile.specs.declared.reader.Found.{Found}
use Rattle.dayfile.specs.declared.reader.Reader.{Reader}

abbrev pub file_of : Reader → List ℕ
file_of r = r.bytes.now

-- the record to be read is the file's first
abbrev pub at_start : Reader → Bool
at_start r = r.position == 0

-- the file from the record on that is to be read
abbrev pub unread : Reader → List ℕ
unread r = drop r.position (file_of r)

-- a call gave a record, and not the end or a refusal
abbrev pub gave : {X : Type 0} → Result (Option X) FileFault → Bool
gave (Ok (Some x)) = true
gave (Ok None) = false
gave (Err fault) = false

-- the reader stands in the same file, past the record where that was given and never past the file's end
pub record Moves (s : Reader) (given : Bool) (t : Reader) : Type 0 where
  pub same : file_of t ≡ file_of s
  pub position : t.position ≡ cond given (s.position + record_length (unread s)) s.position
  pub within : T given → t.position ≤ length (file_of s)

-- the record to be read ends here, within the file
pub record EndsAt (s : Reader) (end : ℕ) : Type 0 where
  pub place : end ≡ s.position + record_length (unread s)
  pub within : end ≤ length (file_of s)

-- what a record says
abbrev pub said : {X : Type 0} → Result (Found X) FileRefusal → Result X FileRefusal
said (Ok found) = Ok found.what
said (Err refusal) = Err refusal
