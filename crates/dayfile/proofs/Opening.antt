-- The board's record, and the file once it has been read. Assumes nothing.
use Rattle.std.proofs.Common.{◌≡◌, ℕ, ◌≤◌, Bool, true, List, length, drop, Ok, Err, Result, sym, ap, ◌∙◌, eqb, arith}
use Rattle.dayfile.specs.Format.{record_length, settings_from, placed}
use Rattle.dayfile.specs.Holding.{held, held_in}
use Rattle.dayfile.specs.Opened.{left}
use Rattle.dayfile.specs.Reading.{file_of, at_start, unread}
use Rattle.dayfile.specs.declared.day_file.DayFile.{DayFile}
use Rattle.dayfile.specs.declared.fault.FileFault.{FileFault}
use Rattle.dayfile.specs.declared.fault.FileRefusal.{FileRefusal}
use Rattle.dayfile.specs.declared.reader.Reader.{Reader}
use Rattle.dayfile.specs.declared.settings.Settings.{Settings}
use Rattle.jobs.specs.Form.{Form}

pub record InBounds (s : Settings) : Type 0 where
  pub some_cells : 1 ≤ s.size
  pub few_cells : s.size ≤ 1024
  pub some_helpers : 1 ≤ s.helpers
  pub few_helpers : s.helpers ≤ 16

-- a board that was read has a size and helpers within their bounds
pub in_bounds : (first : Bool) (rest : List ℕ) (s : Settings) → settings_from first rest ≡ Ok s → InBounds s
in_bounds first rest s is = record { some_cells = grind arith; few_cells = grind arith; some_helpers = grind arith; few_helpers = grind arith }

-- and its file is not too long
pub not_long : (file : List ℕ) (s : Settings) → settings_from true file ≡ Ok s → length file ≤ 61440
not_long file s is = grind arith

ok_read : {X : Type 0} (place : ℕ) (x : X) (r : Result X FileRefusal) → Ok x ≡ placed place r → r ≡ Ok x
ok_read place x (Ok y) same = cc
ok_read place x (Err refusal) same = cc

err_read : {X : Type 0} (place : ℕ) (fault : FileFault) (r : Result X FileRefusal) → Err fault ≡ placed place r → (r ≡ Err fault.refusal) × (fault.place ≡ place)
err_read place fault (Ok y) same = (cc, cc)
err_read place fault (Err refusal) same = (cc, cc)

module _ (file : List ℕ) (r : Reader) (whole : file_of r ≡ file) (start : r.position ≡ 0) where
  first_record : settings_from (at_start r) (unread r) ≡ settings_from true file
  first_record =
      ap (λ p. settings_from (eqb p 0) (drop p (file_of r))) start ∙ ap (settings_from true) whole

  pub board_read : (s : Settings) → Ok s ≡ placed r.position (settings_from (at_start r) (unread r)) → settings_from true file ≡ Ok s
  board_read s is = sym first_record ∙ ok_read r.position s (settings_from (at_start r) (unread r)) is

  pub board_refused : (fault : FileFault) → Err fault ≡ placed r.position (settings_from (at_start r) (unread r)) → (settings_from true file ≡ Err fault.refusal) × (fault.place ≡ 0)
  board_refused fault is =
      let (read, at) = err_read r.position fault (settings_from (at_start r) (unread r)) is in (sym first_record ∙ read, at ∙ start)

-- what is left where a file has just been opened
pub left_whole : {J O : Type 0} (job : Form J) (outcome : Form O) (d : DayFile) (file : List ℕ) → file_of d.reader ≡ file → d.reader.position ≡ record_length file → left job outcome d ≡ held_in job outcome file
left_whole job outcome d file whole past =
    ap (λ f. held job outcome (length f) d.reader.position (drop d.reader.position f)) whole ∙ ap (λ p. held job outcome (length file) p (drop p file)) past
