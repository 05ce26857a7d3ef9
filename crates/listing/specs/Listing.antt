-- The whole listing of a day file, by what the file holds. Assumes nothing.
use Rattle.std.specs.Prelude.{◌≡◌, ℕ, ◌≤◌, true, T, List, [], ◌∷◌, ◌++◌, length, Some, None, Ok, Err, Option, Result}
use Rattle.std.specs.List.{AllByRecursion}
use Rattle.calls.specs.declared.call.Call.{Call}
use Rattle.dayfile.specs.Encoding.{settings_fit, call_fits, day_bytes}
use Rattle.dayfile.specs.Faults.{refusal_line}
use Rattle.dayfile.specs.Format.{settings_from}
use Rattle.dayfile.specs.Holding.{Held, held_in}
use Rattle.dayfile.specs.declared.fault.FileFault.{FileFault}
use Rattle.dayfile.specs.declared.fault.FileRefusal.{FileRefusal}
use Rattle.dayfile.specs.declared.settings.JobKind.{JobKind}
use Rattle.dayfile.specs.declared.settings.JobKind.TheVariants.{Cards, Labels}
use Rattle.dayfile.specs.declared.settings.Settings.{Settings}
use Rattle.jobs.specs.Card.{card_form, balance_form}
use Rattle.jobs.specs.Form.{Form}
use Rattle.jobs.specs.Label.{label_form, printed_form}
use Rattle.listing.specs.Counts.{nothing_yet, tally, total_of, closing}
use Rattle.listing.specs.Lines.{board_line, call_line}
use Rattle.text.specs.Content.{line}
use Rattle.listing.specs.declared.counts.Counts.{Counts}

module _ {J O : Type 0} (job : Form J) (outcome : Form O) where
  -- a line for each call, numbered on from the counts so far; then the counts, or what is wrong with the next record
  abbrev pub lines_from : Counts → List (Call J O) → Option FileFault → List ℕ
  lines_from n [] None = line (closing n)
  lines_from n [] (Some fault) = line (refusal_line fault)
  lines_from n (call ∷ calls) fault = line (call_line job outcome (total_of (tally call n)) call) ++ lines_from (tally call n) calls fault

  abbrev pub lines_of : Counts → Held J O → List ℕ
  lines_of n h = lines_from n h.calls h.fault

  -- the lines of all that stands after the board's record
  abbrev pub calls_listed : List ℕ → List ℕ
  calls_listed file = lines_of nothing_yet (held_in job outcome file)

abbrev pub listed : JobKind → List ℕ → List ℕ
listed Cards file = calls_listed card_form balance_form file
listed Labels file = calls_listed label_form printed_form file

abbrev pub listed_under : Result Settings FileRefusal → List ℕ → List ℕ
listed_under (Ok settings) file = line (board_line settings) ++ listed settings.jobs file
listed_under (Err refusal) file = line (refusal_line (record { refusal = refusal; place = 0 }))

abbrev pub listing : List ℕ → List ℕ
listing file = listed_under (settings_from true file) file

-- a day of this kind of job that was written as a file is listed as that day: its board, a line for each call, the counts
abbrev pub WrittenDayListed : {J O : Type 0} → JobKind → Form J → Form O → Type 0
WrittenDayListed {J} {O} kind job outcome =
    (s : Settings) (calls : List (Call J O)) → s.jobs ≡ kind → T (settings_fit s) → AllByRecursion (λ c. T (call_fits job outcome c)) calls → length (day_bytes job outcome s calls) ≤ 61440 → listing (day_bytes job outcome s calls) ≡ line (board_line s) ++ lines_from job outcome nothing_yet calls None
