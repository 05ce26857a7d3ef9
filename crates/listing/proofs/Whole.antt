-- The whole listing, told of a file that was opened. Assumes nothing.
use Rattle.std.proofs.Common.{◌≡◌, ℕ, true, List, ◌++◌, Ok, sym, ap, ◌∙◌}
use Rattle.dayfile.specs.Format.{record_length, settings_from}
use Rattle.dayfile.specs.Opened.{left}
use Rattle.dayfile.specs.Reading.{file_of}
use Rattle.dayfile.specs.declared.day_file.DayFile.{DayFile}
use Rattle.dayfile.specs.declared.settings.JobKind.{JobKind}
use Rattle.dayfile.proofs.Opening.{left_whole}
use Rattle.jobs.specs.Form.{Form}
use Rattle.listing.specs.Counts.{nothing_yet}
use Rattle.listing.specs.Lines.{board_line}
use Rattle.listing.specs.Listing.{lines_of, calls_listed, listed, listed_under, listing}
use Rattle.text.specs.Content.{line}

pub opened : {J O : Type 0} (job : Form J) (outcome : Form O) (kind : JobKind) (file : List ℕ) (d : DayFile) → ((f : List ℕ) → listed kind f ≡ calls_listed job outcome f) → settings_from true file ≡ Ok d.settings → file_of d.reader ≡ file → d.reader.position ≡ record_length file → d.settings.jobs ≡ kind → listing file ≡ line (board_line d.settings) ++ lines_of job outcome nothing_yet (left job outcome d)
opened job outcome kind file d by_kind read whole past of_kind =
    ap (λ x. listed_under x file) read
    ∙ ap (λ l. line (board_line d.settings) ++ l)
    (ap (λ k. listed k file) of_kind ∙ by_kind file ∙ ap (lines_of job outcome nothing_yet) (sym (left_whole job outcome d file whole past)))
