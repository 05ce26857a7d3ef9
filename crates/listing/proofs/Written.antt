-- A day that was written as a file is listed as that day. Assumes nothing.
use Rattle.std.proofs.Common.{◌≡◌, ℕ, ◌<◌, List, ◌++◌, length, drop, refl, ap, ◌∙◌, arith, length-append}
use Rattle.std.specs.List.{flat_map}
use Rattle.dayfile.specs.Encoding.{settings_bytes, call_bytes, day_bytes}
use Rattle.dayfile.specs.Format.{record_length}
use Rattle.dayfile.specs.declared.settings.JobKind.{JobKind}
use Rattle.dayfile.specs.declared.settings.JobKind.TheVariants.{Cards, Labels}
use Rattle.dayfile.proofs.Encoding.{days_read_back}
use Rattle.dayfile.proofs.Holding.{reads_held, calls_within}
use Rattle.jobs.specs.Back.{cards_back, balances_back, labels_back, printed_back}
use Rattle.jobs.specs.Card.{card_form, balance_form}
use Rattle.jobs.specs.Form.{Form, ReadsBack}
use Rattle.jobs.specs.Label.{label_form, printed_form}
use Rattle.listing.specs.Counts.{nothing_yet}
use Rattle.listing.specs.Lines.{board_line}
use Rattle.text.specs.Content.{line}
use Rattle.listing.specs.Listing.{lines_of, calls_listed, listed, listed_under, WrittenDayListed}

module _ {J O : Type 0} (kind : JobKind) (job : Form J) (outcome : Form O) (jobs_back : ReadsBack job) (outcomes_back : ReadsBack outcome) (by_kind : (file : List ℕ) → listed kind file ≡ calls_listed job outcome file) where
  written_day_listed : WrittenDayListed kind job outcome
  written_day_listed s calls of_kind s_fits fit long =
      let file = day_bytes job outcome s calls in
      let read = days_read_back job outcome jobs_back outcomes_back s calls s_fits fit long in
      let few : length calls < length file = omega (arith, calls_within job outcome calls, length-append (settings_bytes s) (flat_map (call_bytes job outcome) calls)) in
      let held_so = reads_held job outcome calls (drop (record_length file) file) (length file) (record_length file) read.rest few in
      ap (λ x. listed_under x file) read.board
      ∙ ap (λ k. line (board_line s) ++ listed k file) of_kind
      ∙ ap (λ l. line (board_line s) ++ l) (by_kind file ∙ ap (lines_of job outcome nothing_yet) held_so)

pub card_days : WrittenDayListed Cards card_form balance_form
card_days = written_day_listed Cards card_form balance_form cards_back balances_back (λ file. refl)

pub label_days : WrittenDayListed Labels label_form printed_form
label_days = written_day_listed Labels label_form printed_form labels_back printed_back (λ file. refl)
