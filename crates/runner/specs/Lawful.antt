-- The law of every run, on whole days. Assumes nothing.
use Rattle.std.specs.Prelude.{◌≡◌, ℕ, true, List, Ok, Err, Result}
use Rattle.calls.specs.declared.call.Call.{Call}
use Rattle.dayfile.specs.Format.{settings_from}
use Rattle.dayfile.specs.Holding.{held_in}
use Rattle.dayfile.specs.declared.fault.FileRefusal.{FileRefusal}
use Rattle.dayfile.specs.declared.settings.JobKind.{JobKind}
use Rattle.dayfile.specs.declared.settings.JobKind.TheVariants.{Cards, Labels}
use Rattle.dayfile.specs.declared.settings.Settings.{Settings}
use Rattle.jobs.specs.Card.{card_form, balance_form}
use Rattle.jobs.specs.Form.{Form}
use Rattle.jobs.specs.Label.{label_form, printed_form}
use Rattle.model.specs.Calls.{Entry}
use Rattle.model.specs.Histories.{New, Runs}
use Rattle.model.specs.Law.{Holds}
use Rattle.model.specs.State.{State}
use Rattle.runner.specs.Days.{blank_card, blank_label, start_of, day_of}
use Rattle.runner.specs.Running.{asked, printed}

module _ {J O : Type 0} (job : Form J) (outcome : Form O) where
  -- the lines are those of a history of a board just made, in which just these calls were asked, and the law holds of it
  pub record LawfulLines (start : State J O) (calls : List (Call J O)) (lines : List ℕ) : Type 0 where
    pub new : New start
    pub history : List (Entry J O)
    pub last : State J O
    pub runs : Runs start history last
    pub asks : asked history ≡ calls
    pub prints : printed job outcome history ≡ lines
    pub holds : Holds start history last

abbrev pub LawfulBy : JobKind → Settings → List ℕ → Type 0
LawfulBy Cards settings file =
    LawfulLines card_form balance_form (start_of card_form balance_form blank_card settings) (held_in card_form balance_form file).calls (day_of file).lines
LawfulBy Labels settings file =
    LawfulLines label_form printed_form (start_of label_form printed_form blank_label settings) (held_in label_form printed_form file).calls (day_of file).lines

-- a file whose board is refused has no calls
abbrev pub LawfulUnder : Result Settings FileRefusal → List ℕ → Type 0
LawfulUnder (Ok settings) file = LawfulBy settings.jobs settings file
LawfulUnder (Err refusal) file = Unit {0}

-- what any file's calls print
abbrev pub LawfulDay : List ℕ → Type 0
LawfulDay file = LawfulUnder (settings_from true file) file
