-- What a day prints, by the bytes of its file. Assumes nothing.
use Rattle.std.specs.Prelude.{◌≡◌, ℕ, suc, true, List, [], ◌∷◌, ◌++◌, replicate, Some, None, Ok, Err, Option, Result}
use Rattle.calls.specs.Calls.{party_of}
use Rattle.calls.specs.declared.call.Call.{Call}
use Rattle.dayfile.specs.Faults.{refusal_line}
use Rattle.dayfile.specs.Format.{settings_from}
use Rattle.dayfile.specs.Holding.{Held, held_in}
use Rattle.dayfile.specs.declared.fault.FileFault.{FileFault}
use Rattle.dayfile.specs.declared.fault.FileRefusal.{FileRefusal}
use Rattle.dayfile.specs.declared.settings.JobKind.{JobKind}
use Rattle.dayfile.specs.declared.settings.JobKind.TheVariants.{Cards, Labels}
use Rattle.dayfile.specs.declared.settings.MemoryKind.{MemoryKind}
use Rattle.dayfile.specs.declared.settings.MemoryKind.TheVariants.{Direct, Queued}
use Rattle.dayfile.specs.declared.settings.Settings.{Settings}
use Rattle.jobs.specs.Card.{card_form, balance_form}
use Rattle.jobs.specs.Form.{Form}
use Rattle.jobs.specs.Label.{label_form, printed_form}
use Rattle.jobs.specs.declared.card.CardJob.{CardJob}
use Rattle.jobs.specs.declared.card.CardJob.TheVariants.{Award}
use Rattle.jobs.specs.declared.label.LabelJob.{LabelJob}
use Rattle.line.specs.Lines.{line_of}
use Rattle.memory.specs.Kept.{direct_lands, queued_lands}
use Rattle.memory.specs.Meaning as memory
use Rattle.model.specs.Calls.{effect_of, new_board}
use Rattle.model.specs.Places.{new_cell}
use Rattle.model.specs.State.{State, Effect, reply_of, state_after}
use Rattle.model.specs.declared.reply.Reply.{Reply}
use Rattle.text.specs.Content.{line}
use Rattle.runner.specs.declared.fault.DayFault.{DayFault}
use Rattle.runner.specs.declared.fault.DayFault.TheVariants.{File, Board, Line, NoMemory}

-- a memory that lands so many writes at each access
module _ {J O : Type 0} (lands : memory.Access → memory.Meaning → ℕ) where
  -- a call that is handed the board's cells
  abbrev pub effect_by : State J O → Call J O → Effect J O
  effect_by s call = effect_of s s.owner.size call

  abbrev pub reply_by : State J O → Call J O → Reply J O
  reply_by s call = reply_of (effect_by s call) (lands (effect_by s call).touches s.memory)

  abbrev pub after_by : State J O → Call J O → State J O
  after_by s call = state_after s (effect_by s call) (lands (effect_by s call).touches s.memory)

  -- the lines of some calls, the first of them with this number
  abbrev pub lines_by : Form J → Form O → State J O → ℕ → List (Call J O) → List ℕ
  lines_by job outcome s number [] = []
  lines_by job outcome s number (call ∷ calls) =
      line (line_of job outcome number (party_of call) (reply_by s call)) ++ lines_by job outcome (after_by s call) (suc number) calls

-- how many writes each memory lands
abbrev pub lands_in : MemoryKind → memory.Access → memory.Meaning → ℕ
lands_in Direct = direct_lands
lands_in Queued = queued_lands

-- the lines of a day's calls, and what is wrong with the record after them, if that is not the file's end
pub record Day : Type 0 where
  pub lines : List ℕ
  pub fault : Option FileFault

-- what the cells of a new board hold is never seen
abbrev pub blank_card : CardJob
blank_card = Award 0 0

abbrev pub blank_label : LabelJob
blank_label = record { first = 0; count = 0 }

module _ {J O : Type 0} (job : Form J) (outcome : Form O) (any : J) where
  -- a board just made
  abbrev pub start_of : Settings → State J O
  start_of settings = new_board settings.size settings.helpers (replicate settings.size (new_cell any))

  -- what the calls print that a file holds
  abbrev pub day_on : Settings → Held J O → Day
  day_on settings all = record {
    lines = lines_by (lands_in settings.memory) job outcome (start_of settings) 1 all.calls;
    fault = all.fault;
  }

abbrev pub day_by : JobKind → Settings → List ℕ → Day
day_by Cards settings file = day_on card_form balance_form blank_card settings (held_in card_form balance_form file)
day_by Labels settings file = day_on label_form printed_form blank_label settings (held_in label_form printed_form file)

abbrev pub day_under : Result Settings FileRefusal → List ℕ → Day
day_under (Ok settings) file = day_by settings.jobs settings file
day_under (Err refusal) file = record { lines = []; fault = Some (record { refusal = refusal; place = 0 }) }

abbrev pub day_of : List ℕ → Day
day_of file = day_under (settings_from true file) file

-- a refused record has a line after those of all earlier calls
abbrev pub fault_line : Option FileFault → List ℕ
fault_line None = []
fault_line (Some fault) = line (refusal_line fault)

-- all that a day prints
abbrev pub day_lines : List ℕ → List ℕ
day_lines file = (day_of file).lines ++ fault_line (day_of file).fault

-- the output gains these bytes and the day ends as it should; or memory ran out, and no line that was made is lost
abbrev pub Prints : List ℕ → Option FileFault → List ℕ → Result (Unit {0}) DayFault → List ℕ → Type 0
Prints bytes fault out (Ok x) out' = (out' ≡ out ++ bytes) × (fault ≡ None)
Prints bytes fault out (Err (File refused)) out' = (out' ≡ out ++ bytes) × (fault ≡ Some refused)
Prints bytes fault out (Err (Board met)) out' = ⊥
Prints bytes fault out (Err (Line met)) out' = ⊥
Prints bytes fault out (Err NoMemory) out' = (printed : List ℕ) × (later : List ℕ) × (out' ≡ out ++ printed) × (bytes ≡ printed ++ later)
