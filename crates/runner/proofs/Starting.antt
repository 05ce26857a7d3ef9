-- The day's start: its cells, and the board just made. Assumes nothing.
use Rattle.std.proofs.Common.{◌≡◌, ℕ, false, List, [], replicate, is_ok, Ok, Err, Result, sym, refl, ap, ◌∙◌, subst, append-nil}
use Rattle.board.specs.Making.{made_answer, made_board}
use Rattle.board.proofs.Made.{making_made}
use Rattle.dayfile.specs.Holding.{Held}
use Rattle.dayfile.specs.declared.day_file.DayFile.{DayFile}
use Rattle.dayfile.specs.declared.settings.Settings.{Settings}
use Rattle.jobs.specs.Form.{Form}
use Rattle.memory.specs.Meaning as memory
use Rattle.model.specs.Calls.{making, new_board}
use Rattle.model.specs.Places.{new_cell}
use Rattle.model.specs.State.{State}
use Rattle.model.specs.declared.cell.Cell.{Cell}
use Rattle.model.specs.declared.reply.Refusal.{Refusal}
use Rattle.runner.specs.Days.{start_of}
use Rattle.runner.specs.Running.{Ran}
use Rattle.runner.specs.declared.fault.DayFault.{DayFault}
use Rattle.runner.specs.declared.fault.DayFault.TheVariants.{NoMemory}

module _ {J O : Type 0} (job : Form J) (outcome : Form O) (picks : memory.Access → ℕ → memory.Meaning → Type 0) where
  -- without memory for the cells nothing is run
  pub nothing_run : (start : State J O) (all : Held J O) (out : List ℕ) (r : Result (Unit {0}) DayFault) (turned fault : DayFault) → r ≡ Err turned → turned ≡ fault → fault ≡ NoMemory → Ran job outcome picks start all out r out
  nothing_run start all out r turned fault told same want =
      subst (λ x. Ran job outcome picks start all out x out) (sym (told ∙ ap Err (same ∙ want))) (record { history = []; last = start; runs = refl; prints = sym (append-nil out); ends = (all.calls, refl) })

module _ {J O : Type 0} (d : DayFile) (settings : Settings) (same : settings ≡ d.settings) (cells : List (Cell J O)) where
  made : making settings.size settings.helpers cells ≡ Ok (new_board d.settings.size d.settings.helpers cells)
  made =
      ap (λ s. making s.size s.helpers cells) same ∙ making_made d.settings.size d.settings.helpers cells d.some_cells d.few_cells d.some_helpers d.few_helpers

  -- a file's board is never refused
  pub never_refused : {P : Type 0} (r : Result (Unit {0}) Refusal) → r ≡ made_answer (making settings.size settings.helpers cells) → false ≡ is_ok r → P
  never_refused r is refused = let well = is ∙ ap made_answer made in cc

  -- and is the one that is defined
  pub starts_so : (job : Form J) (outcome : Form O) (any : J) (s before : State J O) → s ≡ made_board (making settings.size settings.helpers cells) before → cells ≡ replicate settings.size (new_cell any) → s ≡ start_of job outcome any d.settings
  starts_so job outcome any s before is blanks =
      is ∙ ap (λ x. made_board x before) made ∙ ap (new_board d.settings.size d.settings.helpers) (blanks ∙ ap (λ x. replicate x.size (new_cell any)) same)
