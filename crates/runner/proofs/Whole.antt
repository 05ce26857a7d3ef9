-- The whole day, from the board's record on. Assumes nothing.
use Rattle.std.proofs.Common.{◌≡◌, ℕ, true, List, [], ◌++◌, Some, Ok, Err, Option, Result, sym, refl, ap, ◌∙◌, subst, append_assoc, append-nil}
use Rattle.dayfile.specs.Format.{record_length, settings_from}
use Rattle.dayfile.specs.Holding.{held_in}
use Rattle.dayfile.specs.Opened.{left}
use Rattle.dayfile.specs.Reading.{file_of}
use Rattle.dayfile.specs.declared.day_file.DayFile.{DayFile}
use Rattle.dayfile.specs.declared.fault.FileFault.{FileFault}
use Rattle.dayfile.specs.declared.settings.JobKind.{JobKind}
use Rattle.dayfile.proofs.Opening.{left_whole}
use Rattle.jobs.specs.Form.{Form}
use Rattle.runner.specs.Days.{Day, day_on, day_by, day_under, day_of, fault_line, Prints}
use Rattle.runner.specs.declared.fault.DayFault.{DayFault}
use Rattle.runner.specs.declared.fault.DayFault.TheVariants.{File, Board, Line, NoMemory}

-- a day, told of its record
abbrev PrintsDay : Day → List ℕ → Result (Unit {0}) DayFault → List ℕ → Type 0
PrintsDay d out r out' = Prints d.lines d.fault out r out'

module _ (file : List ℕ) where
  -- the first record is refused
  pub refused_whole : (fault : FileFault) (turned : DayFault) (res : Result (Unit {0}) DayFault) (out : List ℕ) → settings_from true file ≡ Err fault.refusal → fault.place ≡ 0 → res ≡ Err turned → turned ≡ File fault → PrintsDay (day_of file) out res out
  refused_whole fault turned res out refused at told as_file =
      let here = ap (λ (p : ℕ). Some (record { refusal = fault.refusal; place = p })) at in
      subst (λ x. PrintsDay (day_under x file) out res out) (sym refused) (subst (λ x. Prints [] (Some (record { refusal = fault.refusal; place = 0 })) out x out) (sym (told ∙ ap Err as_file)) (sym (append-nil out), sym here))

  -- the calls after it, for the file's kind of job
  pub calls_whole : {J O : Type 0} (job : Form J) (outcome : Form O) (any : J) (kind : JobKind) (d : DayFile) (out : List ℕ) (res : Result (Unit {0}) DayFault) (out' : List ℕ) → ((f : List ℕ) → day_by kind d.settings f ≡ day_on job outcome any d.settings (held_in job outcome f)) → d.settings.jobs ≡ kind → settings_from true file ≡ Ok d.settings → file_of d.reader ≡ file → d.reader.position ≡ record_length file → PrintsDay (day_on job outcome any d.settings (left job outcome d)) out res out' → PrintsDay (day_of file) out res out'
  calls_whole job outcome any kind d out res out' by_kind of_kind read whole past prints =
      let day = ap (day_on job outcome any d.settings) (left_whole job outcome d file whole past) ∙ sym (by_kind file) ∙ ap (λ k. day_by k d.settings file) (sym of_kind) ∙ sym (ap (λ x. day_under x file) read) in
      subst (λ x. PrintsDay x out res out') day prints

module _ (lines : List ℕ) (fault : Option FileFault) (out : List ℕ) where
  -- any other end has no such line
  pub other_end : (r : Result (Unit {0}) DayFault) (out' : List ℕ) → ((refused : FileFault) → r ≡ Err (File refused) → ⊥) → Prints lines fault out r out' → Prints (lines ++ fault_line fault) fault out r out'
  other_end (Ok x) out' not_file (gained, none) =
      (gained ∙ ap (λ l. out ++ l) (sym (append-nil lines)) ∙ ap (λ f. out ++ (lines ++ fault_line f)) (sym none), none)
  other_end (Err (File refused)) out' not_file prints = absurd (not_file refused refl)
  other_end (Err (Board met)) out' not_file prints = prints
  other_end (Err (Line met)) out' not_file prints = prints
  other_end (Err NoMemory) out' not_file (printed, later, gained, is) =
      (printed, later ++ fault_line fault, gained, ap (λ l. l ++ fault_line fault) is ∙ append_assoc printed later (fault_line fault))
