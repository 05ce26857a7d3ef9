-- Every day is a run of a board just made. Assumes nothing.
use Rattle.std.proofs.Common.{◌≡◌, ℕ, suc, ◌+◌, ◌-◌, ◌≤◌, min, Bool, true, false, cond, eqb, List, [], ◌∷◌, ◌++◌, length, replicate, Ok, Err, Result, sym, refl, ap, ◌∙◌, subst, append_assoc, append-nil, arith, length-append, length-drop}
use borrow.Author.Tests.{eqb-false}
use lib.ListN.{length-replicate}
use Rattle.board.proofs.Made.{is_new}
use Rattle.calls.specs.Calls.{party_of}
use Rattle.calls.specs.declared.call.Call.{Call}
use Rattle.dayfile.specs.Format.{settings_from}
use Rattle.dayfile.specs.Holding.{held_in}
use Rattle.dayfile.specs.declared.fault.FileRefusal.{FileRefusal}
use Rattle.dayfile.specs.declared.settings.JobKind.{JobKind}
use Rattle.dayfile.specs.declared.settings.JobKind.TheVariants.{Cards, Labels}
use Rattle.dayfile.specs.declared.settings.MemoryKind.{MemoryKind}
use Rattle.dayfile.specs.declared.settings.MemoryKind.TheVariants.{Direct, Queued}
use Rattle.dayfile.specs.declared.settings.Settings.{Settings}
use Rattle.dayfile.proofs.Opening.{InBounds, in_bounds}
use Rattle.jobs.specs.Card.{card_form, balance_form}
use Rattle.jobs.specs.Form.{Form}
use Rattle.jobs.specs.Label.{label_form, printed_form}
use Rattle.line.specs.Lines.{line_of}
use Rattle.memory.specs.Meaning as memory
use Rattle.model.specs.Calls.{Entry, effect_of}
use Rattle.model.specs.Histories.{New, Runs}
use Rattle.model.specs.Places.{new_cell}
use Rattle.model.specs.State.{State}
use Rattle.model.proofs.Lawful.{holds_always}
use Rattle.text.specs.Content.{line}
use Rattle.runner.specs.Days.{reply_by, after_by, lines_by, lands_in, blank_card, blank_label, start_of, day_by, day_under, day_of}
use Rattle.runner.specs.Lawful.{LawfulLines, LawfulBy, LawfulUnder, LawfulDay}
use Rattle.runner.specs.Running.{asked, printed}

-- so few writes wait in each memory
abbrev Few : MemoryKind → memory.Meaning → Type 0
Few Direct m = length m.waiting ≡ 0
Few Queued m = length m.waiting ≤ 8

-- what it lands is admissible, and as few wait then
abbrev LandsWell : MemoryKind → memory.Access → memory.Meaning → Type 0
LandsWell kind a m = memory.MayLand a (lands_in kind a m) m × Few kind (memory.after a (lands_in kind a m) m)

direct_well : (a : memory.Access) (m : memory.Meaning) → Few Direct m → LandsWell Direct a m
direct_well memory.reads m few = (refl, few)
direct_well (memory.puts x) m few =
    ((omega arith, omega arith), omega (arith, length-drop 1 (m.waiting ++ x ∷ []), length-append m.waiting (x ∷ [])))
direct_well memory.fences m few = (sym few, omega (arith, length-drop 0 m.waiting))
direct_well memory.lands m few = ((omega arith, λ some. absurd (omega arith)), omega (arith, length-drop 0 m.waiting))
direct_well (memory.tries t s) m few = (refl, few)
direct_well memory.asks m few = (refl, few)

-- a write that finds eight waiting lands one
queued_puts : (full : Bool) (m : memory.Meaning) → eqb (length m.waiting) 8 ≡ full → length m.waiting ≤ 8 → (cond full 1 0 ≤ length m.waiting + 1) × ((length m.waiting + 1 ≤ cond full 1 0 + 64) × (length m.waiting + 1 - cond full 1 0 ≤ 8))
queued_puts true m is few = (omega arith, (omega arith, omega arith))
queued_puts false m is few = let less = eqb-false (length m.waiting) 8 is in (omega arith, (omega arith, omega (arith, less)))

queued_well : (a : memory.Access) (m : memory.Meaning) → Few Queued m → LandsWell Queued a m
queued_well memory.reads m few = (refl, few)
queued_well (memory.puts x) m few =
    let (most, (least, left)) = queued_puts (eqb (length m.waiting) 8) m refl few in
    let n : ℕ = cond (eqb (length m.waiting) 8) 1 0 in
    ((most, least), omega (arith, left, length-drop n (m.waiting ++ x ∷ []), length-append m.waiting (x ∷ [])))
queued_well memory.fences m few = (refl, omega (arith, length-drop (length m.waiting) m.waiting))
queued_well memory.lands m few = ((omega arith, λ some. omega arith), omega (arith, length-drop (min 1 (length m.waiting)) m.waiting))
queued_well (memory.tries t s) m few = (refl, few)
queued_well memory.asks m few = (refl, few)

lands_well : (kind : MemoryKind) (a : memory.Access) (m : memory.Meaning) → Few kind m → LandsWell kind a m
lands_well Direct = direct_well
lands_well Queued = queued_well

few_at_first : (kind : MemoryKind) (m : memory.Meaning) → m.waiting ≡ [] → Few kind m
few_at_first Direct m none = ap length none
few_at_first Queued m none = omega (arith, ap length none)

module _ {J O : Type 0} (job : Form J) (outcome : Form O) (kind : MemoryKind) (start : State J O) where
  -- a run goes on with more calls
  pub record GoneOn (h : List (Entry J O)) (s : State J O) (calls : List (Call J O)) : Type 0 where
    pub history : List (Entry J O)
    pub last : State J O
    pub runs : Runs start history last
    pub asks : asked history ≡ asked h ++ calls
    pub prints : printed job outcome history ≡ printed job outcome h ++ lines_by (lands_in kind) job outcome s (suc (length h)) calls

  goes_on : (h : List (Entry J O)) (s : State J O) → Runs start h s → Few kind s.memory → (calls : List (Call J O)) → GoneOn h s calls
  goes_on h s runs few [] = record { history = h; last = s; runs = runs; asks = sym (append-nil (asked h)); prints = sym (append-nil (printed job outcome h)) }
  goes_on h s runs few (call ∷ calls) =
      let effect = effect_of s s.owner.size call in
      let well = lands_well kind effect.touches s.memory few in
      let e : Entry J O = record { handed = s.owner.size; call = call; reply = reply_by (lands_in kind) s call } in
      let s' = after_by (lands_in kind) s call in
      let next : Runs start (e ∷ h) s' = (s, runs, record { lands = well.0; replies = refl; moves = refl }) in
      let more = goes_on (e ∷ h) s' next well.1 calls in
      record {
        history = more.history;
        last = more.last;
        runs = more.runs;
        asks = more.asks ∙ append_assoc (asked h) (call ∷ []) calls;
        prints = more.prints ∙ append_assoc (printed job outcome h) (line (line_of job outcome (suc (length h)) (party_of call) (reply_by (lands_in kind) s call))) (lines_by (lands_in kind) job outcome s' (suc (suc (length h))) calls);
      }

  pub lawful_run : New start → start.memory.waiting ≡ [] → (calls : List (Call J O)) → LawfulLines job outcome start calls (lines_by (lands_in kind) job outcome start 1 calls)
  lawful_run new none calls =
      let gone = goes_on [] start refl (few_at_first kind start.memory none) calls in
      record {
        new = new;
        history = gone.history;
        last = gone.last;
        runs = gone.runs;
        asks = gone.asks;
        prints = gone.prints;
        holds = holds_always J O start gone.last gone.history new gone.runs;
      }

module _ {J O : Type 0} (job : Form J) (outcome : Form O) (any : J) (settings : Settings) (bounds : InBounds settings) where
  starts_new : New (start_of job outcome any settings)
  starts_new =
      is_new (start_of job outcome any settings) settings.size settings.helpers (replicate settings.size (new_cell any)) refl bounds.some_cells bounds.few_cells bounds.some_helpers bounds.few_helpers (length-replicate settings.size (new_cell any))

  pub lawful_on : (calls : List (Call J O)) → LawfulLines job outcome (start_of job outcome any settings) calls (lines_by (lands_in settings.memory) job outcome (start_of job outcome any settings) 1 calls)
  lawful_on calls = lawful_run job outcome settings.memory (start_of job outcome any settings) starts_new refl calls

by_kind : (kind : JobKind) (settings : Settings) (file : List ℕ) → InBounds settings → day_of file ≡ day_by kind settings file → LawfulBy kind settings file
by_kind Cards settings file bounds day =
    subst (LawfulLines card_form balance_form _ _) (sym (ap (λ d. d.lines) day)) (lawful_on card_form balance_form blank_card settings bounds (held_in card_form balance_form file).calls)
by_kind Labels settings file bounds day =
    subst (LawfulLines label_form printed_form _ _) (sym (ap (λ d. d.lines) day)) (lawful_on label_form printed_form blank_label settings bounds (held_in label_form printed_form file).calls)

under : (x : Result Settings FileRefusal) (file : List ℕ) → settings_from true file ≡ x → LawfulUnder x file
under (Ok settings) file is = by_kind settings.jobs settings file (in_bounds true file settings is) (ap (λ x. day_under x file) is)
under (Err refusal) file is = tt

pub lawful_day : (file : List ℕ) → LawfulDay file
lawful_day file = under (settings_from true file) file refl
