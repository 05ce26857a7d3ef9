-- Where a memory's picks say how many writes land, a day's lines are defined. Assumes nothing.
use Rattle.std.proofs.Common.{◌≡◌, ℕ, suc, ◌+◌, List, [], ◌∷◌, ◌++◌, length, Ok, Err, Result, sym, refl, ap, ◌∙◌, subst, append_assoc, append-nil, arith}
use Rattle.calls.specs.Calls.{party_of}
use Rattle.calls.specs.declared.call.Call.{Call}
use Rattle.dayfile.specs.Holding.{Held}
use Rattle.dayfile.specs.Opened.{left}
use Rattle.dayfile.specs.declared.day_file.DayFile.{DayFile}
use Rattle.dayfile.specs.declared.settings.MemoryKind.{MemoryKind}
use Rattle.deque.specs.Doing.{Acts}
use Rattle.jobs.specs.Form.{Form}
use Rattle.line.specs.Lines.{line_of}
use Rattle.memory.specs.Kept.{direct_lands, queued_lands}
use Rattle.memory.specs.Meaning as memory
use Rattle.model.specs.Calls.{Entry, effect_of}
use Rattle.model.specs.State.{State, reply_of, state_after}
use Rattle.text.specs.Content.{line}
use Rattle.runner.specs.Days.{reply_by, after_by, lines_by, lands_in, start_of, day_on, Prints}
use Rattle.runner.specs.Running.{asked, RunsBy, Ends, printed, Ran}
use Rattle.runner.specs.declared.fault.DayFault.{DayFault}
use Rattle.runner.specs.declared.fault.DayFault.TheVariants.{File, Board, Line, NoMemory}
use Rattle.runner.proofs.Going.{asked_long}

-- what the memory picks is this number
abbrev pub Pins : (memory.Access → ℕ → memory.Meaning → Type 0) → (memory.Access → memory.Meaning → ℕ) → Type 0
Pins picks lands = (a : memory.Access) (n : ℕ) (m : memory.Meaning) → memory.MayLand a n m → memory.Picked picks a n m → n ≡ lands a m

pub direct_pins : Pins (λ a n m. n ≡ direct_lands a m) direct_lands
direct_pins memory.reads n m may picked = may
direct_pins (memory.puts x) n m may picked = picked
direct_pins memory.fences n m may picked = picked
direct_pins memory.lands n m may picked = picked
direct_pins (memory.tries t s) n m may picked = may
direct_pins memory.asks n m may picked = may

pub queued_pins : Pins (λ a n m. n ≡ queued_lands a m) queued_lands
queued_pins memory.reads n m may picked = may
queued_pins (memory.puts x) n m may picked = picked
queued_pins memory.fences n m may picked = picked
queued_pins memory.lands n m may picked = picked
queued_pins (memory.tries t s) n m may picked = may
queued_pins memory.asks n m may picked = may

module _ {J O : Type 0} (lands : memory.Access → memory.Meaning → ℕ) where
  abbrev after_all : State J O → List (Call J O) → State J O
  after_all s [] = s
  after_all s (call ∷ calls) = after_all (after_by lands s call) calls

  after_more : (s : State J O) (calls : List (Call J O)) (call : Call J O) → after_all s (calls ++ (call ∷ [])) ≡ after_by lands (after_all s calls) call
  after_more s [] call = refl
  after_more s (c ∷ calls) call = after_more (after_by lands s c) calls call

  module _ (job : Form J) (outcome : Form O) where
    -- the lines of some calls and then of others
    pub lines_then : (s : State J O) (number : ℕ) (calls more : List (Call J O)) → lines_by lands job outcome s number (calls ++ more) ≡ lines_by lands job outcome s number calls ++ lines_by lands job outcome (after_all s calls) (number + length calls) more
    lines_then s number [] more = let same : number ≡ number + 0 = omega arith in ap (λ (n : ℕ). lines_by lands job outcome s n more) same
    lines_then s number (c ∷ calls) more =
        let first = line (line_of job outcome number (party_of c) (reply_by lands s c)) in
        let on : suc number + length calls ≡ number + suc (length calls) = omega arith in
        ap (λ l. first ++ l) (lines_then (after_by lands s c) (suc number) calls more ∙ ap (λ (n : ℕ). lines_by lands job outcome (after_by lands s c) (suc number) calls ++ lines_by lands job outcome (after_all (after_by lands s c) calls) n more) on)
        ∙ sym (append_assoc first (lines_by lands job outcome (after_by lands s c) (suc number) calls) (lines_by lands job outcome (after_all (after_by lands s c) calls) (number + suc (length calls)) more))

    module _ (picks : memory.Access → ℕ → memory.Meaning → Type 0) (pins : Pins picks lands) where
      acts_so : (s s' : State J O) (e : Entry J O) → e.handed ≡ s.owner.size → Acts picks (effect_of s e.handed e.call) s e.reply s' → (e.reply ≡ reply_by lands s e.call) × (s' ≡ after_by lands s e.call)
      acts_so s s' e own acts =
          let call = e.call in
          let mine = subst (λ (n : ℕ). Acts picks (effect_of s n call) s e.reply s') own acts in
          let effect = effect_of s s.owner.size call in
          let landed = pins effect.touches e.reply.landed s.memory mine.does.lands mine.picked in
          (mine.does.replies ∙ ap (λ (n : ℕ). reply_of effect n) landed, mine.does.moves ∙ ap (λ (n : ℕ). state_after s effect n) landed)

      run_so : (start : State J O) (h : List (Entry J O)) (s : State J O) → RunsBy picks start h s → (s ≡ after_all start (asked h)) × (printed job outcome h ≡ lines_by lands job outcome start 1 (asked h))
      run_so start [] s runs = (runs, refl)
      run_so start (e ∷ h) s (before, runs, own, acts) =
          let (so, lines) = run_so start h before runs in
          let (reply, next) = acts_so before s e own acts in
          let count : suc (length h) ≡ 1 + length (asked h) = omega (arith, asked_long h) in (
            next ∙ ap (λ b. after_by lands b e.call) so ∙ sym (after_more start (asked h) e.call),
            ap (λ l. l ++ line (line_of job outcome (suc (length h)) (party_of e.call) e.reply)) lines
                ∙ ap (λ l. lines_by lands job outcome start 1 (asked h) ++ l)
                (ap (λ r. line (line_of job outcome (suc (length h)) (party_of e.call) r)) (reply ∙ ap (λ b. reply_by lands b e.call) so)
                ∙ ap (λ (n : ℕ). line (line_of job outcome n (party_of e.call) (reply_by lands (after_all start (asked h)) e.call))) count
                ∙ sym (append-nil _))
                ∙ sym (lines_then start 1 (asked h) (e.call ∷ [])),
          )

      -- what the records came to is what is defined
      ended_so : (start : State J O) (all : Held J O) (out : List ℕ) (r : Result (Unit {0}) DayFault) (out' : List ℕ) (calls : List (Call J O)) → out' ≡ out ++ lines_by lands job outcome start 1 calls → Ends r calls all → Prints (lines_by lands job outcome start 1 all.calls) all.fault out r out'
      ended_so start all out (Ok x) out' calls gains ends =
          (gains ∙ ap (λ a. out ++ lines_by lands job outcome start 1 a.calls) (sym ends), ap (λ a. a.fault) ends)
      ended_so start all out (Err (File fault)) out' calls gains ends =
          (gains ∙ ap (λ a. out ++ lines_by lands job outcome start 1 a.calls) (sym ends), ap (λ a. a.fault) ends)
      ended_so start all out (Err (Board met)) out' calls gains ends = ends
      ended_so start all out (Err (Line met)) out' calls gains ends = ends
      ended_so start all out (Err NoMemory) out' calls gains (later, is) =
          (_, _, gains, ap (lines_by lands job outcome start 1) is ∙ lines_then start 1 calls later)

      pub ran_prints : (start : State J O) (all : Held J O) (out : List ℕ) (r : Result (Unit {0}) DayFault) (out' : List ℕ) → Ran job outcome picks start all out r out' → Prints (lines_by lands job outcome start 1 all.calls) all.fault out r out'
      ran_prints start all out r out' ran =
          ended_so start all out r out' (asked ran.history) (ran.prints ∙ ap (λ l. out ++ l) (run_so start ran.history ran.last ran.runs).1) ran.ends

-- a day file's calls, on a memory of its kind
pub day_prints : {J O : Type 0} (job : Form J) (outcome : Form O) (any : J) (d : DayFile) (kind : MemoryKind) (same : d.settings.memory ≡ kind) (picks : memory.Access → ℕ → memory.Meaning → Type 0) (pins : Pins picks (lands_in kind)) (out : List ℕ) (r : Result (Unit {0}) DayFault) (out' : List ℕ) → Ran job outcome picks (start_of job outcome any d.settings) (left job outcome d) out r out' → Prints (day_on job outcome any d.settings (left job outcome d)).lines (left job outcome d).fault out r out'
day_prints job outcome any d kind same picks pins out r out' ran =
    let start = start_of job outcome any d.settings in
    let all = left job outcome d in
    subst (λ k. Prints (lines_by (lands_in k) job outcome start 1 all.calls) all.fault out r out') (sym same) (ran_prints (lands_in kind) job outcome picks pins start all out r out' ran)
