-- The day as it goes on, call after call. Assumes nothing.
use Rattle.std.proofs.Common.{◌≡◌, ℕ, suc, ◌+◌, ◌*◌, ◌≤◌, List, [], ◌∷◌, ◌++◌, length, Some, None, Ok, Err, Option, OnSome, Result, sym, refl, ap, ◌∙◌, subst, append_assoc, append-nil, add-one, arith, length-append}
use Rattle.calls.specs.Calls.{party_of}
use Rattle.calls.specs.declared.call.Call.{Call}
use Rattle.calls.specs.declared.party.Party.{Party}
use Rattle.dayfile.specs.Holding.{Held, Takes}
use Rattle.dayfile.specs.Opened.{left}
use Rattle.dayfile.specs.declared.day_file.DayFile.{DayFile}
use Rattle.dayfile.specs.declared.fault.FileFault.{FileFault}
use Rattle.deque.specs.Doing.{Acts}
use Rattle.jobs.specs.Form.{Form}
use Rattle.line.specs.Lines.{line_of}
use Rattle.memory.specs.Meaning as memory
use Rattle.model.specs.Calls.{Entry, effect_of}
use Rattle.model.specs.Histories.{New, Runs}
use Rattle.model.specs.State.{State}
use Rattle.model.specs.declared.reply.Reply.{Reply}
use Rattle.model.proofs.Runs.{cells_stay}
use Rattle.text.specs.Content.{line}
use Rattle.runner.specs.Running.{asked, RunsBy, Ends, printed, Ran}
use Rattle.runner.specs.declared.fault.DayFault.{DayFault}
use Rattle.runner.specs.declared.fault.DayFault.TheVariants.{File}

-- a run of one memory is a run of any
pub runs_of : {J O : Type 0} (picks : memory.Access → ℕ → memory.Meaning → Type 0) (start : State J O) (h : List (Entry J O)) (s : State J O) → RunsBy picks start h s → Runs start h s
runs_of picks start [] s runs = runs
runs_of picks start (e ∷ h) s (before, runs, own, acts) = (before, runs_of picks start h before runs, acts.does)

-- as many calls were asked as made
pub asked_long : {J O : Type 0} (h : List (Entry J O)) → length (asked h) ≡ length h
asked_long [] = refl
asked_long (e ∷ h) = length-append (asked h) (e.call ∷ []) ∙ add-one (length (asked h)) ∙ ap suc (asked_long h)

module _ {J O : Type 0} (job : Form J) (outcome : Form O) (picks : memory.Access → ℕ → memory.Meaning → Type 0) (start : State J O) (all : Held J O) (out₀ : List ℕ) where
  pub record Going (d : DayFile) (s : State J O) (number : ℕ) (out : List ℕ) : Type 0 where
    pub history : List (Entry J O)
    pub runs : RunsBy picks start history s
    pub prints : out ≡ out₀ ++ printed job outcome history
    -- the file's calls are those so far and those that are left
    pub calls : all.calls ≡ asked history ++ (left job outcome d).calls
    pub fault : all.fault ≡ (left job outcome d).fault
    pub counted : number ≡ length history
    pub few : number * 3 ≤ d.reader.position

  module _ (d : DayFile) (s : State J O) (number : ℕ) (out : List ℕ) (going : Going d s number out) where
    abbrev h : List (Entry J O)
    h = going.history

    -- the day's last line stands, and it ends so
    ended_so : (res : Result (Unit {0}) DayFault) → Ends res (asked h) all → Ran job outcome picks start all out₀ res out
    ended_so res ends = record { history = h; last = s; runs = going.runs; prints = going.prints; ends = ends }

    -- nothing is left but this fault, if any
    none_left : (fault : Option FileFault) → left job outcome d ≡ record { calls = []; fault = fault } → all ≡ record { calls = asked h; fault = fault }
    none_left fault is =
        let calls = going.calls ∙ ap (λ l. asked h ++ l.calls) is ∙ append-nil (asked h) in
        let ends = going.fault ∙ ap (λ l. l.fault) is in
        λ i. record { calls = calls i; fault = ends i }

    pub at_end : (d' : DayFile) (read : Option (Call J O)) → read ≡ None → Takes (left job outcome d) (Ok read) (left job outcome d') → Ran job outcome picks start all out₀ (Ok tt) out
    at_end d' (Some call) none takes = cc
    at_end d' None none takes = ended_so (Ok tt) (none_left None takes)

    -- the fault is told by what it was turned into
    pub at_fault : (d' : DayFile) (res : Result (Unit {0}) DayFault) (turned : DayFault) (fault : FileFault) → res ≡ Err turned → turned ≡ File fault → Takes (left job outcome d) (Err fault) (left job outcome d') → Ran job outcome picks start all out₀ res out
    at_fault d' res turned fault told as_file takes =
        subst (λ x. Ran job outcome picks start all out₀ x out) (sym (told ∙ ap Err as_file)) (ended_so (Err (File fault)) (none_left (Some fault) takes))

    -- the number of cells is the board's
    pub own_cells : New start → length s.cells ≡ s.owner.size
    own_cells new = cells_stay start s h new (runs_of picks start h s going.runs)

    pub next_turn : New start → (read : Option (Call J O)) (call : Call J O) (d' : DayFile) (number' : ℕ) (party : Party) (reply : Reply J O) (s' : State J O) (out' : List ℕ) → read ≡ Some call → Takes (left job outcome d) (Ok read) (left job outcome d') → OnSome read (d.reader.position + 3 ≤ d'.reader.position) → number' ≡ number + 1 → party ≡ party_of call → Acts picks (effect_of s (length s.cells) call) s reply s' → out' ≡ out ++ line (line_of job outcome number' party reply) → Going d' s' number' out'
    next_turn new read call d' number' party reply s' out' some takes passes one_more by_call acts gains =
        let e : Entry J O = record { handed = length s.cells; call = call; reply = reply } in
        let at : number' ≡ suc (length h) = one_more ∙ add-one number ∙ ap suc going.counted in
        let told = ap (λ (n : ℕ). line (line_of job outcome n party reply)) at ∙ ap (λ p. line (line_of job outcome (suc (length h)) p reply)) by_call in
        let past : d.reader.position + 3 ≤ d'.reader.position = subst (λ x. OnSome x (d.reader.position + 3 ≤ d'.reader.position)) some passes in
        let more = subst (λ x. Takes (left job outcome d) (Ok x) (left job outcome d')) some takes in
        record {
          history = e ∷ h;
          runs = (s, going.runs, own_cells new, acts);
          prints = gains ∙ ap (λ l. out ++ l) told ∙ ap (λ o. o ++ line (line_of job outcome (suc (length h)) (party_of call) reply)) going.prints ∙ append_assoc out₀ (printed job outcome h) (line (line_of job outcome (suc (length h)) (party_of call) reply));
          calls = going.calls ∙ ap (λ l. asked h ++ l.calls) more ∙ sym (append_assoc (asked h) (call ∷ []) (left job outcome d').calls);
          fault = going.fault ∙ ap (λ l. l.fault) more;
          counted = at;
          few = omega (arith, going.few, past, one_more);
        }

pub starts : {J O : Type 0} (job : Form J) (outcome : Form O) (picks : memory.Access → ℕ → memory.Meaning → Type 0) (start : State J O) (d : DayFile) (out : List ℕ) → Going job outcome picks start (left job outcome d) out d start 0 out
starts job outcome picks start d out = record {
  history = [];
  runs = refl;
  prints = sym (append-nil out);
  calls = refl;
  fault = refl;
  counted = refl;
  few = omega arith;
}
