-- What the records of a day come to, on a board over any memory. Assumes nothing.
use Rattle.std.specs.Prelude.{◌≡◌, ℕ, suc, List, [], ◌∷◌, ◌++◌, length, Some, None, Ok, Err, Result}
use Rattle.calls.specs.Calls.{party_of}
use Rattle.calls.specs.declared.call.Call.{Call}
use Rattle.dayfile.specs.Holding.{Held}
use Rattle.deque.specs.Doing.{Acts}
use Rattle.jobs.specs.Form.{Form}
use Rattle.line.specs.Lines.{line_of}
use Rattle.memory.specs.Meaning as memory
use Rattle.model.specs.Calls.{Entry, effect_of}
use Rattle.model.specs.State.{State}
use Rattle.text.specs.Content.{line}
use Rattle.runner.specs.declared.fault.DayFault.{DayFault}
use Rattle.runner.specs.declared.fault.DayFault.TheVariants.{File, Board, Line, NoMemory}

module _ {J O : Type 0} where
  -- what the calls of a history asked, the oldest first
  abbrev pub asked : List (Entry J O) → List (Call J O)
  asked [] = []
  asked (e ∷ h) = asked h ++ (e.call ∷ [])

  -- the calls of h, each handed the board's cells, lead from start to s, with as many writes landed as the memory picks
  abbrev pub RunsBy : (memory.Access → ℕ → memory.Meaning → Type 0) → State J O → List (Entry J O) → State J O → Type 0
  RunsBy picks start [] s = s ≡ start
  RunsBy picks start (e ∷ h) s =
      (before : State J O) × (RunsBy picks start h before) × (e.handed ≡ before.owner.size) × (Acts picks (effect_of before e.handed e.call) before e.reply s)

  -- how a day ends that has made these calls: at the file's end, at its first fault, or for want of memory
  abbrev pub Ends : Result (Unit {0}) DayFault → List (Call J O) → Held J O → Type 0
  Ends (Ok x) calls all = all ≡ record { calls = calls; fault = None }
  Ends (Err (File fault)) calls all = all ≡ record { calls = calls; fault = Some fault }
  Ends (Err (Board met)) calls all = ⊥
  Ends (Err (Line met)) calls all = ⊥
  Ends (Err NoMemory) calls all = (later : List (Call J O)) × (all.calls ≡ calls ++ later)

module _ {J O : Type 0} (job : Form J) (outcome : Form O) where
  -- the lines of a history, the oldest first
  abbrev pub printed : List (Entry J O) → List ℕ
  printed [] = []
  printed (e ∷ h) = printed h ++ line (line_of job outcome (suc (length h)) (party_of e.call) e.reply)

  -- of all that the file holds some calls were made, in order, each printed before the next was read
  pub record Ran (picks : memory.Access → ℕ → memory.Meaning → Type 0) (start : State J O) (all : Held J O) (out : List ℕ) (r : Result (Unit {0}) DayFault) (out' : List ℕ) : Type 0 where
    pub history : List (Entry J O)
    pub last : State J O
    pub runs : RunsBy picks start history last
    pub prints : out' ≡ out ++ printed history
    pub ends : Ends r (asked history) all
