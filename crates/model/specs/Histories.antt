-- Histories: the calls of a board since its making, the newest first, and what is counted in them. Assumes nothing.
use Rattle.std.specs.Prelude.{◌≡◌, ℕ, ◌+◌, ◌-◌, ◌*◌, ◌≤◌, Bool, true, false, cond, List, [], ◌∷◌, length, take, is_some, ◌≢◌}
use Rattle.std.specs.List.{AllByRecursion}
use Rattle.model.specs.Calls.{Entry, Makes, new_board}
use Rattle.model.specs.Keeping.{InRange}
use Rattle.model.specs.Naming.{refusal_number}
use Rattle.model.specs.Owning.{idle}
use Rattle.model.specs.State.{State}
use Rattle.model.specs.declared.cell.Cell.{Cell}
use Rattle.model.specs.declared.reply.Access.{Access}
use Rattle.model.specs.declared.reply.Access.TheVariants as access
use Rattle.model.specs.declared.reply.Answer.{Answer}
use Rattle.model.specs.declared.reply.Answer.TheVariants.{Going, Pushed, Work, Stolen, Retired, Taken, AllGone, NoShare, Changed, Finished, Refused}

module _ {J O : Type 0} where
  -- a board just made, whatever its cells held
  pub record New (s : State J O) : Type 0 where
    pub made : s ≡ new_board s.owner.size (length s.helpers) s.cells
    pub size : (1 ≤ s.owner.size) × (s.owner.size ≤ 1024)
    pub helpers : (1 ≤ length s.helpers) × (length s.helpers ≤ 16)
    pub cells : length s.cells ≡ s.owner.size

  -- the calls of h, the newest first, lead from start to s
  abbrev pub Runs : State J O → List (Entry J O) → State J O → Type 0
  Runs start [] s = s ≡ start
  Runs start (e ∷ h) s = (before : State J O) × (Runs start h before) × (Makes before e s)

  -- how many calls of a history have a reply of some kind
  abbrev pub counted : (Entry J O → Bool) → List (Entry J O) → ℕ
  counted test [] = 0
  counted test (e ∷ h) = cond (test e) 1 0 + counted test h

  abbrev pub is_pushed : Answer J O → Bool
  is_pushed Going = false
  is_pushed Pushed = true
  is_pushed (Work job) = false
  is_pushed Stolen = false
  is_pushed (Retired outcome) = false
  is_pushed (Taken job) = false
  is_pushed AllGone = false
  is_pushed NoShare = false
  is_pushed Changed = false
  is_pushed Finished = false
  is_pushed (Refused refusal) = false

  abbrev pub is_work : Answer J O → Bool
  is_work Going = false
  is_work Pushed = false
  is_work (Work job) = true
  is_work Stolen = false
  is_work (Retired outcome) = false
  is_work (Taken job) = false
  is_work AllGone = false
  is_work NoShare = false
  is_work Changed = false
  is_work Finished = false
  is_work (Refused refusal) = false

  abbrev pub is_taken : Answer J O → Bool
  is_taken Going = false
  is_taken Pushed = false
  is_taken (Work job) = false
  is_taken Stolen = false
  is_taken (Retired outcome) = false
  is_taken (Taken job) = true
  is_taken AllGone = false
  is_taken NoShare = false
  is_taken Changed = false
  is_taken Finished = false
  is_taken (Refused refusal) = false

  abbrev pub is_changed : Answer J O → Bool
  is_changed Going = false
  is_changed Pushed = false
  is_changed (Work job) = false
  is_changed Stolen = false
  is_changed (Retired outcome) = false
  is_changed (Taken job) = false
  is_changed AllGone = false
  is_changed NoShare = false
  is_changed Changed = true
  is_changed Finished = false
  is_changed (Refused refusal) = false

-- the owner's writes to pair or split
abbrev pub writes_share : Access → Bool
writes_share access.WritePair = true
writes_share access.WriteSplit = true
writes_share access.WriteFlag = false
writes_share access.WriteRequest = false
writes_share access.ReadPair = false
writes_share access.ReadTail = false
writes_share access.ReadRequest = false
writes_share access.ReadFlag = false
writes_share access.Fence = false
writes_share access.Swap = false
writes_share access.Push = false
writes_share access.Pop = false
writes_share access.Retire = false
writes_share access.Step = false
writes_share access.Finish = false
writes_share access.Land = false

module _ {J O : Type 0} where
  abbrev pub pushed_count : List (Entry J O) → ℕ
  pushed_count h = counted (λ e. is_pushed e.reply.answer) h

  abbrev pub work_count : List (Entry J O) → ℕ
  work_count h = counted (λ e. is_work e.reply.answer) h

  -- how many of some cells nobody has taken
  abbrev pub untaken : List (Cell J O) → ℕ
  untaken [] = 0
  untaken (cell ∷ cells) = cond (is_some cell.taker) 0 1 + untaken cells

  abbrev pub taken_count : List (Entry J O) → ℕ
  taken_count h = counted (λ e. is_taken e.reply.answer) h

  abbrev pub changed_count : List (Entry J O) → ℕ
  changed_count h = counted (λ e. is_changed e.reply.answer) h

  abbrev pub written_count : List (Entry J O) → ℕ
  written_count h = counted (λ e. writes_share e.reply.access) h

module _ {J O : Type 0} where
  -- with n helpers, CHANGED answers are at most (n - 1) for each TAKEN answer and n for each of the owner's writes to pair or split
  abbrev pub ChangedBounded : State J O → List (Entry J O) → Type 0
  ChangedBounded start h =
      changed_count h ≤ (length start.helpers - 1) * taken_count h + length start.helpers * written_count h

  -- while the owner is idle, jobs accepted are jobs worked, jobs taken and jobs that nobody has taken
  abbrev pub JobsAdded : List (Entry J O) → State J O → Type 0
  JobsAdded h s =
      idle s.owner.phase ≡ true → pushed_count h ≡ work_count h + taken_count h + untaken (take s.owner.head s.cells)

  -- no call is refused with 20
  abbrev pub NoneMisread : List (Entry J O) → Type 0
  NoneMisread h = AllByRecursion (λ e. refusal_number e.reply.answer ≢ 20) h

-- so it is on every board that is made
abbrev pub ChangedIsBounded : (J O : Type 0) → Type 0
ChangedIsBounded J O =
    (start s : State J O) (h : List (Entry J O)) → New start → Runs start h s → ChangedBounded start h

-- while the owner is idle, nothing is lost
abbrev pub JobsAddUp : (J O : Type 0) → Type 0
JobsAddUp J O =
    (start s : State J O) (h : List (Entry J O)) → New start → Runs start h s → JobsAdded h s

-- on a board just made no call is refused with 20
abbrev pub NeverMisread : (J O : Type 0) → Type 0
NeverMisread J O =
    (start s : State J O) (h : List (Entry J O)) → New start → Runs start h s → NoneMisread h

-- told ≤ head ≤ size always, and told ≤ own split ≤ head while own flag is 0
abbrev pub NumbersInRange : (J O : Type 0) → Type 0
NumbersInRange J O = (start s : State J O) (h : List (Entry J O)) → New start → Runs start h s → InRange s.owner
