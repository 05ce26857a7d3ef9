-- What a board keeps while it runs: how many positions are stolen, and what the shared words may show. Assumes nothing.
use Rattle.std.proofs.Common.{◌≡◌, ℕ, ◌+◌, ◌-◌, ◌<◌, ◌≤◌, Bool, true, false, length, sym, refl, ◌∙◌, arith}
use Rattle.memory.specs.Meaning as memory
use Rattle.memory.specs.declared.words.Words.{Words}
use Rattle.memory.specs.declared.words.Write.{Write}
use Rattle.memory.specs.declared.words.Write.TheVariants as write
use Rattle.std.specs.List.{AllByRecursion}
use Rattle.calls.specs.declared.call.Call.{Call}
use Rattle.calls.specs.declared.call.Call.TheVariants.{Retire, HelperStep}
use Rattle.model.specs.Orders.{Progress, barred, progress}
use Rattle.model.specs.declared.reply.Answer.{Answer}
use Rattle.model.specs.declared.reply.Answer.TheVariants.{Taken}
use Rattle.model.specs.State.{State}
use Rattle.model.specs.Keeping.{PhaseFits}
use Rattle.model.specs.declared.helper.Aim.{Aim}
use Rattle.model.specs.declared.helper.Aim.TheVariants.{Swap}
use Rattle.model.specs.declared.owner.Open.TheVariants as open_at
use Rattle.model.specs.declared.owner.Phase.{Phase}
use Rattle.model.specs.declared.owner.Phase.TheVariants.{Idle, Opening, Shrinking, Closing, Retiring}
use Rattle.model.specs.declared.owner.Shrink.TheVariants as shrink_at
use Rattle.model.proofs.Modes.{Quiet, Mode, Within, with_words, quiet_lands, mode_lands, mode_more, mode_joins, quiet_joins, settled_landed, settled_joins, settled_split_same, mode_same, quiet_same}

-- what the memory owes a phase: nothing can be stolen, or splits up to a bound are seen and the owner reads this one
pub data Need : Type 0 where
  quiet : Need
  shared : ℕ → ℕ → Need

abbrev pub idle_need : Bool → ℕ → Need
idle_need true split = quiet
idle_need false split = shared split split

module _ {J O : Type 0} where
  abbrev pub need : (flag : Bool) (split head : ℕ) → Phase J O → Need
  need flag split head Idle = idle_need flag split
  need flag split head (Opening open_at.WritePair) = quiet
  need flag split head (Opening open_at.WriteFlag) = shared head head
  need flag split head (Shrinking (shrink_at.Fence t s) job) = shared s split
  need flag split head Closing = quiet
  need flag split head (Retiring outcome) = quiet
  need flag split head p = shared split split

abbrev pub MemoryFits : ℕ → ℕ → memory.Meaning → Need → Type 0
MemoryFits size R m quiet = Quiet size m
MemoryFits size R m (shared B S) = Mode size R B m × ((memory.settled m).split ≡ S)

abbrev pub IdleNumbers : Bool → ℕ → ℕ → ℕ → Type 0
IdleNumbers true R split head = R ≡ head
IdleNumbers false R split head = R ≤ split

module _ {J O : Type 0} where
  -- where the stolen positions end, in each phase
  abbrev pub Numbers : (flag : Bool) (R split head : ℕ) → Phase J O → Type 0
  Numbers flag R split head Idle = IdleNumbers flag R split head
  Numbers flag R split head (Opening open_at.WritePair) = R + 1 ≡ head
  Numbers flag R split head (Opening open_at.WriteFlag) = (R ≤ head) × (head ≤ R + 1)
  Numbers flag R split head (Shrinking (shrink_at.WriteSplit t s) job) = (t ≤ R) × (R ≤ split) × (split ≡ head)
  Numbers flag R split head (Shrinking (shrink_at.Fence t s) job) = (t ≤ R) × (R ≤ s)
  Numbers flag R split head (Shrinking (shrink_at.ReadTail t s) job) = (t ≤ R) × (R ≤ s)
  Numbers flag R split head (Shrinking (shrink_at.WriteAgain u s) job) = (u ≡ R) × (split < R)
  Numbers flag R split head Closing = R ≡ head
  Numbers flag R split head (Retiring outcome) = R ≡ head
  Numbers flag R split head p = R ≤ split

-- a helper aims at a position of the board
abbrev pub AimFits : ℕ → Aim → Type 0
AimFits size (Swap pair) = (pair.0 < pair.1) × (pair.1 ≤ size)
AimFits size aim = Unit {0}

-- `stolen` positions below head are stolen
pub record Safe {J O : Type 0} (stolen : ℕ) (s : State J O) : Type 0 where
  pub told : s.owner.told ≤ stolen
  pub memory : MemoryFits s.owner.size stolen s.memory (need s.owner.own_flag s.owner.own_split s.owner.head s.owner.phase)
  pub numbers : Numbers s.owner.own_flag stolen s.owner.own_split s.owner.head s.owner.phase
  pub aims : AllByRecursion (λ h. AimFits s.owner.size h.aim) s.helpers
  pub cells : length s.cells ≡ s.owner.size

-- landings change nothing of what the memory owes
pub fits_lands : (size R n : ℕ) (m : memory.Meaning) (d : Need) → MemoryFits size R m d → MemoryFits size R (memory.oldest_landed n m) d
fits_lands size R n m quiet fits = quiet_lands size n m fits
fits_lands size R n m (shared B S) fits = (mode_lands size R B n m fits.0, rw (settled_landed n m) fits.1)

pub fits_same : (size R : ℕ) (m : memory.Meaning) (v : Words) (d : Need) → m.words.tail ≡ v.tail → m.words.split ≡ v.split → MemoryFits size R m d → MemoryFits size R (with_words m v) d
fits_same size R m v quiet t s fits = quiet_same size m v t s fits
fits_same size R m v (shared B S) t s fits = (mode_same size R B m v t s fits.0, settled_split_same m v (sym s) ∙ fits.1)

-- a write within a bound joins, and lands with others
pub write_shared : (size R B C S n : ℕ) (m : memory.Meaning) (x : Write) → B ≤ C → Within C x → (memory.landed x (memory.settled m)).split ≡ S → Mode size R B m → MemoryFits size R (memory.oldest_landed n (memory.queued_up x m)) (shared C S)
write_shared size R B C S n m x more in_bound split mode =
    fits_lands size R n (memory.queued_up x m) (shared C S) (mode_joins size R C m x in_bound (mode_more size R B C m more mode), rw (settled_joins x m) split)

pub write_quiet : (size R n : ℕ) (m : memory.Meaning) (flag : Bool) → Quiet size m → MemoryFits size R (memory.oldest_landed n (memory.queued_up (write.Flag flag) m)) quiet
write_quiet size R n m flag q = fits_lands size R n (memory.queued_up (write.Flag flag) m) quiet (quiet_joins size m (write.Flag flag) tt q)

-- how many positions are stolen after a call: a passed swap steals one, and a retire gives one up
abbrev pub taken_more : {J O : Type 0} → Answer J O → ℕ → ℕ
taken_more (Taken job) R = R + 1
taken_more answer R = R

abbrev pub given_up : Progress → ℕ → ℕ
given_up (barred refusal) R = R
given_up p R = R - 1

abbrev pub next_stolen : {J O : Type 0} → Call J O → Answer J O → ℕ → ℕ
next_stolen Retire answer R = given_up (progress answer) R
next_stolen (HelperStep helper) answer R = taken_more answer R
next_stolen call answer R = R

-- the highest split that helpers may see
abbrev pub bound : Need → ℕ
bound quiet = 0
bound (shared B S) = B

module _ {J O : Type 0} where
  -- no split above head is seen
  pub need_bound : (flag : Bool) (told split head : ℕ) (p : Phase J O) → PhaseFits flag told split head p → (flag ≡ false → split ≤ head) → bound (need flag split head p) ≤ head
  need_bound true told split head Idle fits low = omega arith
  need_bound false told split head Idle fits low = low refl
  need_bound flag told split head (Opening open_at.WritePair) fits low = omega arith
  need_bound flag told split head (Shrinking shrink_at.ReadPair job) fits low = omega arith
  need_bound flag told split head p fits low = omega arith
