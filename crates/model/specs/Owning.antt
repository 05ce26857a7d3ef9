-- The owner's calls: push, pop and retire begin an operation, and each step makes its next access. Assumes nothing.
use Rattle.std.specs.Prelude.{ℕ, ◌+◌, ◌-◌, ◌/◌, min, Bool, true, false, cond, ◌&&◌, Some, None, Option, ◌==◌, nat_le, nat_lt}
use Rattle.memory.specs.Meaning as memory
use Rattle.memory.specs.declared.words.Write.TheVariants as write
use Rattle.model.specs.Places.{at_number, changed, new_cell}
use Rattle.model.specs.State.{State, Effect, refused, owns, with_head, with_split, with_flag, with_told, with_phase}
use Rattle.model.specs.declared.cell.Cell.{Cell}
use Rattle.model.specs.declared.owner.Ending.{Ending}
use Rattle.model.specs.declared.owner.Ending.TheVariants as ending
use Rattle.model.specs.declared.owner.Open.TheVariants as open_at
use Rattle.model.specs.declared.owner.Owner.{Owner}
use Rattle.model.specs.declared.owner.Phase.{Phase}
use Rattle.model.specs.declared.owner.Phase.TheVariants.{Idle, Opening, Sharing, Shrinking, Closing, Retiring}
use Rattle.model.specs.declared.owner.Share.TheVariants as share_at
use Rattle.model.specs.declared.owner.Shrink.TheVariants as shrink_at
use Rattle.model.specs.declared.reply.Access.{Access}
use Rattle.model.specs.declared.reply.Access.TheVariants as access
use Rattle.model.specs.declared.reply.Answer.{Answer}
use Rattle.model.specs.declared.reply.Answer.TheVariants.{Going, Pushed, Work, Stolen, Retired}
use Rattle.model.specs.declared.reply.Refusal.TheVariants.{Busy, NothingBegun, Full, Empty, NotTold, Unfinished, Misread}

module _ {J O : Type 0} where
  -- no operation of the owner's is unfinished
  abbrev pub idle : Phase J O → Bool
  idle Idle = true
  idle (Opening at) = false
  idle (Sharing at end) = false
  idle (Shrinking at job) = false
  idle Closing = false
  idle (Retiring outcome) = false

  abbrev pub begun : State J O → Access → Effect J O → Effect J O
  begun s name effect = cond (idle s.owner.phase) effect (refused s name Busy)

  -- PUSHED, or WORK and its job
  abbrev pub ending_answer : Ending J → Answer J O
  ending_answer ending.Pushed = Pushed
  ending_answer (ending.Work job) = Work job

  -- the owner with head lowered, on its way to WORK
  abbrev pub working : Owner J O → J → Owner J O
  working o job = with_phase (with_head o (o.head - 1)) (Sharing share_at.ReadRequest (ending.Work job))

  -- the cell below head
  abbrev pub top : State J O → Option (Cell J O)
  top s = at_number s.cells s.owner.head

module _ {J O : Type 0} (s : State J O) where
  abbrev o : Owner J O
  o = s.owner

  abbrev pub push : J → Effect J O
  push job =
      begun s access.Push (cond (o.head == o.size) (refused s access.Push Full) (record {
        touches = memory.reads;
        access = access.Push;
        answer = Going;
        owner = with_phase (with_head o (o.head + 1)) (cond o.own_flag (Opening open_at.WritePair) (Sharing share_at.ReadRequest ending.Pushed));
        helpers = s.helpers;
        cells = changed s.cells o.head (λ _. new_cell job);
      }))

  abbrev pub popped : Option (Cell J O) → Effect J O
  popped None = refused s access.Pop Empty
  popped (Some cell) =
      cond o.own_flag (owns s memory.reads access.Pop Stolen (with_told o o.head))
      (cond (nat_lt o.own_split o.head) (owns s memory.reads access.Pop Going (working o cell.job))
      (owns s memory.reads access.Pop Going (with_phase o (Shrinking shrink_at.ReadPair cell.job))))

  abbrev pub pop : Effect J O
  pop = begun s access.Pop (popped (top s))

  -- the owner with head lowered, and told with it
  abbrev pub lowered : Owner J O
  lowered = with_told (with_head o (o.head - 1)) (min o.told (o.head - 1))

  abbrev pub retired_with : Option O → Effect J O
  retired_with None = refused s access.Retire Unfinished
  retired_with (Some outcome) =
      cond o.own_flag (owns s memory.reads access.Retire (Retired outcome) lowered)
      (owns s memory.reads access.Retire Going (with_phase (with_flag lowered true) (Retiring outcome)))

  abbrev pub retired : Option (Cell J O) → Effect J O
  retired None = refused s access.Retire Empty
  retired (Some cell) = cond (nat_lt o.told o.head) (refused s access.Retire NotTold) (retired_with cell.outcome)

  abbrev pub retire : Effect J O
  retire = begun s access.Retire (retired (top s))

  -- the words as the owner reads them
  abbrev tail : ℕ
  tail = (memory.settled s.memory).tail

  abbrev split : ℕ
  split = (memory.settled s.memory).split

  abbrev request : Bool
  request = (memory.settled s.memory).request

  -- the access that a phase makes next
  abbrev pub owner_step_at : Phase J O → Effect J O
  owner_step_at Idle = refused s access.Step NothingBegun
  owner_step_at (Opening open_at.WritePair) =
      owns s (memory.puts (write.Pair (o.head - 1) o.head)) access.WritePair Going (with_phase o (Opening open_at.WriteFlag))
  owner_step_at (Opening open_at.WriteFlag) =
      owns s (memory.puts (write.Flag false)) access.WriteFlag Going (with_phase (with_flag (with_split o o.head) false) (Opening open_at.ReadRequest))
  owner_step_at (Opening open_at.ReadRequest) =
      cond request (owns s memory.reads access.ReadRequest Going (with_phase o (Sharing share_at.WriteRequest ending.Pushed)))
      (owns s memory.reads access.ReadRequest Pushed (with_phase o Idle))
  owner_step_at (Sharing share_at.ReadRequest end) =
      cond request (owns s memory.reads access.ReadRequest Going (with_phase o (Sharing share_at.WriteSplit end)))
      (owns s memory.reads access.ReadRequest (ending_answer end) (with_phase o Idle))
  owner_step_at (Sharing share_at.WriteSplit end) =
      owns s (memory.puts (write.Split ((o.own_split + o.head + 1) / 2))) access.WriteSplit Going (with_phase (with_split o ((o.own_split + o.head + 1) / 2)) (Sharing share_at.WriteRequest end))
  owner_step_at (Sharing share_at.WriteRequest end) =
      owns s (memory.puts (write.Request false)) access.WriteRequest (ending_answer end) (with_phase o Idle)
  owner_step_at (Shrinking shrink_at.ReadPair job) =
      cond (nat_le o.told tail && (nat_le tail split && split == o.own_split))
      (owns s memory.reads access.ReadPair Going (with_phase o (cond (tail == split) Closing (Shrinking (shrink_at.WriteSplit tail split) job))))
      (refused s access.Step Misread)
  owner_step_at (Shrinking (shrink_at.WriteSplit t s') job) =
      owns s (memory.puts (write.Split ((t + s') / 2))) access.WriteSplit Going (with_phase (with_split o ((t + s') / 2)) (Shrinking (shrink_at.Fence t s') job))
  owner_step_at (Shrinking (shrink_at.Fence t s') job) =
      owns s memory.fences access.Fence Going (with_phase o (Shrinking (shrink_at.ReadTail t s') job))
  owner_step_at (Shrinking (shrink_at.ReadTail t s') job) =
      cond (nat_le t tail && nat_le tail s')
      (owns s memory.reads access.ReadTail Going
      (cond (tail == s') (with_phase o Closing)
      (cond (nat_lt ((t + s') / 2) tail) (with_phase o (Shrinking (shrink_at.WriteAgain tail s') job)) (working o job))))
      (refused s access.Step Misread)
  owner_step_at (Shrinking (shrink_at.WriteAgain u s') job) =
      owns s (memory.puts (write.Split ((u + s') / 2))) access.WriteSplit Going (working (with_split o ((u + s') / 2)) job)
  owner_step_at Closing =
      owns s (memory.puts (write.Flag true)) access.WriteFlag Stolen (with_phase (with_told (with_flag o true) o.head) Idle)
  owner_step_at (Retiring outcome) =
      owns s (memory.puts (write.Flag true)) access.WriteFlag (Retired outcome) (with_phase o Idle)

  abbrev pub owner_step : Effect J O
  owner_step = owner_step_at o.phase
