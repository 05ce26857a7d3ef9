-- Boards at their edges, worked out by the definitions, for every kind of job. Assumes nothing.
use Rattle.std.specs.Prelude.{◌≡◌, ℕ, Bool, true, false, List, [], ◌∷◌, ◌++◌, Ok, Err}
use Rattle.calls.specs.declared.call.Call.{Call}
use Rattle.calls.specs.declared.call.Call.TheVariants.{Push, Pop, Retire, OwnerStep, HelperStep, Finish}
use Rattle.memory.specs.declared.words.Words.{Words}
use Rattle.model.specs.Calls.{effect_of, making, new_board}
use Rattle.model.specs.State.{State, reply_of, state_after}
use Rattle.model.specs.declared.cell.Cell.{Cell}
use Rattle.model.specs.declared.helper.Aim.TheVariants.{ReadFlag}
use Rattle.model.specs.declared.owner.Phase.TheVariants.{Idle}
use Rattle.model.specs.declared.reply.Access.{Access}
use Rattle.model.specs.declared.reply.Access.TheVariants as access
use Rattle.model.specs.declared.reply.Answer.{Answer}
use Rattle.model.specs.declared.reply.Answer.TheVariants.{Going, Pushed, Work, Stolen, Retired, Taken, AllGone, Finished, Refused}
use Rattle.model.specs.declared.reply.Refusal.TheVariants.{WrongSize, WrongHelpers, NothingBegun, Empty, NotTold, Unfinished, HoldsNone}
use Rattle.model.specs.declared.reply.Reply.{Reply}

-- a call that is handed the board's cells, and how many writes it lands
pub record Made (J O : Type 0) : Type 0 where
  pub call : Call J O
  pub landed : ℕ

module _ {J O : Type 0} where
  abbrev pub call : Call J O → ℕ → Made J O
  call c n = record { call = c; landed = n }

  abbrev pub reply : Access → ℕ → Answer J O → Reply J O
  reply name n answer = record { access = name; landed = n; answer = answer }

  -- the state after some calls
  abbrev pub after_calls : State J O → List (Made J O) → State J O
  after_calls s [] = s
  after_calls s (m ∷ made) = after_calls (state_after s (effect_of s s.owner.size m.call) m.landed) made

  -- their replies
  abbrev pub replies : State J O → List (Made J O) → List (Reply J O)
  replies s [] = []
  replies s (m ∷ made) =
      reply_of (effect_of s s.owner.size m.call) m.landed ∷ replies (state_after s (effect_of s s.owner.size m.call) m.landed) made

  -- an idle board with an open share and nothing waiting
  abbrev pub open_board : ℕ → ℕ → ℕ → ℕ → Bool → ℕ → List (Cell J O) → State J O
  open_board size head tail split request told cells = record {
    memory = record { words = record { tail = tail; split = split; flag = false; request = request }; waiting = [] };
    owner = record { size = size; head = head; own_split = split; own_flag = false; told = told; phase = Idle };
    helpers = record { aim = ReadFlag } ∷ record { aim = ReadFlag } ∷ record { aim = ReadFlag } ∷ [];
    cells = cells;
  }

  abbrev pub words_of : State J O → Words
  words_of s = s.memory.words

  -- a push onto an empty board, with its three steps, each write landing at once
  abbrev pub whole_push : J → List (Made J O)
  whole_push job = call (Push job) 0 ∷ call OwnerStep 1 ∷ call OwnerStep 1 ∷ call OwnerStep 0 ∷ []

-- a helper that takes what it finds
abbrev pub whole_take : {J O : Type 0} → ℕ → List (Made J O)
whole_take helper = call (HelperStep helper) 0 ∷ call (HelperStep helper) 0 ∷ call (HelperStep helper) 0 ∷ []

module _ {J O : Type 0} where
  abbrev two_looks : List (Made J O)
  two_looks = call (HelperStep 1) 0 ∷ call (HelperStep 1) 0 ∷ []

  abbrev up_to_the_fence : List (Made J O)
  up_to_the_fence =
      call Pop 0 ∷ call OwnerStep 0 ∷ call OwnerStep 0 ∷ (whole_take 1 ++ (whole_take 2 ++ (whole_take 3 ++ (call OwnerStep 1 ∷ []))))

  abbrev day_calls : J → O → List (Made J O)
  day_calls job outcome =
      call (Push job) 0 ∷ call OwnerStep 1 ∷ call OwnerStep 1 ∷ call (HelperStep 1) 0 ∷ call (HelperStep 1) 0 ∷ call OwnerStep 0
      ∷ call Pop 0 ∷ call OwnerStep 0 ∷ call (HelperStep 1) 0 ∷ call OwnerStep 1 ∷ call OwnerStep 0 ∷ call OwnerStep 0 ∷ call OwnerStep 1
      ∷ call (Finish 1 outcome) 0 ∷ call Retire 0 ∷ []

  abbrev day_replies : J → O → List (Reply J O)
  day_replies job outcome =
      reply access.Push 0 Going ∷ reply access.WritePair 1 Going ∷ reply access.WriteFlag 1 Going ∷ reply access.ReadFlag 0 Going
      ∷ reply access.ReadPair 0 Going ∷ reply access.ReadRequest 0 Pushed ∷ reply access.Pop 0 Going ∷ reply access.ReadPair 0 Going
      ∷ reply access.Swap 0 (Taken job) ∷ reply access.WriteSplit 1 Going ∷ reply access.Fence 0 Going ∷ reply access.ReadTail 0 Going
      ∷ reply access.WriteFlag 1 Stolen ∷ reply access.Finish 0 Finished ∷ reply access.Retire 0 (Retired outcome) ∷ []

pub record Edges {J O : Type 0} (job other : J) (outcome : O) (c : Cell J O) : Type 0 where
  pub size_0 : (helpers : ℕ) (cells : List (Cell J O)) → making 0 helpers cells ≡ Err WrongSize
  pub size_1025 : (helpers : ℕ) (cells : List (Cell J O)) → making 1025 helpers cells ≡ Err WrongSize
  pub size_1 : (cells : List (Cell J O)) → making 1 1 cells ≡ Ok (new_board 1 1 cells)
  pub size_1024 : (cells : List (Cell J O)) → making 1024 16 cells ≡ Ok (new_board 1024 16 cells)
  pub helpers_0 : (cells : List (Cell J O)) → making 1 0 cells ≡ Err WrongHelpers
  pub helpers_17 : (cells : List (Cell J O)) → making 1 17 cells ≡ Err WrongHelpers
  -- a new board has nothing to pop, retire, step or finish, and nothing to take
  pub new : replies (new_board 2 1 (c ∷ c ∷ [])) (call Pop 0 ∷ call Retire 0 ∷ call OwnerStep 0 ∷ call (Finish 1 outcome) 0 ∷ call (HelperStep 1) 0 ∷ []) ≡ reply access.Pop 0 (Refused Empty) ∷ reply access.Retire 0 (Refused Empty) ∷ reply access.Step 0 (Refused NothingBegun) ∷ reply access.Finish 0 (Refused HoldsNone) ∷ reply access.ReadFlag 0 AllGone ∷ []
  -- pair (0, 1), a pop undisturbed: split 0 is written, then WORK
  pub last_job : replies (open_board 1 1 0 1 false 0 (c ∷ [])) (call Pop 0 ∷ call OwnerStep 0 ∷ call OwnerStep 1 ∷ call OwnerStep 0 ∷ call OwnerStep 0 ∷ call OwnerStep 0 ∷ []) ≡ reply access.Pop 0 Going ∷ reply access.ReadPair 0 Going ∷ reply access.WriteSplit 1 Going ∷ reply access.Fence 0 Going ∷ reply access.ReadTail 0 Going ∷ reply access.ReadRequest 0 (Work c.job) ∷ []
  pub last_split : (words_of (after_calls (open_board 1 1 0 1 false 0 (c ∷ [])) (call Pop 0 ∷ call OwnerStep 0 ∷ call OwnerStep 1 ∷ []))).split ≡ 0
  -- own split 1, head 4, request 1: a pop shares up to 2, a push up to 3
  pub pop_shares : (words_of (after_calls (open_board 5 4 0 1 true 0 (c ∷ c ∷ c ∷ c ∷ c ∷ [])) (call Pop 0 ∷ call OwnerStep 0 ∷ call OwnerStep 1 ∷ []))).split ≡ 2
  pub push_shares : (words_of (after_calls (open_board 5 4 0 1 true 0 (c ∷ c ∷ c ∷ c ∷ c ∷ [])) (call (Push job) 0 ∷ call OwnerStep 0 ∷ call OwnerStep 1 ∷ []))).split ≡ 3
  -- pair (2, 6), head 6: three helpers take while the owner's split 4 still waits; after the fence the tail is 5, and split 5 follows
  pub shrink_conflict : words_of (after_calls (open_board 6 6 2 6 false 2 (c ∷ c ∷ c ∷ c ∷ c ∷ c ∷ [])) up_to_the_fence) ≡ record { tail = 5; split = 4; flag = false; request = false }
  pub shrink_again : (words_of (after_calls (open_board 6 6 2 6 false 2 (c ∷ c ∷ c ∷ c ∷ c ∷ c ∷ [])) (up_to_the_fence ++ (call OwnerStep 0 ∷ call OwnerStep 1 ∷ [])))).split ≡ 5
  -- helper 1 reads (0, 1); helper 2 takes and finishes; the owner pops, retires and pushes anew: helper 1 takes the new job
  pub same_two_numbers : replies (after_calls (new_board 1 2 (c ∷ [])) (whole_push job ++ (two_looks ++ (whole_take 2 ++ (call (Finish 2 outcome) 0 ∷ call Pop 0 ∷ call OwnerStep 0 ∷ call OwnerStep 1 ∷ call Retire 0 ∷ whole_push other))))) (call (HelperStep 1) 0 ∷ []) ≡ reply access.Swap 0 (Taken other) ∷ []
  -- a retire right after PUSHED, and one after STOLEN and before the finish
  pub not_told : replies (after_calls (new_board 1 1 (c ∷ [])) (whole_push job)) (call Retire 0 ∷ []) ≡ reply access.Retire 0 (Refused NotTold) ∷ []
  pub unfinished : replies (after_calls (new_board 1 1 (c ∷ [])) (whole_push job ++ (whole_take 1 ++ (call Pop 0 ∷ call OwnerStep 0 ∷ [])))) (call OwnerStep 1 ∷ call Retire 0 ∷ []) ≡ reply access.WriteFlag 1 Stolen ∷ reply access.Retire 0 (Refused Unfinished) ∷ []
  -- fifteen calls on a board of size 2 with one helper, each write landing at once
  pub day : replies (new_board 2 1 (c ∷ c ∷ [])) (day_calls job outcome) ≡ day_replies job outcome
