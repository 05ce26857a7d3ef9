-- CHANGED answers are bounded: each is paid for by a swap that passed or by a write to pair or split. Assumes nothing.
use Rattle.std.proofs.Common.{◌≡◌, ℕ, zero, suc, ◌+◌, ◌-◌, ◌*◌, ◌≤◌, Bool, true, false, cond, ◌&&◌, eqb, ltb, List, [], ◌∷◌, ◌++◌, length, take, drop, replicate, Some, None, Option, refl, ap, ◌∙◌, mul-add, arith, eq-eqb}
use Rattle.calls.specs.declared.call.Call.{Call}
use Rattle.calls.specs.declared.call.Call.TheVariants.{Push, Pop, Retire, OwnerStep, HelperStep, Finish, Land}
use Rattle.memory.specs.Meaning as memory
use Rattle.memory.specs.declared.words.Words.{Words}
use Rattle.memory.specs.declared.words.Write.{Write}
use Rattle.memory.specs.declared.words.Write.TheVariants as write
use Rattle.model.proofs.Entries.{length_changed, numbered}
use Rattle.model.proofs.Ways.{handed_ways, begun_ways, finish_ways}
use Rattle.std.proofs.lemmas.Bool.{cond_both}
use Rattle.model.specs.Calls.{with_cells, effect_of, Entry}
use Rattle.model.specs.Helping.{swap_at, step_aimed, step_of, helper_step, finish_of, finish}
use Rattle.model.specs.Histories.{New, Runs, is_taken, is_changed, writes_share, taken_count, changed_count, written_count, ChangedIsBounded}
use Rattle.model.specs.Owning.{ending_answer, top, push, popped, pop, retired, retired_with, retire, owner_step_at, owner_step}
use Rattle.model.specs.Places.{at, at_number, changed}
use Rattle.model.specs.State.{State, Effect, refused}
use Rattle.model.specs.declared.cell.Cell.{Cell}
use Rattle.model.specs.declared.helper.Aim.{Aim}
use Rattle.model.specs.declared.helper.Aim.TheVariants.{ReadFlag, ReadPair, Swap, ReadRequest, WriteRequest, Hold}
use Rattle.model.specs.declared.helper.Helper.{Helper}
use Rattle.model.specs.declared.owner.Ending.{Ending}
use Rattle.model.specs.declared.owner.Ending.TheVariants as ending
use Rattle.model.specs.declared.owner.Open.TheVariants as open_at
use Rattle.model.specs.declared.owner.Phase.{Phase}
use Rattle.model.specs.declared.owner.Phase.TheVariants.{Idle, Opening, Sharing, Shrinking, Closing, Retiring}
use Rattle.model.specs.declared.owner.Share.TheVariants as share_at
use Rattle.model.specs.declared.owner.Shrink.TheVariants as shrink_at
use Rattle.model.specs.declared.reply.Access.{Access}
use Rattle.model.specs.declared.reply.Access.TheVariants as access
use Rattle.model.specs.declared.reply.Answer.{Answer}
use Rattle.model.specs.declared.reply.Answer.TheVariants.{Going, Stolen, Retired, AllGone, NoShare, Finished, Refused}
use Rattle.model.specs.declared.reply.Refusal.{Refusal}
use Rattle.model.specs.declared.reply.Refusal.TheVariants.{UnknownHelper, Holding, HoldsNone, Busy, NothingBegun, Empty, NotTold, Unfinished, Misread, WrongCells}

abbrev one : Bool → ℕ
one b = cond b 1 0

-- 1 where the aim is a swap that would fail at this tail and split
abbrev fails : ℕ → ℕ → Aim → ℕ
fails tail split (Swap pair) = cond (ltb pair.0 pair.1 && (eqb tail pair.0 && eqb split pair.1)) 0 1
fails tail split a = 0

-- how many helpers' swaps would fail
abbrev failing : ℕ → ℕ → List Helper → ℕ
failing tail split [] = 0
failing tail split (h ∷ hs) = fails tail split h.aim + failing tail split hs

abbrev failing_at : Words → List Helper → ℕ
failing_at w hs = failing w.tail w.split hs

-- 1 where the write sets pair or split
abbrev share : Write → ℕ
share (write.Pair t s) = 1
share (write.Split s) = 1
share x = 0

abbrev shares : List Write → ℕ
shares [] = 0
shares (x ∷ xs) = share x + shares xs

-- with n helpers, at most so many CHANGED answers can follow until a swap passes or pair or split is written again
abbrev owed : ℕ → memory.Meaning → List Helper → ℕ
owed n m hs = failing_at m.words hs + n * shares m.waiting

fails_once : (tail split : ℕ) (a : Aim) → fails tail split a ≤ 1
fails_once tail split (Swap pair) = grind arith
fails_once tail split a = omega arith

failing_at_most_all : (tail split : ℕ) (hs : List Helper) → failing tail split hs ≤ length hs
failing_at_most_all tail split [] = omega arith
failing_at_most_all tail split (h ∷ hs) = omega (arith, fails_once tail split h.aim, failing_at_most_all tail split hs)

-- a swap at the pair as it stands passes
fresh : (tail split : ℕ) → ltb tail split ≡ true → fails tail split (Swap (tail, split)) ≡ 0
fresh tail split some = rw (some, eq-eqb tail tail refl, eq-eqb split split refl)

-- one helper's new aim counts in place of its old one
failing_changed : (tail split : ℕ) (hs : List Helper) (i : ℕ) (h x : Helper) → at hs i ≡ Some h → failing tail split (changed hs i (λ _. x)) + fails tail split h.aim ≡ failing tail split hs + fails tail split x.aim
failing_changed tail split [] i h x is = cc
failing_changed tail split (y ∷ ys) zero h x is = grind arith
failing_changed tail split (y ∷ ys) (suc i) h x is = omega (arith, failing_changed tail split ys i h x is)

-- a helper whose aim cannot fail is not among the failing
spared : (tail split : ℕ) (hs : List Helper) (i : ℕ) (h x : Helper) → at hs i ≡ Some h → fails tail split x.aim ≡ 0 → failing tail split (changed hs i (λ _. x)) + 1 ≤ length hs
spared tail split [] i h x is fine = cc
spared tail split (y ∷ ys) zero h x is fine = omega (arith, failing_at_most_all tail split ys)
spared tail split (y ∷ ys) (suc i) h x is fine = omega (arith, fails_once tail split y.aim, spared tail split ys i h x is fine)

none_fails_at_first : (n : ℕ) → failing 0 0 (replicate n (record { aim = ReadFlag })) ≡ 0
none_fails_at_first zero = refl
none_fails_at_first (suc n) = omega (arith, none_fails_at_first n)

shares_joined : (xs : List Write) (x : Write) → shares (xs ++ (x ∷ [])) ≡ shares xs + share x
shares_joined [] x = omega arith
shares_joined (y ∷ ys) x = omega (arith, shares_joined ys x)

-- only a write to pair or split can make swaps fail
one_lands : (n : ℕ) (hs : List Helper) → length hs ≡ n → (x : Write) (w : Words) → failing_at (memory.landed x w) hs ≤ failing_at w hs + n * share x
one_lands n hs is (write.Pair t s) w = omega (arith, failing_at_most_all t s hs)
one_lands n hs is (write.Split s) w = omega (arith, failing_at_most_all w.tail s hs)
one_lands n hs is x w = omega arith

-- however many writes land, no more is owed than before
oldest_land : (n : ℕ) (hs : List Helper) → length hs ≡ n → (k : ℕ) (xs : List Write) (w : Words) → failing_at (memory.all_landed (take k xs) w) hs + n * shares (drop k xs) ≤ failing_at w hs + n * shares xs
oldest_land n hs is zero xs w = omega arith
oldest_land n hs is (suc k) [] w = omega arith
oldest_land n hs is (suc k) (x ∷ xs) w =
    omega (arith, one_lands n hs is x w, oldest_land n hs is k xs (memory.landed x w), mul-add n (share x) (shares xs))

module _ {J O : Type 0} (s : State J O) (n : ℕ) (all : length s.helpers ≡ n) where
  abbrev m : memory.Meaning
  m = s.memory

  -- an access with its answer and the helpers after it: a CHANGED answer lowers what is owed, and only a TAKEN answer or a write to pair or split raises it
  abbrev Bounds : memory.Access → Access → Answer J O → List Helper → Type 0
  Bounds touches name answer hs =
      (length hs ≡ n) × ((k : ℕ) → one (is_changed answer) + owed n (memory.after touches k m) hs ≤ owed n m s.helpers + (n - 1) * one (is_taken answer) + n * one (writes_share name))

  abbrev Steps : Effect J O → Type 0
  Steps e = Bounds e.touches e.access e.answer e.helpers

  -- a call that only reads
  quiet : (name : Access) (answer : Answer J O) → is_changed answer ≡ false → Bounds memory.reads name answer s.helpers
  quiet name answer calm = let none : one (is_changed answer) ≡ 0 = ap one calm in (all, λ k. omega arith)

  refuses : (name : Access) (refusal : Refusal) → Steps (refused s name refusal)
  refuses name refusal = quiet name (Refused refusal) refl

  going : (name : Access) → Bounds memory.reads name Going s.helpers
  going name = quiet name Going refl

  fences : Bounds memory.fences access.Fence Going s.helpers
  fences = (all, λ k. omega (arith, oldest_land n s.helpers all k m.waiting m.words))

  lands : Bounds memory.lands access.Land Going s.helpers
  lands = (all, λ k. omega (arith, oldest_land n s.helpers all k m.waiting m.words))

  puts : (x : Write) (name : Access) (answer : Answer J O) → is_changed answer ≡ false → share x ≡ one (writes_share name) → Bounds (memory.puts x) name answer s.helpers
  puts x name answer calm same =
      (all, λ k. grind (arith, oldest_land n s.helpers all k (m.waiting ++ (x ∷ [])) m.words, shares_joined m.waiting x, mul-add n (shares m.waiting) (share x)))

  ending_calm : (end : Ending J) → is_changed (ending_answer {J = J} {O = O} end) ≡ false
  ending_calm ending.Pushed = refl
  ending_calm (ending.Work job) = refl

  owner_steps : (p : Phase J O) → Steps (owner_step_at s p)
  owner_steps Idle = refuses access.Step NothingBegun
  owner_steps (Opening open_at.WritePair) = puts _ access.WritePair Going refl refl
  owner_steps (Opening open_at.WriteFlag) = puts _ access.WriteFlag Going refl refl
  owner_steps (Opening open_at.ReadRequest) = grind arith
  owner_steps (Sharing share_at.ReadRequest ending.Pushed) = grind arith
  owner_steps (Sharing share_at.ReadRequest (ending.Work job)) = grind arith
  owner_steps (Sharing share_at.WriteSplit end) = puts _ access.WriteSplit Going refl refl
  owner_steps (Sharing share_at.WriteRequest end) = puts _ access.WriteRequest (ending_answer end) (ending_calm end) refl
  owner_steps (Shrinking shrink_at.ReadPair job) = grind arith
  owner_steps (Shrinking (shrink_at.WriteSplit t s') job) = puts _ access.WriteSplit Going refl refl
  owner_steps (Shrinking (shrink_at.Fence t s') job) = fences
  owner_steps (Shrinking (shrink_at.ReadTail t s') job) = grind arith
  owner_steps (Shrinking (shrink_at.WriteAgain u s') job) = puts _ access.WriteSplit Going refl refl
  owner_steps Closing = puts _ access.WriteFlag Stolen refl refl
  owner_steps (Retiring outcome) = puts _ access.WriteFlag (Retired outcome) refl refl

  push_steps : (job : J) → Steps (push s job)
  push_steps job = grind arith

  popped_steps : (x : Option (Cell J O)) → Steps (popped s x)
  popped_steps None = refuses access.Pop Empty
  popped_steps (Some cell) = grind arith

  retired_with_steps : (x : Option O) → Steps (retired_with s x)
  retired_with_steps None = refuses access.Retire Unfinished
  retired_with_steps (Some outcome) = grind arith

  retired_steps : (x : Option (Cell J O)) → Steps (retired s x)
  retired_steps None = refuses access.Retire Empty
  retired_steps (Some cell) =
      cond_both (ltb s.owner.told s.owner.head) _ _ Steps (λ _. refuses access.Retire NotTold) (λ _. retired_with_steps cell.outcome)

  module _ (helper : ℕ) (h : Helper) (there : at s.helpers (helper - 1) ≡ Some h) where
    abbrev with_aim : Aim → List Helper
    with_aim a = changed s.helpers (helper - 1) (λ _. record { aim = a })

    abbrev fails_now : Aim → ℕ
    fails_now a = fails m.words.tail m.words.split a

    still_all : (a : Aim) → length (with_aim a) ≡ n
    still_all a = length_changed s.helpers (helper - 1) (λ _. record { aim = a }) ∙ all

    counts : (a : Aim) → failing_at m.words (with_aim a) + fails_now h.aim ≡ failing_at m.words s.helpers + fails_now a
    counts a = failing_changed m.words.tail m.words.split s.helpers (helper - 1) h (record { aim = a }) there

    -- the helper only reads, and its new aim does not fail
    aims : (name : Access) (answer : Answer J O) (a : Aim) → is_changed answer ≡ false → fails_now a ≡ 0 → Bounds memory.reads name answer (with_aim a)
    aims name answer a calm fine =
        let none : one (is_changed answer) ≡ 0 = ap one calm in
        (still_all a, λ k. omega (arith, counts a))

    asks : Bounds memory.asks access.WriteRequest NoShare (with_aim ReadFlag)
    asks = (still_all ReadFlag, λ k. omega (arith, counts ReadFlag))

    swap_steps : (t s' : ℕ) (x : Option (Cell J O)) → h.aim ≡ Swap (t, s') → Steps (swap_at s helper t s' x)
    swap_steps t s' None is = refuses access.Step Misread
    swap_steps t s' (Some cell) is =
        cond_both (memory.swap_passes t s' m.words) _ _ Steps
        (λ passes. (
          still_all (Hold t),
          λ k. let w = memory.swapped t s' m.words in omega (arith, spared w.tail w.split s.helpers (helper - 1) h (record { aim = Hold t }) there refl),
        ))
        (λ stale.
        (still_all ReadFlag, λ k. grind (arith, counts ReadFlag)))

    aimed_steps : (a : Aim) → h.aim ≡ a → Steps (step_aimed s helper a)
    aimed_steps ReadFlag is = cond_both _ _ _ Steps (λ _. aims access.ReadFlag AllGone ReadFlag refl refl) (λ _. aims access.ReadFlag Going ReadPair refl refl)
    aimed_steps ReadPair is =
        cond_both (ltb s.owner.size m.words.split) (refused s access.Step Misread) _ Steps (λ _. refuses access.Step Misread)
        (λ _.
        cond_both (ltb m.words.tail m.words.split) _ _ Steps
        (λ some. aims access.ReadPair Going (Swap (m.words.tail, m.words.split)) refl (fresh m.words.tail m.words.split some))
        (λ _. aims access.ReadPair Going ReadRequest refl refl))
    aimed_steps (Swap pair) is = swap_steps pair.0 pair.1 (at s.cells pair.0) is
    aimed_steps ReadRequest is = cond_both _ _ _ Steps (λ _. aims access.ReadRequest NoShare ReadFlag refl refl) (λ _. aims access.ReadRequest Going WriteRequest refl refl)
    aimed_steps WriteRequest is = asks
    aimed_steps (Hold position) is = refuses access.Step Holding

  helper_steps : (helper : ℕ) (x : Option Helper) → at_number s.helpers helper ≡ x → Steps (step_of s helper x)
  helper_steps helper None is = refuses access.Step UnknownHelper
  helper_steps helper (Some h) is = aimed_steps helper h (numbered s.helpers helper h is) h.aim refl

  finish_steps : (helper : ℕ) (outcome : O) (x : Option Helper) → at_number s.helpers helper ≡ x → Steps (finish_of s helper outcome x)
  finish_steps helper outcome x is =
      finish_ways s Steps helper outcome x (refuses access.Finish UnknownHelper) (λ h some none. refuses access.Finish HoldsNone)
      (λ h p some holds. aims helper h (numbered s.helpers helper h (is ∙ some)) access.Finish Finished ReadFlag refl refl)

  cells_step : (handed : ℕ) (name : Access) (e : Effect J O) → Steps e → Steps (with_cells s handed name e)
  cells_step handed name e steps = handed_ways s Steps handed name e steps (refuses name WrongCells)

  call_steps : (handed : ℕ) (call : Call J O) → Steps (effect_of s handed call)
  call_steps handed (Push job) = cells_step handed access.Push (push s job) (push_steps job)
  call_steps handed Pop = cells_step handed access.Pop (pop s) (begun_ways s Steps access.Pop _ (λ _. popped_steps (top s)) (refuses access.Pop Busy))
  call_steps handed Retire = cells_step handed access.Retire (retire s) (begun_ways s Steps access.Retire _ (λ _. retired_steps (top s)) (refuses access.Retire Busy))
  call_steps handed OwnerStep = cells_step handed access.Step (owner_step s) (owner_steps s.owner.phase)
  call_steps handed (HelperStep helper) = cells_step handed access.Step (helper_step s helper) (helper_steps helper (at_number s.helpers helper) refl)
  call_steps handed (Finish helper outcome) = cells_step handed access.Finish (finish s helper outcome) (finish_steps helper outcome (at_number s.helpers helper) refl)
  call_steps handed Land = lands

module _ {J O : Type 0} (start : State J O) (new : New start) where
  abbrev n : ℕ
  n = length start.helpers

  -- what holds after every history: the CHANGED answers given and still owed are paid for
  record Paid (h : List (Entry J O)) (s : State J O) : Type 0 where
    all : length s.helpers ≡ n
    bound : changed_count h + owed n s.memory s.helpers ≤ (n - 1) * taken_count h + n * written_count h

  paid : (h : List (Entry J O)) (s : State J O) → Runs start h s → Paid h s
  paid [] s is =
      let now : owed n s.memory s.helpers ≡ owed n start.memory start.helpers = ap (λ b. owed n b.memory b.helpers) is in
      record { all = ap (λ b. length b.helpers) is; bound = grind (arith, new.made, none_fails_at_first n) }
  paid (e ∷ h) s (before, runs, makes) =
      let past = paid h before runs in
      let effect = effect_of before e.handed e.call in
      let k = e.reply.landed in
      let steps = call_steps before n past.all e.handed e.call in
      let now : owed n s.memory s.helpers ≡ owed n (memory.after effect.touches k before.memory) effect.helpers = ap (λ b. owed n b.memory b.helpers) makes.moves in
      record {
        all = ap (λ b. length b.helpers) makes.moves ∙ steps.0;
        bound = grind (
          arith,
          makes.replies,
          past.bound,
          steps.1 k,
          mul-add (n - 1) (one (is_taken e.reply.answer)) (taken_count h),
          mul-add n (one (writes_share e.reply.access)) (written_count h),
        );
      }

pub changed_is_bounded : (J O : Type 0) → ChangedIsBounded J O
changed_is_bounded J O start s h new runs = omega (arith, (paid start new h s runs).bound)
