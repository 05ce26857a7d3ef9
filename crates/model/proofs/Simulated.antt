-- Each call does one thing to the plain board that the cells below head make, or nothing, and keeps the cells and the helpers
-- fitting. Assumes nothing.
use Rattle.std.proofs.Common.{◌≡◌, ℕ, ◌+◌, ◌-◌, ◌/◌, ◌<◌, ◌≤◌, min, Bool, true, false, eqb, ltb, List, length, take, is_some, Some, None, Option, sym, refl, ap, ◌∙◌, inl, inr, arith, length-take-le, take-take, ltb-false, ltb-true}
use borrow.Author.Tests.{eqb-false}
use Rattle.calls.specs.declared.call.Call.{Call}
use Rattle.calls.specs.declared.call.Call.TheVariants.{Push, Pop, Retire, OwnerStep, HelperStep, Finish, Land}
use Rattle.memory.specs.Meaning as memory
use Rattle.model.specs.Calls.{with_cells, effect_of}
use Rattle.model.specs.Helping.{marked, with_outcome, swap_at, step_aimed, step_of, helper_step, finish_aimed, finish_of, finish}
use Rattle.model.specs.Keeping.{InRange, PhaseFits, Sound}
use Rattle.model.specs.Orders.{going, progress}
use Rattle.model.specs.Owning.{idle, ending_answer, working, top, push, popped, pop, retired, retired_with, retire, owner_step_at, owner_step}
use Rattle.model.specs.Places.{at, at_number, changed, new_cell}
use Rattle.model.specs.Plain.{Plain, pushes, pops, retires, takes, finishes, oldest_untaken, place_held, plain_pop, plain_retire, plain_take, plain_finish, does}
use Rattle.model.specs.State.{State, Effect, refused, owns, with_split, with_flag, with_phase, state_after}
use Rattle.model.specs.declared.cell.Cell.{Cell}
use Rattle.model.specs.declared.helper.Aim.{Aim}
use Rattle.model.specs.declared.helper.Aim.TheVariants.{ReadFlag, ReadPair, Swap, ReadRequest, WriteRequest, Hold}
use Rattle.model.specs.declared.helper.Helper.{Helper}
use Rattle.model.specs.declared.owner.Ending.{Ending}
use Rattle.model.specs.declared.owner.Ending.TheVariants as ending
use Rattle.model.specs.declared.owner.Open.TheVariants as open_at
use Rattle.model.specs.declared.owner.Owner.{Owner}
use Rattle.model.specs.declared.owner.Phase.{Phase}
use Rattle.model.specs.declared.owner.Phase.TheVariants.{Idle, Opening, Sharing, Shrinking, Closing, Retiring}
use Rattle.model.specs.declared.owner.Share.TheVariants as share_at
use Rattle.model.specs.declared.owner.Shrink.TheVariants as shrink_at
use Rattle.model.specs.declared.reply.Access.{Access}
use Rattle.model.specs.declared.reply.Access.TheVariants as access
use Rattle.model.specs.declared.reply.Answer.{Answer}
use Rattle.model.specs.declared.reply.Answer.TheVariants.{Going, Pushed, Work, Stolen, Retired, Taken, AllGone, NoShare, Changed, Finished, Refused}
use Rattle.model.specs.declared.reply.Refusal.{Refusal}
use Rattle.model.specs.declared.reply.Refusal.TheVariants.{UnknownHelper, Holding, HoldsNone, Busy, NothingBegun, Full, Empty, NotTold, Unfinished, Misread, WrongCells}
use Rattle.model.proofs.Cells.{Fitting, TopJob, JobFits, job_stays, fit_push, fit_lower, fit_retire, fit_aims, fit_takes, fit_finish, plain_holds_none, plain_holds, CellsFit}
use Rattle.model.proofs.Entries.{taken_stays, free_stays, numbered, number_positive, number_of, take_at, take_number, take_changed, take_newest, oldest_is}
use Rattle.model.proofs.Events.{Stage, resting, unplaced, placed, stage, Event, nothing, places, StepAllowed, AttemptAllowed, Allowed, Happens}
use Rattle.model.proofs.Ways.{idle_is, HoldsNothing, handed_ways, begun_ways, finish_ways}
use Rattle.std.proofs.lemmas.Bool.{cond_both}
use Rattle.model.proofs.Modes.{quiet_no_swap, mode_swap, settled_tail}
use Rattle.model.proofs.Safe.{Need, quiet, shared, need, MemoryFits, Numbers, Safe, next_stolen, bound, need_bound}

-- a passed swap takes the oldest position that is not stolen, and it lies below head
swap_takes : (size R head t s' : ℕ) (m : memory.Meaning) (d : Need) → MemoryFits size R m d → bound d ≤ head → memory.swap_passes t s' m.words ≡ true → (t ≡ R) × (R < head)
swap_takes size R head t s' m quiet fits up passes = absurd (quiet_no_swap size t s' m fits passes)
swap_takes size R head t s' m (shared B S) fits up passes =
    let one = mode_swap size R B t s' m fits.0 passes in
    (one.position, omega (arith, one.shared))

module _ {J O : Type 0} where
  -- the plain board of an owner and its cells
  abbrev plain_with : Owner J O → List (Cell J O) → Plain J O
  plain_with o cells = record { size = o.size; entries = take o.head cells; told = o.told }

  abbrev pub plain_of : State J O → Plain J O
  plain_of s = plain_with s.owner s.cells

  -- a phase with no operation unfinished
  rest_stage : (p : Phase J O) → idle p ≡ true → stage p ≡ resting
  rest_stage p is = ap stage (idle_is p is)

  rest_job : (head : ℕ) (cells : List (Cell J O)) (p : Phase J O) → idle p ≡ true → JobFits head cells p
  rest_job head cells p is = rw (idle_is p is) tt

  none_stolen : (call : Call J O) (r : Refusal) (R : ℕ) → next_stolen call (Refused r) R ≡ R
  none_stolen Land r R = refl
  none_stolen call r R = refl

module _ {J O : Type 0} (s : State J O) (R : ℕ) (sound : Sound s.owner) (safe : Safe R s) (cells_fit : CellsFit R s) where
  abbrev o : Owner J O
  o = s.owner

  abbrev head : ℕ
  head = s.owner.head

  abbrev cells : List (Cell J O)
  cells = s.cells

  abbrev b : Plain J O
  b = plain_of s

  abbrev E : List (Cell J O)
  E = take s.owner.head s.cells

  range : InRange o
  range = sound.in_range

  fit : Fitting R s.owner.head s.helpers s.cells
  fit = cells_fit.fit

  -- what a call does to the plain board, and that the cells and the helpers still fit
  record Follows (call : Call J O) (e : Effect J O) : Type 0 where
    event : Event J O
    allowed : Allowed call e.answer (stage s.owner.phase) (stage e.owner.phase) event
    happens : Happens (plain_of s) event (plain_with e.owner e.cells)
    fitting : Fitting (next_stolen call e.answer R) e.owner.head e.helpers e.cells
    job : JobFits e.owner.head e.cells e.owner.phase

  all_there : head ≤ length cells
  all_there = omega (arith, range.head_size, safe.cells)

  as_many : length E ≡ head
  as_many = length-take-le head cells all_there

  newest_is : (x : Option (Cell J O)) → top s ≡ x → at_number E (length E) ≡ x
  newest_is x is = rw (as_many, take_number head cells) is

  older_are : take (length E - 1) E ≡ take (head - 1) cells
  older_are = rw as_many (take-take (head - 1) head cells (omega arith))

  -- the top cell, where all is stolen and where it is not
  top_taken : (c : Cell J O) → top s ≡ Some c → R ≡ head → is_some c.taker ≡ true
  top_taken c is all =
      let some = number_positive cells head c is in
      let here = numbered cells head c is in
      let taken = fit.taken (head - 1) (omega arith) in
      let same : c ≡ taken.cell = cc taken.there in
      rw same taken.taken

  top_free : (c : Cell J O) → top s ≡ Some c → R < head → is_some c.taker ≡ false
  top_free c is less =
      let here = numbered cells head c is in
      let free = fit.free (head - 1) (omega arith) (omega arith) in
      let same : c ≡ free.cell = cc free.there in
      rw (same, free.untaken)

  -- what the plain board answers
  pops_stolen : (c : Cell J O) → top s ≡ Some c → R ≡ head → does b pops ≡ Some (record { answer = Stolen; board = record { size = o.size; entries = E; told = head } })
  pops_stolen c is all = rw (newest_is (Some c) is, top_taken c is all, as_many)

  pops_work : (c : Cell J O) (job : J) → top s ≡ Some c → c.job ≡ job → R < head → does b pops ≡ Some (record { answer = Work job; board = record { size = o.size; entries = take (head - 1) cells; told = o.told } })
  pops_work c job is same less = rw (newest_is (Some c) is, top_free c is less, same, older_are)

  -- a refused call changes nothing
  refuses_so : (call : Call J O) (name : Access) (r : Refusal) (ev : Event J O) → Allowed call (Refused r) (stage o.phase) (stage o.phase) ev → Happens b ev b → Follows call (refused s name r)
  refuses_so call name r ev allowed happens = record {
    event = ev;
    allowed = allowed;
    happens = happens;
    fitting = rw (none_stolen call r R) fit;
    job = cells_fit.job;
  }

  push_follows : (job : J) → Follows (Push job) (push s job)
  push_follows job =
      begun_ways s (Follows (Push job)) access.Push _ (λ rest.
      cond_both (eqb o.head o.size) _ _ (Follows (Push job))
      (λ full. refuses_so (Push job) access.Push Full (places (pushes job) (Refused Full)) (refl, refl) (rw (as_many, full)))
      (λ apart.
      let room : head < length cells = omega (arith, range.head_size, eqb-false _ _ apart, safe.cells) in
      record {
        event = places (pushes job) Pushed;
        allowed = (rest_stage o.phase rest, grind arith, refl);
        happens = rw (as_many, apart, take_newest head cells (new_cell job) room);
        fitting = fit_push R head s.helpers cells fit (new_cell job) refl refl room;
        job = grind arith;
      })) (refuses_so (Push job) access.Push Busy nothing (refl, refl) refl)

  popped_follows : idle o.phase ≡ true → (x : Option (Cell J O)) → top s ≡ x → Follows Pop (popped s x)
  popped_follows rest None is =
      refuses_so Pop access.Pop Empty (places pops (Refused Empty)) (refl, refl) (ap (λ x. Some (plain_pop b x)) (newest_is None is))
  popped_follows rest (Some c) is =
      let resting_now = rest_stage o.phase rest in
      cond_both o.own_flag _ _ (Follows Pop)
      (λ shut.
      let all : R ≡ head = rw (idle_is o.phase rest, shut) at safe.numbers in
      record {
        event = places pops Stolen;
        allowed = (resting_now, resting_now, refl);
        happens = pops_stolen c is all;
        fitting = fit;
        job = cells_fit.job;
      })
      (λ open_flag.
      let low : R ≤ o.own_split = rw (idle_is o.phase rest, open_flag) at safe.numbers in
      cond_both (ltb o.own_split o.head) _ _ (Follows Pop)
      (λ private.
      let less : R < head = omega (arith, ltb-true _ _ private) in
      record {
        event = places pops (Work c.job);
        allowed = (resting_now, inr (c.job, refl, refl));
        happens = pops_work c c.job is refl less;
        fitting = fit_lower R head s.helpers cells fit (head - 1) (omega arith) (omega arith);
        job = tt;
      })
      (λ _. record {
        event = nothing;
        allowed = (resting_now, inl (refl, refl));
        happens = refl;
        fitting = fit;
        job = record { cell = c; there = is; is = refl };
      }))

  retired_with_follows : idle o.phase ≡ true → (c : Cell J O) → top s ≡ Some c → ltb o.told o.head ≡ false → (x : Option O) → c.outcome ≡ x → Follows Retire (retired_with s x)
  retired_with_follows rest c is told None finished =
      refuses_so Retire access.Retire Unfinished (places retires (Refused Unfinished)) (refl, refl) (rw (newest_is (Some c) is, as_many, told, finished))
  retired_with_follows rest c is told (Some outcome) finished =
      let all : R ≡ head = omega (arith, ltb-false _ _ told, safe.told, fit.within) in
      let resting_now = rest_stage o.phase rest in
      let happens : does b retires ≡ Some (record { answer = Retired outcome; board = record { size = o.size; entries = take (head - 1) cells; told = min o.told (head - 1) } }) =
      rw (newest_is (Some c) is, as_many, told, finished, older_are, as_many) in
      let GivesUp = fit_retire R head s.helpers cells fit c outcome all is finished in
      cond_both o.own_flag _ _ (Follows Retire)
      (λ _. record {
        event = places retires (Retired outcome);
        allowed = (resting_now, resting_now, refl);
        happens = happens;
        fitting = GivesUp;
        job = rest_job (head - 1) cells o.phase rest;
      })
      (λ _. record {
        event = places retires (Retired outcome);
        allowed = (outcome, resting_now, refl, refl);
        happens = happens;
        fitting = GivesUp;
        job = tt;
      })

  retired_follows : idle o.phase ≡ true → (x : Option (Cell J O)) → top s ≡ x → Follows Retire (retired s x)
  retired_follows rest None is =
      refuses_so Retire access.Retire Empty (places retires (Refused Empty)) (refl, refl) (ap (λ x. Some (plain_retire b x)) (newest_is None is))
  retired_follows rest (Some c) is =
      cond_both (ltb o.told o.head) _ _ (Follows Retire)
      (λ early.
      refuses_so Retire access.Retire NotTold (places retires (Refused NotTold)) (refl, refl) (rw (newest_is (Some c) is, as_many, early)))
      (λ told. retired_with_follows rest c is told c.outcome refl)

  -- a step of the owner that leaves the plain board alone
  steps_on : (touches : memory.Access) (name : Access) (answer : Answer J O) (split : ℕ) (flag : Bool) (p : Phase J O) → StepAllowed answer (progress answer) (stage o.phase) (stage p) nothing → JobFits head cells p → Follows OwnerStep (owns s touches name answer (with_phase (with_flag (with_split o split) flag) p))
  steps_on touches name answer split flag p allowed job = record {
    event = nothing;
    allowed = allowed;
    happens = refl;
    fitting = fit;
    job = job;
  }

  -- on with the same operation, or its end
  goes_on : (p : Phase J O) (st : Stage J O) → o.phase ≡ p → (stage p ≡ resting → ⊥) → st ≡ stage p → StepAllowed {J = J} {O = O} Going going (stage o.phase) st nothing
  goes_on p st is busy same = inl ((λ rest. busy (sym (ap stage is) ∙ rest)), same ∙ sym (ap stage is), refl)

  ends_so : (end : Ending J) → stage o.phase ≡ placed (ending_answer end) → StepAllowed {J = J} {O = O} (ending_answer end) (progress {J = J} {O = O} (ending_answer end)) (stage o.phase) resting nothing
  ends_so ending.Pushed is = inl (is, refl, refl)
  ends_so (ending.Work job) is = inl (is, refl, refl)

  -- a pop that shrank gets its job
  works_on : (touches : memory.Access) (name : Access) (split : ℕ) (job : J) → stage o.phase ≡ unplaced → TopJob cells head job → R < head → Follows OwnerStep (owns s touches name Going (working (with_split o split) job))
  works_on touches name split job is top_is less = record {
    event = places pops (Work job);
    allowed = inr (job, is, refl, refl);
    happens = pops_work top_is.cell job top_is.there top_is.is less;
    fitting = fit_lower R head s.helpers cells fit (head - 1) (omega arith) (omega arith);
    job = tt;
  }

  -- the words as the owner reads them
  abbrev tail : ℕ
  tail = (memory.settled s.memory).tail

  abbrev Fits : Phase J O → Type 0
  Fits p = PhaseFits o.own_flag o.told o.own_split o.head p

  abbrev Owes : Phase J O → Type 0
  Owes p = MemoryFits o.size R s.memory (need o.own_flag o.own_split o.head p)

  abbrev Stands : Phase J O → Type 0
  Stands p = Numbers o.own_flag R o.own_split o.head p

  step_follows : (p : Phase J O) → o.phase ≡ p → Fits p → Owes p → Stands p → JobFits head cells p → Follows OwnerStep (owner_step_at s p)
  step_follows Idle is fits owes stands job = refuses_so OwnerStep access.Step NothingBegun nothing (refl, refl) refl
  step_follows (Opening open_at.WritePair) is fits owes stands job = steps_on _ _ Going _ _ (Opening open_at.WriteFlag) (goes_on _ _ is (λ rest. cc) refl) tt
  step_follows (Opening open_at.WriteFlag) is fits owes stands job = steps_on _ _ Going _ _ (Opening open_at.ReadRequest) (goes_on _ _ is (λ rest. cc) refl) tt
  step_follows (Opening open_at.ReadRequest) is fits owes stands job =
      cond_both _ _ _ (Follows OwnerStep)
      (λ _. steps_on memory.reads access.ReadRequest Going o.own_split o.own_flag (Sharing share_at.WriteRequest ending.Pushed) (goes_on _ _ is (λ rest. cc) refl) tt)
      (λ _. steps_on memory.reads access.ReadRequest Pushed o.own_split o.own_flag Idle (inl (ap stage is, refl, refl)) tt)
  step_follows (Sharing share_at.ReadRequest end) is fits owes stands job =
      cond_both _ _ _ (Follows OwnerStep)
      (λ _. steps_on memory.reads access.ReadRequest Going o.own_split o.own_flag (Sharing share_at.WriteSplit end) (goes_on _ _ is (λ rest. cc) refl) tt)
      (λ _. steps_on memory.reads access.ReadRequest (ending_answer end) o.own_split o.own_flag Idle (ends_so end (ap stage is)) tt)
  step_follows (Sharing share_at.WriteSplit end) is fits owes stands job = steps_on _ _ Going _ _ (Sharing share_at.WriteRequest end) (goes_on _ _ is (λ rest. cc) refl) tt
  step_follows (Sharing share_at.WriteRequest end) is fits owes stands job = steps_on _ _ (ending_answer end) _ _ Idle (ends_so end (ap stage is)) tt
  step_follows (Shrinking shrink_at.ReadPair job) is fits owes stands top_is =
      cond_both _ _ _ (Follows OwnerStep)
      (λ _.
      cond_both (eqb tail (memory.settled s.memory).split) Closing (Shrinking (shrink_at.WriteSplit tail (memory.settled s.memory).split) job) (λ p. Follows OwnerStep (owns s memory.reads access.ReadPair Going (with_phase o p)))
      (λ _. steps_on memory.reads access.ReadPair Going o.own_split o.own_flag Closing (goes_on _ _ is (λ rest. cc) refl) tt)
      (λ _. steps_on memory.reads access.ReadPair Going o.own_split o.own_flag _ (goes_on _ _ is (λ rest. cc) refl) top_is))
      (λ _. refuses_so OwnerStep access.Step Misread nothing (refl, refl) refl)
  step_follows (Shrinking (shrink_at.WriteSplit t s') job) is fits owes stands top_is = steps_on _ _ Going _ _ (Shrinking (shrink_at.Fence t s') job) (goes_on _ _ is (λ rest. cc) refl) top_is
  step_follows (Shrinking (shrink_at.Fence t s') job) is fits owes stands top_is = steps_on _ _ Going _ _ (Shrinking (shrink_at.ReadTail t s') job) (goes_on _ _ is (λ rest. cc) refl) top_is
  step_follows (Shrinking (shrink_at.ReadTail t s') job) is fits owes stands top_is =
      let (open_flag, low_told, ordered, whole, half) = fits in
      let tail_is : tail ≡ R = settled_tail o.size R o.own_split s.memory owes.0 in
      cond_both _ _ _ (Follows OwnerStep)
      (λ _.
      cond_both (eqb tail s') _ _ (λ p. Follows OwnerStep (owns s memory.reads access.ReadTail Going p))
      (λ _. steps_on memory.reads access.ReadTail Going o.own_split o.own_flag Closing (goes_on _ _ is (λ rest. cc) refl) tt)
      (λ _.
      cond_both (ltb ((t + s') / 2) tail) _ _ (λ p. Follows OwnerStep (owns s memory.reads access.ReadTail Going p))
      (λ _. steps_on memory.reads access.ReadTail Going o.own_split o.own_flag (Shrinking (shrink_at.WriteAgain tail s') job) (goes_on _ _ is (λ rest. cc) refl) top_is)
      (λ low. works_on memory.reads access.ReadTail o.own_split job (ap stage is) top_is (omega (arith, ltb-false _ _ low)))))
      (λ _. refuses_so OwnerStep access.Step Misread nothing (refl, refl) refl)
  step_follows (Shrinking (shrink_at.WriteAgain u s') job) is fits owes stands top_is =
      let (open_flag, low_told, ordered, whole) = fits in
      works_on _ _ _ job (ap stage is) top_is (omega (arith, stands.0))
  step_follows Closing is fits owes stands job =
      let some : 0 < head = fits.1 in
      let taken = fit.taken (head - 1) (omega arith) in
      let here : top s ≡ Some taken.cell = number_of cells head some ∙ taken.there in
      record {
        event = places pops Stolen;
        allowed = inr (ap stage is, refl, refl);
        happens = pops_stolen taken.cell here stands;
        fitting = fit;
        job = tt;
      }
  step_follows (Retiring outcome) is fits owes stands job = steps_on _ _ (Retired outcome) _ _ Idle (inl (ap stage is, refl, refl)) tt

  module _ (k : ℕ) (h : Helper) (there : at_number s.helpers k ≡ Some h) where
    abbrev aimed : Aim → List Helper
    aimed a = changed s.helpers (k - 1) (λ _. record { aim = a })

    abbrev looks : memory.Access → Access → Answer J O → Aim → Effect J O
    looks touches name answer a = record { touches = touches; access = name; answer = answer; owner = s.owner; helpers = aimed a; cells = s.cells }

    -- a step of a helper that leaves the cells alone
    looks_on : (touches : memory.Access) (name : Access) (answer : Answer J O) (a : Aim) → AttemptAllowed k answer nothing → next_stolen (HelperStep k) answer R ≡ R → HoldsNothing h.aim → HoldsNothing a → Follows (HelperStep k) (looks touches name answer a)
    looks_on touches name answer a allowed kept before after = record {
      event = nothing;
      allowed = (refl, allowed);
      happens = refl;
      fitting = rw kept (fit_aims R head s.helpers cells fit k h there a before after);
      job = cells_fit.job;
    }

    takes_so : (c : Cell J O) → R < head → at cells R ≡ Some c → HoldsNothing h.aim → does b (takes k) ≡ Some (record { answer = Taken c.job; board = record { size = o.size; entries = take head (changed cells R (marked k)); told = o.told } })
    takes_so c less here before =
        let none : place_held k E ≡ None = plain_holds_none R head s.helpers cells fit k h there before in
        let free = fit.free R (omega arith) less in
        let in_entries : at E R ≡ at cells R = take_at head cells R less in
        let oldest : oldest_untaken E ≡ Some R =
        oldest_is R E (λ i low. taken_stays (take_at head cells i (omega arith)) (fit.taken i low)) (free_stays in_entries free) in
        let found : at E R ≡ Some c = in_entries ∙ here in
        rw (none, oldest, found, take_changed head cells R (marked k))

    swap_follows : (t s' : ℕ) (x : Option (Cell J O)) → h.aim ≡ Swap (t, s') → at cells t ≡ x → Follows (HelperStep k) (swap_at s k t s' x)
    swap_follows t s' None is here = refuses_so (HelperStep k) access.Step Misread nothing (refl, refl) refl
    swap_follows t s' (Some c) is here =
        let before : HoldsNothing h.aim = λ p holds. cc in
        cond_both (memory.swap_passes t s' s.memory.words) _ _ (Follows (HelperStep k))
        (λ passes.
        let (place, less) = swap_takes o.size R head t s' s.memory (need o.own_flag o.own_split head o.phase) safe.memory (need_bound _ o.told _ head o.phase sound.fits range.split_head) passes in
        record {
          event = places (takes k) (Taken c.job);
          allowed = (refl, refl);
          happens = rw place (takes_so c less (rw place at here) before);
          fitting = rw place (fit_takes R head s.helpers cells fit k h there less before);
          job = job_stays head cells t (marked k) (λ c. refl) o.phase cells_fit.job;
        })
        (λ _. looks_on (memory.tries t s') access.Swap Changed ReadFlag refl refl before (λ p held. cc))

    aimed_follows : (a : Aim) → h.aim ≡ a → Follows (HelperStep k) (step_aimed s k a)
    aimed_follows ReadFlag is =
        let before : HoldsNothing h.aim = λ p holds. cc in
        cond_both _ _ _ (Follows (HelperStep k)) (λ _. looks_on memory.reads access.ReadFlag AllGone ReadFlag refl refl before (λ p held. cc)) (λ _. looks_on memory.reads access.ReadFlag Going ReadPair refl refl before (λ p held. cc))
    aimed_follows ReadPair is =
        let before : HoldsNothing h.aim = λ p holds. cc in
        cond_both (ltb o.size s.memory.words.split) (refused s access.Step Misread) _ (Follows (HelperStep k)) (λ _. refuses_so (HelperStep k) access.Step Misread nothing (refl, refl) refl)
        (λ _.
        cond_both (ltb s.memory.words.tail s.memory.words.split) _ _ (Follows (HelperStep k))
        (λ _. looks_on memory.reads access.ReadPair Going (Swap (s.memory.words.tail, s.memory.words.split)) refl refl before (λ p held. cc))
        (λ _. looks_on memory.reads access.ReadPair Going ReadRequest refl refl before (λ p held. cc)))
    aimed_follows (Swap pair) is = swap_follows pair.0 pair.1 (at cells pair.0) is refl
    aimed_follows ReadRequest is =
        let before : HoldsNothing h.aim = λ p holds. cc in
        cond_both _ _ _ (Follows (HelperStep k)) (λ _. looks_on memory.reads access.ReadRequest NoShare ReadFlag refl refl before (λ p held. cc)) (λ _. looks_on memory.reads access.ReadRequest Going WriteRequest refl refl before (λ p held. cc))
    aimed_follows WriteRequest is = looks_on memory.asks access.WriteRequest NoShare ReadFlag refl refl (λ p holds. cc) (λ p holds. cc)
    aimed_follows (Hold p) is =
        refuses_so (HelperStep k) access.Step Holding (places (takes k) (Refused Holding)) (refl, refl)
        (ap (plain_take b k) (plain_holds R head s.helpers cells fit k h there p is))

    none_follows : (outcome : O) → HoldsNothing h.aim → Follows (Finish k outcome) (refused s access.Finish HoldsNone)
    none_follows outcome before =
        refuses_so (Finish k outcome) access.Finish HoldsNone (places (finishes k outcome) (Refused HoldsNone)) (refl, refl)
        (ap (λ x. Some (plain_finish b outcome x)) (plain_holds_none R head s.helpers cells fit k h there before))

    finished_follows : (outcome : O) (p : ℕ) → h.aim ≡ Hold p → Follows (Finish k outcome) (finish_aimed s k outcome (Hold p))
    finished_follows outcome p is = record {
      event = places (finishes k outcome) Finished;
      allowed = (refl, refl);
      happens = rw (plain_holds R head s.helpers cells fit k h there p is, take_changed head cells p (with_outcome outcome));
      fitting = fit_finish R head s.helpers cells fit k h there p outcome is;
      job = job_stays head cells p (with_outcome outcome) (λ c. refl) o.phase cells_fit.job;
    }

  helper_follows : (k : ℕ) (x : Option Helper) → at_number s.helpers k ≡ x → Follows (HelperStep k) (step_of s k x)
  helper_follows k None is = refuses_so (HelperStep k) access.Step UnknownHelper nothing (refl, refl) refl
  helper_follows k (Some h) is = aimed_follows k h is h.aim refl

  finish_follows : (k : ℕ) (outcome : O) (x : Option Helper) → at_number s.helpers k ≡ x → Follows (Finish k outcome) (finish_of s k outcome x)
  finish_follows k outcome x is =
      finish_ways s (Follows (Finish k outcome)) k outcome x (refuses_so (Finish k outcome) access.Finish UnknownHelper nothing (refl, refl) refl)
      (λ h some. none_follows k h (is ∙ some) outcome)
      (λ h p some. finished_follows k h (is ∙ some) outcome p)

  handed_follows : (handed : ℕ) (call : Call J O) (name : Access) (e : Effect J O) → Allowed call (Refused WrongCells) (stage o.phase) (stage o.phase) nothing → Follows call e → Follows call (with_cells s handed name e)
  handed_follows handed call name e allowed follows = handed_ways s (Follows call) handed name e follows (refuses_so call name WrongCells nothing allowed refl)

  call_follows : (handed : ℕ) (call : Call J O) → Follows call (effect_of s handed call)
  call_follows handed (Push job) = handed_follows handed (Push job) access.Push (push s job) (refl, refl) (push_follows job)
  call_follows handed Pop =
      handed_follows handed Pop access.Pop (pop s) (refl, refl) (begun_ways s (Follows Pop) access.Pop _ (λ rest. popped_follows rest (top s) refl) (refuses_so Pop access.Pop Busy nothing (refl, refl) refl))
  call_follows handed Retire =
      handed_follows handed Retire access.Retire (retire s) (refl, refl) (begun_ways s (Follows Retire) access.Retire _ (λ rest. retired_follows rest (top s) refl) (refuses_so Retire access.Retire Busy nothing (refl, refl) refl))
  call_follows handed OwnerStep =
      handed_follows handed OwnerStep access.Step (owner_step s) (refl, refl) (step_follows o.phase refl sound.fits safe.memory safe.numbers cells_fit.job)
  call_follows handed (HelperStep k) =
      handed_follows handed (HelperStep k) access.Step (helper_step s k) (refl, refl) (helper_follows k (at_number s.helpers k) refl)
  call_follows handed (Finish k outcome) =
      handed_follows handed (Finish k outcome) access.Finish (finish s k outcome) (refl, refl) (finish_follows k outcome (at_number s.helpers k) refl)
  call_follows handed Land = record { event = nothing; allowed = (refl, refl); happens = refl; fitting = fit; job = cells_fit.job }

module _ {J O : Type 0} where
  -- every call keeps the cells and the helpers fitting
  pub cells_keep : (s : State J O) (R : ℕ) (handed n : ℕ) (call : Call J O) → Sound s.owner → Safe R s → CellsFit R s → CellsFit (next_stolen call (effect_of s handed call).answer R) (state_after s (effect_of s handed call) n)
  cells_keep s R handed n call sound safe cells_fit =
      let follows = call_follows s R sound safe cells_fit handed call in
      record { fit = follows.fitting; job = follows.job }

  -- every call does at most one thing to the plain board, with the answer that the plain board gives
  pub simulated : (s : State J O) (R : ℕ) (handed n : ℕ) (call : Call J O) → Sound s.owner → Safe R s → CellsFit R s → memory.MayLand (effect_of s handed call).touches n s.memory → (ev : Event J O) × (Allowed call (effect_of s handed call).answer (stage s.owner.phase) (stage (effect_of s handed call).owner.phase) ev) × (Happens (plain_of s) ev (plain_of (state_after s (effect_of s handed call) n)))
  simulated s R handed n call sound safe cells_fit lands =
      let follows = call_follows s R sound safe cells_fit handed call in
      (follows.event, follows.allowed, follows.happens)
