-- Jobs accepted, worked, taken and left add up, call by call. Assumes nothing.
use Rattle.std.proofs.Common.{◌≡◌, ℕ, zero, suc, ◌+◌, ◌<◌, ◌≤◌, Bool, true, cond, ltb, List, [], ◌∷◌, take, is_some, Some, None, Option, refl, arith, ltb-false}
use Rattle.calls.specs.declared.call.Call.{Call}
use Rattle.calls.specs.declared.call.Call.TheVariants.{Push, Pop, Retire, OwnerStep, HelperStep, Finish, Land}
use Rattle.model.specs.Calls.{effect_of, Entry}
use Rattle.model.specs.Helping.{swap_at, step_aimed, step_of, helper_step, finish}
use Rattle.model.specs.Histories.{is_pushed, is_work, is_taken, pushed_count, work_count, taken_count, untaken}
use Rattle.model.specs.Keeping.{PhaseFits, Sound}
use Rattle.model.specs.Orders.{progress}
use Rattle.model.specs.Owning.{idle, top, popped, pop, retired, retired_with, retire, owner_step_at, owner_step, ending_answer}
use Rattle.model.specs.Places.{at, at_number}
use Rattle.model.specs.State.{State, Effect, refused, state_after}
use Rattle.model.specs.declared.cell.Cell.{Cell}
use Rattle.model.specs.declared.helper.Aim.{Aim}
use Rattle.model.specs.declared.helper.Aim.TheVariants.{Swap, Hold}
use Rattle.model.specs.declared.helper.Helper.{Helper}
use Rattle.model.specs.declared.owner.Ending.{Ending}
use Rattle.model.specs.declared.owner.Ending.TheVariants as ending
use Rattle.model.specs.declared.owner.Open.TheVariants as open_at
use Rattle.model.specs.declared.owner.Owner.{Owner}
use Rattle.model.specs.declared.owner.Phase.{Phase}
use Rattle.model.specs.declared.owner.Phase.TheVariants.{Idle, Opening, Sharing, Shrinking}
use Rattle.model.specs.declared.owner.Share.TheVariants as share_at
use Rattle.model.specs.declared.owner.Shrink.TheVariants as shrink_at
use Rattle.model.specs.declared.reply.Access.{Access}
use Rattle.model.specs.declared.reply.Access.TheVariants as access
use Rattle.model.specs.declared.reply.Refusal.{Refusal}
use Rattle.model.specs.declared.reply.Refusal.TheVariants.{Busy, Empty, NotTold, Unfinished, Misread}
use Rattle.model.proofs.Entries.{number_positive, TakenAt, FreeAt, taken_stays, free_stays}
use Rattle.model.proofs.Safe.{taken_more, given_up, next_stolen}
use Rattle.model.proofs.Ways.{idle_is}
use Rattle.model.proofs.Ways.{handed_ways, begun_ways, finish_ways}
use Rattle.std.proofs.lemmas.Bool.{cond_both}

abbrev pub one : Bool → ℕ
one b = cond b 1 0

-- an answer that a phase still owes
abbrev end_push : {J : Type 0} → Ending J → ℕ
end_push ending.Pushed = 1
end_push (ending.Work job) = 0

abbrev end_work : {J : Type 0} → Ending J → ℕ
end_work ending.Pushed = 0
end_work (ending.Work job) = 1

module _ {J O : Type 0} where
  abbrev pub owes_push : Phase J O → ℕ
  owes_push (Opening at) = 1
  owes_push (Sharing at end) = end_push end
  owes_push p = 0

  abbrev pub owes_work : Phase J O → ℕ
  owes_work (Sharing at end) = end_work end
  owes_work p = 0

  -- one call, from R stolen positions to R': both sides of the sum rise alike
  pub record Accounts (R R' : ℕ) (p : Phase J O) (head : ℕ) (e : Effect J O) : Type 0 where
    pub sum : one (is_pushed e.answer) + owes_push e.owner.phase + R' + (owes_work p + head) ≡ one (is_work e.answer) + owes_work e.owner.phase + one (is_taken e.answer) + e.owner.head + (owes_push p + R)

rest_owes_none : {J O : Type 0} (p : Phase J O) → idle p ≡ true → (owes_push p ≡ 0) × (owes_work p ≡ 0)
rest_owes_none p is = rw (idle_is p is) (refl, refl)

end_answers : {J : Type 0} (O : Type 0) (end : Ending J) (R head : ℕ) → one (is_pushed {O = O} (ending_answer end)) + 0 + R + (end_work end + head) ≡ one (is_work {O = O} (ending_answer end)) + 0 + one (is_taken {O = O} (ending_answer end)) + head + (end_push end + R)
end_answers O ending.Pushed R head = omega arith
end_answers O (ending.Work job) R head = omega arith

module _ {J O : Type 0} (s : State J O) (R : ℕ) (sound : Sound s.owner) where
  abbrev o : Owner J O
  o = s.owner

  abbrev Same : Phase J O → Effect J O → Type 0
  Same p e = Accounts R R p o.head e

  refused_same : (name : Access) (refusal : Refusal) → Same o.phase (refused s name refusal)
  refused_same name refusal = omega arith

  step_accounts : (p : Phase J O) → o.phase ≡ p → PhaseFits o.own_flag o.told o.own_split o.head p → Same p (owner_step_at s p)
  step_accounts Idle is fits = grind arith
  step_accounts (Opening open_at.ReadRequest) is fits = grind arith
  step_accounts (Sharing share_at.ReadRequest end) is fits = grind (arith, end_answers O end R o.head)
  step_accounts (Sharing share_at.WriteRequest end) is fits = record { sum = end_answers O end R o.head }
  step_accounts (Shrinking shrink_at.ReadPair job) is fits = grind arith
  step_accounts (Shrinking (shrink_at.ReadTail t s') job) is fits = grind arith
  step_accounts (Opening at) is fits = omega arith
  step_accounts (Sharing at end) is fits = omega arith
  step_accounts (Shrinking at job) is fits = omega arith
  step_accounts p is fits = omega arith

  popped_accounts : idle o.phase ≡ true → (x : Option (Cell J O)) → top s ≡ x → Same o.phase (popped s x)
  popped_accounts rest None is = refused_same access.Pop Empty
  popped_accounts rest (Some cell) is =
      let (no_push, no_work) = rest_owes_none o.phase rest in
      let some = number_positive s.cells o.head cell is in
      grind arith

  pop_accounts : Same o.phase (pop s)
  pop_accounts = begun_ways s (Same o.phase) access.Pop (popped s (top s)) (λ rest. popped_accounts rest (top s) refl) (refused_same access.Pop Busy)

  -- a retire gives up a stolen position
  abbrev Gives : Effect J O → Type 0
  Gives e = Accounts R (given_up (progress e.answer) R) o.phase o.head e

  retired_with_accounts : idle o.phase ≡ true → 0 < o.head → 0 < R → (x : Option O) → Gives (retired_with s x)
  retired_with_accounts rest some stolen None = refused_same access.Retire Unfinished
  retired_with_accounts rest some stolen (Some outcome) =
      let (no_push, no_work) = rest_owes_none o.phase rest in
      grind arith

  retired_accounts : idle o.phase ≡ true → o.told ≤ R → (x : Option (Cell J O)) → top s ≡ x → Gives (retired s x)
  retired_accounts rest told None is = refused_same access.Retire Empty
  retired_accounts rest told (Some cell) is =
      let some = number_positive s.cells o.head cell is in
      cond_both (ltb o.told o.head) _ _ Gives (λ _. refused_same access.Retire NotTold) (λ past. retired_with_accounts rest some (omega (arith, ltb-false o.told o.head past)) cell.outcome)

  retire_accounts : o.told ≤ R → Gives (retire s)
  retire_accounts told =
      begun_ways s Gives access.Retire (retired s (top s)) (λ rest. retired_accounts rest told (top s) refl) (refused_same access.Retire Busy)

  -- a passed swap steals a position
  abbrev Helps : Effect J O → Type 0
  Helps e = Accounts R (taken_more e.answer R) o.phase o.head e

  swap_accounts : (helper t s' : ℕ) (x : Option (Cell J O)) → Helps (swap_at s helper t s' x)
  swap_accounts helper t s' None = refused_same access.Step Misread
  swap_accounts helper t s' (Some cell) = grind arith

  aimed_accounts : (helper : ℕ) (a : Aim) → Helps (step_aimed s helper a)
  aimed_accounts helper (Swap pair) = swap_accounts helper pair.0 pair.1 (at s.cells pair.0)
  aimed_accounts helper (Hold position) = refused_same _ _
  aimed_accounts helper a = grind arith

  helper_accounts : (helper : ℕ) (x : Option Helper) → Helps (step_of s helper x)
  helper_accounts helper None = refused_same _ _
  helper_accounts helper (Some h) = aimed_accounts helper h.aim

  pub call_accounts : (handed : ℕ) (call : Call J O) → o.told ≤ R → Accounts R (next_stolen call (effect_of s handed call).answer R) o.phase o.head (effect_of s handed call)
  call_accounts handed (Push job) told = grind (arith, rest_owes_none o.phase)
  call_accounts handed Pop told = handed_ways s (Same o.phase) handed access.Pop (pop s) pop_accounts (refused_same _ _)
  call_accounts handed Retire told = handed_ways s Gives handed access.Retire (retire s) (retire_accounts told) (refused_same _ _)
  call_accounts handed OwnerStep told = handed_ways s (Same o.phase) handed access.Step (owner_step s) (step_accounts o.phase refl sound.fits) (refused_same _ _)
  call_accounts handed (HelperStep helper) told = handed_ways s Helps handed access.Step (helper_step s helper) (helper_accounts helper (at_number s.helpers helper)) (refused_same _ _)
  call_accounts handed (Finish helper outcome) told =
      handed_ways s (Same o.phase) handed access.Finish (finish s helper outcome) (finish_ways s (Same o.phase) helper outcome (at_number s.helpers helper) (refused_same _ _) (λ _ _ _. refused_same _ _) (λ _ _ _ _. omega arith)) (refused_same _ _)
  call_accounts handed Land told = omega arith

module _ {J O : Type 0} where
  -- the sum, with what the owner's operation under way still owes
  abbrev pub Summed : List (Entry J O) → State J O → ℕ → Type 0
  Summed h s R =
      pushed_count h + owes_push s.owner.phase + R ≡ work_count h + owes_work s.owner.phase + taken_count h + s.owner.head

  pub summed_next : (s : State J O) (R : ℕ) (sound : Sound s.owner) (h : List (Entry J O)) (e : Entry J O) → s.owner.told ≤ R → e.reply.answer ≡ (effect_of s e.handed e.call).answer → Summed h s R → Summed (e ∷ h) (state_after s (effect_of s e.handed e.call) e.reply.landed) (next_stolen e.call (effect_of s e.handed e.call).answer R)
  summed_next s R sound h e told same summed =
      let account = call_accounts s R sound e.handed e.call told in
      grind (arith, account.sum)

  untaken_left : (head R : ℕ) (cells : List (Cell J O)) → R ≤ head → ((i : ℕ) → i < R → TakenAt cells i) → ((i : ℕ) → R ≤ i → i < head → FreeAt cells i) → untaken (take head cells) + R ≡ head
  untaken_left zero R cells within taken free = omega arith
  untaken_left (suc head) zero [] within taken free = cc (free 0 (omega arith) (omega arith)).there
  untaken_left (suc head) (suc R) [] within taken free = cc (taken 0 (omega arith)).there
  untaken_left (suc head) zero (c ∷ cells) within taken free =
      let here = free 0 (omega arith) (omega arith) in
      let is : here.cell ≡ c = cc here.there in
      let one_here : ◌≡◌ {A = ℕ} (cond (is_some c.taker) 0 1) 1 = rw (← is, here.untaken) in
      let rest = untaken_left head zero cells (omega arith) (λ i less. absurd (omega arith)) (λ i from less. free_stays refl (free (suc i) (omega arith) (omega arith))) in
      omega arith
  untaken_left (suc head) (suc R) (c ∷ cells) within taken free =
      let here = taken 0 (omega arith) in
      let is : here.cell ≡ c = cc here.there in
      let none_here : ◌≡◌ {A = ℕ} (cond (is_some c.taker) 0 1) 0 = rw (← is, here.taken) in
      let rest = untaken_left head R cells (omega arith) (λ i less. taken_stays refl (taken (suc i) (omega arith))) (λ i from less. free_stays refl (free (suc i) (omega arith) (omega arith))) in
      omega arith

  pub adds_up : (s : State J O) (R : ℕ) (h : List (Entry J O)) → idle s.owner.phase ≡ true → R ≤ s.owner.head → ((i : ℕ) → i < R → TakenAt s.cells i) → ((i : ℕ) → R ≤ i → i < s.owner.head → FreeAt s.cells i) → Summed h s R → pushed_count h ≡ work_count h + taken_count h + untaken (take s.owner.head s.cells)
  adds_up s R h rest within taken free summed =
      let (no_push, no_work) = rest_owes_none s.owner.phase rest in
      omega (arith, untaken_left s.owner.head R s.cells within taken free)
