-- The operations of a history, and the orders in which the plain board gives each its answer. Assumes nothing.
use Rattle.std.specs.Prelude.{◌≡◌, ℕ, suc, ◌≤◌, Bool, cond, ◌&&◌, ◌⊎◌, List, [], ◌∷◌, ◌++◌, length, Some, None, Option, ◌==◌, ◌≢◌, nat_le}
use Rattle.calls.specs.declared.call.Call.{Call}
use Rattle.calls.specs.declared.call.Call.TheVariants.{Push, Pop, Retire, OwnerStep, HelperStep, Finish, Land}
use Rattle.calls.specs.declared.party.Party.{Party}
use Rattle.calls.specs.declared.party.Party.TheVariants.{Owner, Helper}
use Rattle.model.specs.Calls.{Entry}
use Rattle.model.specs.Naming.{number}
use Rattle.model.specs.Plain.{Plain, Deed, pushes, pops, retires, takes, finishes, new_plain, does}
use Rattle.model.specs.declared.reply.Answer.{Answer}
use Rattle.model.specs.declared.reply.Answer.TheVariants.{Going, Pushed, Work, Stolen, Retired, Taken, AllGone, NoShare, Changed, Finished, Refused}
use Rattle.model.specs.declared.reply.Refusal.{Refusal}

-- an answer leaves its operation going, ends it, or refuses the call
pub data Progress : Type 0 where
  going : Progress
  ended : Progress
  barred : Refusal → Progress

module _ {J O : Type 0} where
  abbrev pub progress : Answer J O → Progress
  progress Going = going
  progress Pushed = ended
  progress (Work job) = ended
  progress Stolen = ended
  progress (Retired outcome) = ended
  progress (Taken job) = ended
  progress AllGone = ended
  progress NoShare = ended
  progress Changed = ended
  progress Finished = ended
  progress (Refused refusal) = barred refusal

-- refusals 14 to 19 speak of the board's jobs, so such a call is an operation
abbrev pub is_operation : Refusal → Bool
is_operation refusal = nat_le 14 (number refusal) && nat_le (number refusal) 19

abbrev pub attempt_goes : Progress → ℕ → Option ℕ → Option ℕ
attempt_goes going n None = Some n
attempt_goes going n (Some first) = Some first
attempt_goes ended n before = None
attempt_goes (barred refusal) n before = before

abbrev pub first_call : ℕ → Option ℕ → ℕ
first_call n None = n
first_call n (Some first) = first

-- what a till has begun and not ended: its first call, counted from 1, and what it asks
pub record Begun (J O : Type 0) : Type 0 where
  pub first : ℕ
  pub deed : Deed J O

-- an operation: who made it, its first and its last call, what it asked and what it was answered
pub record Operation (J O : Type 0) : Type 0 where
  pub till : Party
  pub first : ℕ
  pub last : ℕ
  pub deed : Deed J O
  pub answer : Answer J O

module _ {J O : Type 0} where
  abbrev pub begins : Progress → ℕ → Deed J O → Option (Begun J O) → Option (Begun J O)
  begins going n deed before = Some (record { first = n; deed = deed })
  begins ended n deed before = None
  begins (barred refusal) n deed before = before

  abbrev pub goes_on : Progress → Option (Begun J O) → Option (Begun J O)
  goes_on going before = before
  goes_on ended before = None
  goes_on (barred refusal) before = before

  abbrev pub owner_after : ℕ → Call J O → Progress → Option (Begun J O) → Option (Begun J O)
  owner_after n (Push job) p before = begins p n (pushes job) before
  owner_after n Pop p before = begins p n pops before
  owner_after n Retire p before = begins p n retires before
  owner_after n OwnerStep p before = goes_on p before
  owner_after n (HelperStep helper) p before = before
  owner_after n (Finish helper outcome) p before = before
  owner_after n Land p before = before

  -- the owner's operation under way
  abbrev pub owner_begun : List (Entry J O) → Option (Begun J O)
  owner_begun [] = None
  owner_begun (e ∷ h) = owner_after (suc (length h)) e.call (progress e.reply.answer) (owner_begun h)

  abbrev pub attempt_after : ℕ → ℕ → Call J O → Progress → Option ℕ → Option ℕ
  attempt_after helper n (Push job) p before = before
  attempt_after helper n Pop p before = before
  attempt_after helper n Retire p before = before
  attempt_after helper n OwnerStep p before = before
  attempt_after helper n (HelperStep other) p before = cond (other == helper) (attempt_goes p n before) before
  attempt_after helper n (Finish other outcome) p before = before
  attempt_after helper n Land p before = before

  -- the first call of a helper's attempt under way
  abbrev pub attempt_begun : ℕ → List (Entry J O) → Option ℕ
  attempt_begun helper [] = None
  attempt_begun helper (e ∷ h) = attempt_after helper (suc (length h)) e.call (progress e.reply.answer) (attempt_begun helper h)

  abbrev pub operation : Party → ℕ → ℕ → Deed J O → Answer J O → Option (Operation J O)
  operation till first last deed answer = Some (record { till = till; first = first; last = last; deed = deed; answer = answer })

  -- a call that is an operation by itself
  abbrev pub alone : Party → ℕ → Deed J O → Answer J O → Progress → Option (Operation J O)
  alone till n deed answer going = None
  alone till n deed answer ended = operation till n n deed answer
  alone till n deed answer (barred refusal) = cond (is_operation refusal) (operation till n n deed answer) None

  abbrev pub step_ends : ℕ → Answer J O → Progress → Option (Begun J O) → Option (Operation J O)
  step_ends n answer going before = None
  step_ends n answer ended None = None
  step_ends n answer ended (Some begun) = operation Owner begun.first n begun.deed answer
  step_ends n answer (barred refusal) before = None

  -- an attempt is an operation where it ends in TAKEN
  abbrev pub attempt_ends : ℕ → ℕ → Answer J O → Option ℕ → Option (Operation J O)
  attempt_ends helper n Going before = None
  attempt_ends helper n Pushed before = None
  attempt_ends helper n (Work job) before = None
  attempt_ends helper n Stolen before = None
  attempt_ends helper n (Retired outcome) before = None
  attempt_ends helper n (Taken job) before = operation (Helper helper) (first_call n before) n (takes helper) (Taken job)
  attempt_ends helper n AllGone before = None
  attempt_ends helper n NoShare before = None
  attempt_ends helper n Changed before = None
  attempt_ends helper n Finished before = None
  attempt_ends helper n (Refused refusal) before = cond (is_operation refusal) (operation (Helper helper) n n (takes helper) (Refused refusal)) None

  -- the operation that call number n ends, after the calls of h
  abbrev pub ends : ℕ → Call J O → Answer J O → List (Entry J O) → Option (Operation J O)
  ends n (Push job) answer h = alone Owner n (pushes job) answer (progress answer)
  ends n Pop answer h = alone Owner n pops answer (progress answer)
  ends n Retire answer h = alone Owner n retires answer (progress answer)
  ends n OwnerStep answer h = step_ends n answer (progress answer) (owner_begun h)
  ends n (HelperStep helper) answer h = attempt_ends helper n answer (attempt_begun helper h)
  ends n (Finish helper outcome) answer h = alone (Helper helper) n (finishes helper outcome) answer (progress answer)
  ends n Land answer h = None

  -- an operation that a history has ended
  abbrev pub EndedIn : Operation J O → List (Entry J O) → Type 0
  EndedIn op [] = ⊥
  EndedIn op (e ∷ h) = (ends (suc (length h)) e.call e.reply.answer h ≡ Some op) ⊎ EndedIn op h

-- where an operation stands in an order: by its till and first call, at one of its calls, with the answer of the plain board
pub record Place (J O : Type 0) : Type 0 where
  pub till : Party
  pub first : ℕ
  pub at : ℕ
  pub deed : Deed J O
  pub answer : Answer J O

module _ {J O : Type 0} where
  -- the plain board, new and of this size, gives these answers along the order, the newest first, and is then b
  abbrev pub Along : ℕ → List (Place J O) → Plain J O → Type 0
  Along size [] b = b ≡ new_plain size
  Along size (p ∷ order) b = (before : Plain J O) × (Along size order before) × (does before p.deed ≡ Some (record { answer = p.answer; board = b }))

  abbrev pub In : Place J O → List (Place J O) → Type 0
  In p [] = ⊥
  In p (q ∷ order) = (p ≡ q) ⊎ In p order

  -- the calls that the order names do not fall along it, and no operation stands in it twice
  abbrev pub Rises : List (Place J O) → Type 0
  Rises [] = Unit {0}
  Rises (p ∷ order) = ((q : Place J O) → In q order → q.at ≤ p.at) × (((q : Place J O) → In q order → q.till ≡ p.till → q.first ≢ p.first) × Rises order)

  -- the place is this operation's: at a call from its first to its last, with the answer its till got
  pub record Places (op : Operation J O) (p : Place J O) : Type 0 where
    pub till : p.till ≡ op.till
    pub first : p.first ≡ op.first
    pub after_first : op.first ≤ p.at
    pub before_last : p.at ≤ op.last
    pub deed : p.deed ≡ op.deed
    pub answer : p.answer ≡ op.answer

  -- the owner's operation under way may stand already
  pub record UnderWay (h : List (Entry J O)) (p : Place J O) : Type 0 where
    pub till : p.till ≡ Owner
    pub begun : owner_begun h ≡ Some (record { first = p.first; deed = p.deed })
    pub after_first : p.first ≤ p.at

  -- an order of the operations of a history
  pub record Orders (size : ℕ) (h : List (Entry J O)) (order : List (Place J O)) : Type 0 where
    pub board : Plain J O
    pub answers : Along size order board
    pub rises : Rises order
    pub so_far : (p : Place J O) → In p order → p.at ≤ length h
    pub all : (op : Operation J O) → EndedIn op h → (p : Place J O) × (In p order) × (Places op p)
    pub only : (p : Place J O) → In p order → ((op : Operation J O) × (EndedIn op h) × (Places op p)) ⊎ UnderWay h p

-- the order of a history is fixed, and every continuation has an order that begins with it
abbrev pub OneOrderAt : {J O S : Type 0} (size : ℕ) (Runs : S → List (Entry J O) → S → Type 0) → List (Entry J O) → S → Type 0
OneOrderAt {J} {O} {S} size Runs h s =
    (order : List (Place J O)) × (Orders size h order) × ((h' : List (Entry J O)) (s' : S) → Runs s h' s' → (more : List (Place J O)) × (Orders size (h' ++ h) (more ++ order)))

-- one order of every history, kept at a hand-over
-- It is said of any board, by its states, how large each is, which are new, and which calls lead from one to another.
abbrev pub OneOrderOf : {J O S : Type 0} (size : S → ℕ) (New : S → Type 0) (Runs : S → List (Entry J O) → S → Type 0) → Type 0
OneOrderOf {J} {O} {S} size New Runs =
    (start s : S) (h : List (Entry J O)) → New start → Runs start h s → OneOrderAt (size start) Runs h s
