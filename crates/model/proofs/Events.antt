-- What a call does to the plain board, and how far the owner's operation has come: all that an order is made of.
-- Assumes nothing.
use Rattle.std.proofs.Common.{◌≡◌, ℕ, Bool, cond, ◌⊎◌, Some}
use Rattle.calls.specs.declared.call.Call.{Call}
use Rattle.calls.specs.declared.call.Call.TheVariants.{Push, Pop, Retire, OwnerStep, HelperStep, Finish, Land}
use Rattle.model.specs.Orders.{Progress, going, ended, barred, progress, is_operation}
use Rattle.model.specs.Owning.{ending_answer}
use Rattle.model.specs.Plain.{Plain, Deed, pushes, pops, retires, takes, finishes, does}
use Rattle.model.specs.declared.owner.Phase.{Phase}
use Rattle.model.specs.declared.owner.Phase.TheVariants.{Idle, Opening, Sharing, Shrinking, Closing, Retiring}
use Rattle.model.specs.declared.reply.Answer.{Answer}
use Rattle.model.specs.declared.reply.Answer.TheVariants.{Going, Pushed, Work, Stolen, Retired, Taken, AllGone, NoShare, Changed, Finished, Refused}

-- how far the owner's operation has come: none, begun but in no order yet, or placed with this answer
pub data Stage (J O : Type 0) : Type 0 where
  resting : Stage J O
  unplaced : Stage J O
  placed : Answer J O → Stage J O

-- what a call does to the plain board
pub data Event (J O : Type 0) : Type 0 where
  nothing : Event J O
  places : Deed J O → Answer J O → Event J O

module _ {J O : Type 0} where
  abbrev pub stage : Phase J O → Stage J O
  stage Idle = resting
  stage (Opening at) = placed Pushed
  stage (Sharing at end) = placed (ending_answer end)
  stage (Shrinking at job) = unplaced
  stage Closing = unplaced
  stage (Retiring outcome) = placed (Retired outcome)

  -- a refused call is placed where it is an operation
  abbrev pub Barred : Deed J O → Answer J O → Bool → Event J O → Type 0
  Barred deed answer operation ev = ev ≡ cond operation (places deed answer) nothing

  abbrev pub PushAllowed : J → Answer J O → Progress → Stage J O → Stage J O → Event J O → Type 0
  PushAllowed job a going st st' ev = (st ≡ resting) × (st' ≡ placed Pushed) × (ev ≡ places (pushes job) Pushed)
  PushAllowed job a ended st st' ev = ⊥
  PushAllowed job a (barred r) st st' ev = (st' ≡ st) × Barred (pushes job) a (is_operation r) ev

  abbrev pub PopAllowed : Answer J O → Progress → Stage J O → Stage J O → Event J O → Type 0
  PopAllowed a going st st' ev = (st ≡ resting) × (((st' ≡ unplaced) × (ev ≡ nothing)) ⊎ ((job : J) × (st' ≡ placed (Work job)) × (ev ≡ places pops (Work job))))
  PopAllowed a ended st st' ev = (st ≡ resting) × (st' ≡ resting) × (ev ≡ places pops a)
  PopAllowed a (barred r) st st' ev = (st' ≡ st) × Barred pops a (is_operation r) ev

  abbrev pub RetireAllowed : Answer J O → Progress → Stage J O → Stage J O → Event J O → Type 0
  RetireAllowed a going st st' ev = (outcome : O) × (st ≡ resting) × (st' ≡ placed (Retired outcome)) × (ev ≡ places retires (Retired outcome))
  RetireAllowed a ended st st' ev = (st ≡ resting) × (st' ≡ resting) × (ev ≡ places retires a)
  RetireAllowed a (barred r) st st' ev = (st' ≡ st) × Barred retires a (is_operation r) ev

  abbrev pub StepAllowed : Answer J O → Progress → Stage J O → Stage J O → Event J O → Type 0
  StepAllowed a going st st' ev =
      ((st ≡ resting → ⊥) × (st' ≡ st) × (ev ≡ nothing)) ⊎ ((job : J) × (st ≡ unplaced) × (st' ≡ placed (Work job)) × (ev ≡ places pops (Work job)))
  StepAllowed a ended st st' ev = ((st ≡ placed a) × (st' ≡ resting) × (ev ≡ nothing)) ⊎ ((st ≡ unplaced) × (st' ≡ resting) × (ev ≡ places pops a))
  StepAllowed a (barred r) st st' ev = (st' ≡ st) × (ev ≡ nothing)

  abbrev pub AttemptAllowed : ℕ → Answer J O → Event J O → Type 0
  AttemptAllowed helper Going ev = ev ≡ nothing
  AttemptAllowed helper Pushed ev = ⊥
  AttemptAllowed helper (Work job) ev = ⊥
  AttemptAllowed helper Stolen ev = ⊥
  AttemptAllowed helper (Retired outcome) ev = ⊥
  AttemptAllowed helper (Taken job) ev = ev ≡ places (takes helper) (Taken job)
  AttemptAllowed helper AllGone ev = ev ≡ nothing
  AttemptAllowed helper NoShare ev = ev ≡ nothing
  AttemptAllowed helper Changed ev = ev ≡ nothing
  AttemptAllowed helper Finished ev = ⊥
  AttemptAllowed helper (Refused r) ev = Barred (takes helper) (Refused r) (is_operation r) ev

  abbrev pub FinishAllowed : ℕ → O → Answer J O → Progress → Event J O → Type 0
  FinishAllowed helper outcome a going ev = ⊥
  FinishAllowed helper outcome a ended ev = ev ≡ places (finishes helper outcome) a
  FinishAllowed helper outcome a (barred r) ev = Barred (finishes helper outcome) a (is_operation r) ev

  -- a call with this answer may move the owner's operation so, and do this to the plain board
  abbrev pub Allowed : Call J O → Answer J O → Stage J O → Stage J O → Event J O → Type 0
  Allowed (Push job) a st st' ev = PushAllowed job a (progress a) st st' ev
  Allowed Pop a st st' ev = PopAllowed a (progress a) st st' ev
  Allowed Retire a st st' ev = RetireAllowed a (progress a) st st' ev
  Allowed OwnerStep a st st' ev = StepAllowed a (progress a) st st' ev
  Allowed (HelperStep helper) a st st' ev = (st' ≡ st) × AttemptAllowed helper a ev
  Allowed (Finish helper outcome) a st st' ev = (st' ≡ st) × FinishAllowed helper outcome a (progress a) ev
  Allowed Land a st st' ev = (st' ≡ st) × (ev ≡ nothing)

  -- the event leads the plain board from b to b'
  abbrev pub Happens : Plain J O → Event J O → Plain J O → Type 0
  Happens b nothing b' = b' ≡ b
  Happens b (places deed answer) b' = does b deed ≡ Some (record { answer = answer; board = b' })
