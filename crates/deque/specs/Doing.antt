-- What a part of a call comes to, by the effect that the call has. Assumes nothing.
use Rattle.std.specs.Prelude.{ℕ, ◌-◌, List, Ok, Err, Result}
use Rattle.memory.specs.Meaning as memory
use Rattle.model.specs.Helping.{step_aimed}
use Rattle.model.specs.Places.{changed}
use Rattle.model.specs.State.{State, Effect, Does}
use Rattle.model.specs.declared.cell.Cell.{Cell}
use Rattle.model.specs.declared.helper.Helper.{Helper}
use Rattle.model.specs.declared.helper.Aim.{Aim}
use Rattle.model.specs.declared.reply.Access.{Access}
use Rattle.model.specs.declared.reply.Access.TheVariants as access
use Rattle.model.specs.declared.reply.Answer.{Answer}
use Rattle.model.specs.declared.reply.Answer.TheVariants.{Refused}
use Rattle.model.specs.declared.reply.Refusal.{Refusal}
use Rattle.model.specs.declared.reply.Reply.{Reply}
use Rattle.deque.specs.declared.deque.Attempt.{Attempt}
use Rattle.deque.specs.declared.deque.Deque.{Deque}

module _ {J O : Type 0} where
  -- the state of a board with this deque
  abbrev pub board_of : {M : Type 0} → (M → memory.Meaning) → Deque M J O → List Helper → List (Cell J O) → State J O
  board_of meaning d helpers cells = record { memory = meaning d.memory; owner = d.owner; helpers = helpers; cells = cells }

  -- the effect leads from s to s' with the reply r, and lands as many writes as this memory picks
  pub record Acts (picks : memory.Access → ℕ → memory.Meaning → Type 0) (e : Effect J O) (s : State J O) (r : Reply J O) (s' : State J O) : Type 0 where
    pub does : Does e s r s'
    pub picked : memory.Picked picks e.touches r.landed s.memory

  -- the same for an effect on a deque alone, whatever the helpers and the cells are
  abbrev pub OwnerDoes : {M : Type 0} → (M → memory.Meaning) → (memory.Access → ℕ → memory.Meaning → Type 0) → (State J O → Effect J O) → Deque M J O → Reply J O → Deque M J O → Type 0
  OwnerDoes meaning picks effect d r d' =
      (helpers : List Helper) (cells : List (Cell J O)) → Acts picks (effect (board_of meaning d helpers cells)) (board_of meaning d helpers cells) r (board_of meaning d' helpers cells)

  -- the same for an effect on a deque and the cells, whatever the helpers are
  abbrev pub Begins : {M : Type 0} → (M → memory.Meaning) → (memory.Access → ℕ → memory.Meaning → Type 0) → (State J O → Effect J O) → Deque M J O → List (Cell J O) → Reply J O → Deque M J O → List (Cell J O) → Type 0
  Begins meaning picks effect d cells r d' cells' =
      (helpers : List Helper) → Acts picks (effect (board_of meaning d helpers cells)) (board_of meaning d helpers cells) r (board_of meaning d' helpers cells')

  abbrev pub refusal_reply : Access → Refusal → Reply J O
  refusal_reply access refusal = record { access = access; landed = 0; answer = Refused refusal }

  -- a reply, or the one that says why the call is refused
  abbrev pub reply_or : Access → Result (Reply J O) Refusal → Reply J O
  reply_or access (Ok reply) = reply
  reply_or access (Err refusal) = refusal_reply access refusal

  -- the reply to a call that makes no access: what it answers, or why it is refused
  abbrev pub begun_reply : Access → Result (Answer J O) Refusal → Reply J O
  begun_reply access (Ok answer) = record { access = access; landed = 0; answer = answer }
  begun_reply access (Err refusal) = refusal_reply access refusal

  -- the same for a helper's step that finds its attempt at this aim: it leaves the attempt at another, or is refused
  abbrev pub Attempts : {M : Type 0} → (M → memory.Meaning) → (memory.Access → ℕ → memory.Meaning → Type 0) → ℕ → Aim → Deque M J O → List (Cell J O) → Result (Attempt J O) Refusal → Deque M J O → List (Cell J O) → List Helper → Type 0
  Attempts meaning picks helper aim d cells (Ok attempt) d' cells' helpers =
      Acts picks (step_aimed (board_of meaning d helpers cells) helper aim) (board_of meaning d helpers cells) attempt.reply (board_of meaning d' (changed helpers (helper - 1) (λ _. record { aim = attempt.aim })) cells')
  Attempts meaning picks helper aim d cells (Err refusal) d' cells' helpers =
      Acts picks (step_aimed (board_of meaning d helpers cells) helper aim) (board_of meaning d helpers cells) (refusal_reply access.Step refusal) (board_of meaning d' helpers cells')
