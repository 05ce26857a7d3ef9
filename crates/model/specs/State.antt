-- A board's whole state, and what one call does to it. Assumes nothing.
use Rattle.std.specs.Prelude.{◌≡◌, ℕ, Bool, List}
use Rattle.memory.specs.Meaning as memory
use Rattle.model.specs.declared.cell.Cell.{Cell}
use Rattle.model.specs.declared.helper.Helper.{Helper}
use Rattle.model.specs.declared.owner.Owner.{Owner}
use Rattle.model.specs.declared.owner.Phase.{Phase}
use Rattle.model.specs.declared.reply.Access.{Access}
use Rattle.model.specs.declared.reply.Answer.{Answer}
use Rattle.model.specs.declared.reply.Answer.TheVariants.{Refused}
use Rattle.model.specs.declared.reply.Refusal.{Refusal}
use Rattle.model.specs.declared.reply.Reply.{Reply}

pub record State (J O : Type 0) : Type 0 where
  pub memory : memory.Meaning
  pub owner : Owner J O
  pub helpers : List Helper
  pub cells : List (Cell J O)

-- what a call does: its access to the shared words, what it answers, and what the tills keep after it
pub record Effect (J O : Type 0) : Type 0 where
  pub touches : memory.Access
  pub access : Access
  pub answer : Answer J O
  pub owner : Owner J O
  pub helpers : List Helper
  pub cells : List (Cell J O)

module _ {J O : Type 0} where
  -- a refused call touches nothing and changes nothing
  abbrev pub refused : State J O → Access → Refusal → Effect J O
  refused s access refusal = record {
    touches = memory.reads;
    access = access;
    answer = Refused refusal;
    owner = s.owner;
    helpers = s.helpers;
    cells = s.cells;
  }

  -- a call of the owner that changes no cell
  abbrev pub owns : State J O → memory.Access → Access → Answer J O → Owner J O → Effect J O
  owns s touches access answer owner = record {
    touches = touches;
    access = access;
    answer = answer;
    owner = owner;
    helpers = s.helpers;
    cells = s.cells;
  }

  -- the owner with one of its numbers changed
  abbrev pub with_head : Owner J O → ℕ → Owner J O
  with_head o h = record { size = o.size; head = h; own_split = o.own_split; own_flag = o.own_flag; told = o.told; phase = o.phase }

  abbrev pub with_split : Owner J O → ℕ → Owner J O
  with_split o n = record { size = o.size; head = o.head; own_split = n; own_flag = o.own_flag; told = o.told; phase = o.phase }

  abbrev pub with_flag : Owner J O → Bool → Owner J O
  with_flag o b = record { size = o.size; head = o.head; own_split = o.own_split; own_flag = b; told = o.told; phase = o.phase }

  abbrev pub with_told : Owner J O → ℕ → Owner J O
  with_told o n = record { size = o.size; head = o.head; own_split = o.own_split; own_flag = o.own_flag; told = n; phase = o.phase }

  abbrev pub with_phase : Owner J O → Phase J O → Owner J O
  with_phase o p = record { size = o.size; head = o.head; own_split = o.own_split; own_flag = o.own_flag; told = o.told; phase = p }

  -- the reply, where n of the owner's writes landed
  abbrev pub reply_of : Effect J O → ℕ → Reply J O
  reply_of e n = record { access = e.access; landed = n; answer = e.answer }

  -- the state after it
  abbrev pub state_after : State J O → Effect J O → ℕ → State J O
  state_after s e n = record {
    memory = memory.after e.touches n s.memory;
    owner = e.owner;
    helpers = e.helpers;
    cells = e.cells;
  }

  -- the effect leads from s to s' with the reply r: it lands what it may, and the rest is defined
  pub record Does (e : Effect J O) (s : State J O) (r : Reply J O) (s' : State J O) : Type 0 where
    pub lands : memory.MayLand e.touches r.landed s.memory
    pub replies : r ≡ reply_of e r.landed
    pub moves : s' ≡ state_after s e r.landed
