-- A helper's calls: each step of an attempt makes one access, and a finish hands the outcome in. Assumes nothing.
use Rattle.std.specs.Prelude.{ℕ, ◌-◌, cond, Some, None, Option, nat_lt}
use Rattle.memory.specs.Meaning as memory
use Rattle.memory.specs.declared.words.Words.{Words}
use Rattle.model.specs.Places.{at, at_number, changed}
use Rattle.model.specs.State.{State, Effect, refused}
use Rattle.model.specs.declared.cell.Cell.{Cell}
use Rattle.model.specs.declared.helper.Aim.{Aim}
use Rattle.model.specs.declared.helper.Aim.TheVariants.{ReadFlag, ReadPair, Swap, ReadRequest, WriteRequest, Hold}
use Rattle.model.specs.declared.helper.Helper.{Helper}
use Rattle.model.specs.declared.reply.Access.{Access}
use Rattle.model.specs.declared.reply.Access.TheVariants as access
use Rattle.model.specs.declared.reply.Answer.{Answer}
use Rattle.model.specs.declared.reply.Answer.TheVariants.{Going, Taken, AllGone, NoShare, Changed, Finished}
use Rattle.model.specs.declared.reply.Refusal.TheVariants.{UnknownHelper, Holding, HoldsNone, Misread}

module _ {J O : Type 0} where
  abbrev pub marked : ℕ → Cell J O → Cell J O
  marked helper cell = record { job = cell.job; taker = Some helper; outcome = cell.outcome }

  abbrev pub with_outcome : O → Cell J O → Cell J O
  with_outcome outcome cell = record { job = cell.job; taker = cell.taker; outcome = Some outcome }

-- helpers are numbered from 1
module _ {J O : Type 0} (s : State J O) (helper : ℕ) where
  abbrev words : Words
  words = s.memory.words

  -- the helper goes on, and the cells stay
  abbrev aims : memory.Access → Access → Answer J O → Aim → Effect J O
  aims touches name answer aim = record {
    touches = touches;
    access = name;
    answer = answer;
    owner = s.owner;
    helpers = changed s.helpers (helper - 1) (λ _. record { aim = aim });
    cells = s.cells;
  }

  -- a swap at the cell that it would take
  abbrev pub swap_at : ℕ → ℕ → Option (Cell J O) → Effect J O
  swap_at t s' None = refused s access.Step Misread
  swap_at t s' (Some cell) =
      cond (memory.swap_passes t s' words) (record {
        touches = memory.tries t s';
        access = access.Swap;
        answer = Taken cell.job;
        owner = s.owner;
        helpers = changed s.helpers (helper - 1) (λ _. record { aim = Hold t });
        cells = changed s.cells t (marked helper);
      }) (aims (memory.tries t s') access.Swap Changed ReadFlag)

  abbrev pub step_aimed : Aim → Effect J O
  step_aimed ReadFlag =
      cond words.flag (aims memory.reads access.ReadFlag AllGone ReadFlag) (aims memory.reads access.ReadFlag Going ReadPair)
  step_aimed ReadPair =
      cond (nat_lt s.owner.size words.split) (refused s access.Step Misread)
      (cond (nat_lt words.tail words.split) (aims memory.reads access.ReadPair Going (Swap (words.tail, words.split)))
      (aims memory.reads access.ReadPair Going ReadRequest))
  step_aimed (Swap pair) = swap_at pair.0 pair.1 (at s.cells pair.0)
  step_aimed ReadRequest =
      cond words.request (aims memory.reads access.ReadRequest NoShare ReadFlag) (aims memory.reads access.ReadRequest Going WriteRequest)
  step_aimed WriteRequest = aims memory.asks access.WriteRequest NoShare ReadFlag
  step_aimed (Hold position) = refused s access.Step Holding

  abbrev pub step_of : Option Helper → Effect J O
  step_of None = refused s access.Step UnknownHelper
  step_of (Some h) = step_aimed h.aim

  abbrev pub helper_step : Effect J O
  helper_step = step_of (at_number s.helpers helper)

  abbrev pub finish_aimed : O → Aim → Effect J O
  finish_aimed outcome ReadFlag = refused s access.Finish HoldsNone
  finish_aimed outcome ReadPair = refused s access.Finish HoldsNone
  finish_aimed outcome (Swap pair) = refused s access.Finish HoldsNone
  finish_aimed outcome ReadRequest = refused s access.Finish HoldsNone
  finish_aimed outcome WriteRequest = refused s access.Finish HoldsNone
  finish_aimed outcome (Hold position) = record {
    touches = memory.reads;
    access = access.Finish;
    answer = Finished;
    owner = s.owner;
    helpers = changed s.helpers (helper - 1) (λ _. record { aim = ReadFlag });
    cells = changed s.cells position (with_outcome outcome);
  }

  abbrev pub finish_of : O → Option Helper → Effect J O
  finish_of outcome None = refused s access.Finish UnknownHelper
  finish_of outcome (Some h) = finish_aimed outcome h.aim

  abbrev pub finish : O → Effect J O
  finish outcome = finish_of outcome (at_number s.helpers helper)
