-- The law that holds of every run of a board, for every kind of job, every size and number of helpers, every content of the cells at
-- the making, every list of calls and every number of writes that a memory may land. A history is the calls since the making
-- (Histories); its operations are read off it, and an order gives each the answer of the plain board (Orders, Plain).
-- Assumes nothing.
use Rattle.std.specs.Prelude.{List}
use Rattle.model.specs.Calls.{Entry}
use Rattle.model.specs.Histories.{New, Runs, JobsAddUp, ChangedIsBounded, NeverMisread, NumbersInRange, JobsAdded, ChangedBounded, NoneMisread}
use Rattle.model.specs.Keeping.{InRange}
use Rattle.model.specs.Orders.{OneOrderOf, OneOrderAt}
use Rattle.model.specs.State.{State}

pub record Law (J O : Type 0) : Type 0 where
  -- one order of all operations, fixed at a hand-over and kept by all that follows
  pub one_order : OneOrderOf {J = J} {O = O} {S = State J O} (λ s. s.owner.size) New Runs
  -- nothing is lost
  pub jobs_add_up : JobsAddUp J O
  -- retries are bounded
  pub changed_is_bounded : ChangedIsBounded J O
  -- no number that is read fails to fit
  pub never_misread : NeverMisread J O
  -- the owner's numbers stay in range
  pub numbers_in_range : NumbersInRange J O

-- what holds of a history that led from a board just made to s
pub record Holds {J O : Type 0} (start : State J O) (h : List (Entry J O)) (s : State J O) : Type 0 where
  -- one order of all operations, fixed at a hand-over and kept by all that follows
  pub one_order : OneOrderAt start.owner.size Runs h s
  -- nothing is lost
  pub jobs_add_up : JobsAdded h s
  -- retries are bounded
  pub changed_is_bounded : ChangedBounded start h
  -- no number that is read fails to fit
  pub never_misread : NoneMisread h
  -- the owner's numbers stay in range
  pub numbers_in_range : InRange s.owner

-- the same law, told of one history at a time
abbrev pub HoldsAlways : (J O : Type 0) → Type 0
HoldsAlways J O = (start s : State J O) (h : List (Entry J O)) → New start → Runs start h s → Holds start h s
