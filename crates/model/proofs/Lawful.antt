-- The law of every run, from its parts. Assumes nothing.
use Rattle.model.specs.Law.{Law, HoldsAlways}
use Rattle.model.proofs.Bounded.{changed_is_bounded}
use Rattle.model.proofs.Runs.{one_order, jobs_add_up, numbers_in_range}
use Rattle.model.proofs.Stays.{never_misread}

pub law : (J O : Type 0) → Law J O
law J O = search (one_order, jobs_add_up, changed_is_bounded, never_misread, numbers_in_range)

-- the law, told of one history
pub holds_always : (J O : Type 0) → HoldsAlways J O
holds_always J O start s h new runs = search (one_order, jobs_add_up, changed_is_bounded, never_misread, numbers_in_range J O start s h new runs)
