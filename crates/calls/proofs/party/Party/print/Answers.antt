use Rattle.text.proofs.Fitting.{then}
use Rattle.calls.proofs.party.Party.print.Goals as goal

pub returns-in-Helper-clause-gains : goal.returns-in-Helper-clause-gains
returns-in-Helper-clause-gains c = rw c.in-Helper.is (then c.push-in-Helper.ensures.gains c.push_number.ensures.gains)
