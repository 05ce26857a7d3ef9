use Rattle.std.proofs.Common.{arith}
use Rattle.text.proofs.Fitting.{then, nothing_gained}
use Rattle.listing.proofs.Argument.{no_argument}
use Rattle.listing.proofs.lines.print_argument.Goals as goal

pub returns-in-Push-clause-gains : goal.returns-in-Push-clause-gains
returns-in-Push-clause-gains g c = rw c.in-Push.is (then c.push.ensures.gains c.print.ensures.prints.gains)

pub returns-in-Finish-clause-gains : goal.returns-in-Finish-clause-gains
returns-in-Finish-clause-gains g c = rw c.in-Finish.is (then c.push-in-Finish.ensures.gains c.print_outcome.ensures.prints.gains)

pub returns-in_default : goal.returns-in_default
returns-in_default g c =
    let none = no_argument g.J.Job.form g.J.Job.outcome c.args.call.now c.in_default.not-Push c.in_default.not-Finish in
    rw none (record { gains = nothing_gained c.args.out.now; short = omega arith })
