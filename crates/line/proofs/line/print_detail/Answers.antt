use Rattle.std.proofs.Common.{inl, inr, arith}
use Rattle.text.proofs.Fitting.{nothing_gained, then}
use Rattle.line.proofs.Detail.{no_detail}
use Rattle.line.proofs.line.print_detail.Goals as goal

pub returns-in-Work-clause-gains : goal.returns-in-Work-clause-gains
returns-in-Work-clause-gains g c =
    let gains = then c.push-in-Work.ensures.gains c.print.ensures.prints.gains in
    elim c.in-Work.is [ inl is ↦ rw is gains | inr is ↦ rw is gains ]

pub returns-in-Retired-clause-gains : goal.returns-in-Retired-clause-gains
returns-in-Retired-clause-gains g c = rw c.in-Retired.is (then c.push.ensures.gains c.print_outcome.ensures.prints.gains)

pub returns-in-Refused-clause-gains : goal.returns-in-Refused-clause-gains
returns-in-Refused-clause-gains g c =
    let number = rw c.number.ensures.number at c.push_number.ensures in
    rw c.in-Refused.is (then c.push-in-Refused.ensures.gains number.gains)

pub returns-in_default : goal.returns-in_default
returns-in_default g c =
    let not = c.in_default in
    let none = no_detail g.J.Job.form g.J.Job.outcome c.args.answer.now not.not-Work not.not-Taken not.not-Retired not.not-Refused in
    rw none (record { gains = nothing_gained c.args.out.now; short = omega arith })
