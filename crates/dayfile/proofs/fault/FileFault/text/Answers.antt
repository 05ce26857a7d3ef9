use Rattle.std.proofs.Common.{◌≤◌, length, arith, length-append}
use Rattle.dayfile.specs.Faults.{refusal_line}
use Rattle.text.proofs.Fitting.{then, whole}
use Rattle.dayfile.proofs.fault.FileFault.text.Goals as goal

pub returns : goal.returns
returns c =
    let number = rw c.number.ensures.number at c.push_number.ensures in
    let gains = then c.push_str.ensures.gains (then number.gains (then c.push_str-2.ensures.gains c.push_number-2.ensures.gains)) in
    let short : length (refusal_line c.args.self) ≤ 60 = simp length-append (omega (arith, number.short, c.push_number-2.ensures.short)) in
    record { text = whole c.new-out.ensures.empty gains (omega (arith, short)); short = short }
