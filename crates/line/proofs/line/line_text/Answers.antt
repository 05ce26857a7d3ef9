use Rattle.std.proofs.Common.{arith, length-append}
use Rattle.text.proofs.Fitting.{then, whole}
use Rattle.line.proofs.line.line_text.Goals as goal

pub returns-clause-text : goal.returns-clause-text
returns-clause-text g c =
    let gains = then c.push_number.ensures.gains (then c.push.ensures.gains (then c.print.ensures.gains (then c.push-2.ensures.gains (then c.print-2.ensures.gains (then c.push-3.ensures.gains (then c.push_number-2.ensures.gains (then c.push-4.ensures.gains (then c.print_word.ensures.gains c.print_detail.ensures.gains)))))))) in
    whole c.new-out.ensures.empty gains (simp length-append (omega arith))
