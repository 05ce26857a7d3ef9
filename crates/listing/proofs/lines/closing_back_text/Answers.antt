use Rattle.std.proofs.Common.{arith, length-append}
use Rattle.text.proofs.Fitting.{then, whole}
use Rattle.listing.proofs.lines.closing_back_text.Goals as goal

pub returns-clause-text : goal.returns-clause-text
returns-clause-text c =
    let gains =
    then c.push_str.ensures.gains (then c.push_number.ensures.gains (then c.push_str-2.ensures.gains (then c.push_number-2.ensures.gains (then c.push_str-3.ensures.gains (then c.push_number-3.ensures.gains (then c.push_str-4.ensures.gains c.push_number-4.ensures.gains)))))) in
    whole c.new-out.ensures.empty gains (simp length-append (omega arith))
