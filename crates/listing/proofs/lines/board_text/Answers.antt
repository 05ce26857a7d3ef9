use Rattle.std.proofs.Common.{arith, length-append}
use Rattle.text.proofs.Fitting.{then, whole}
use Rattle.listing.proofs.lines.board_text.Goals as goal

pub returns-clause-text : goal.returns-clause-text
returns-clause-text c =
    let memory = rw c.word.ensures.word at c.push_str-4.ensures in
    let jobs = rw c.word-2.ensures.word at c.push_str-6.ensures in
    let gains =
    then c.push_str.ensures.gains (then c.push_number.ensures.gains (then c.push_str-2.ensures.gains (then c.push_number-2.ensures.gains (then c.push_str-3.ensures.gains (then memory.gains (then c.push_str-5.ensures.gains jobs.gains)))))) in
    whole c.new-out.ensures.empty gains (simp length-append (omega arith))
