use Rattle.std.proofs.Common.{arith, length-append}
use Rattle.text.proofs.Fitting.{then, whole}
use Rattle.listing.proofs.lines.call_text.Goals as goal

pub returns : goal.returns
returns g c =
    let number = c.push_number.ensures in
    let party = rw c.party.ensures.party at c.print.ensures in
    let name = c.print_name.ensures in
    let argument = c.print_argument.ensures in
    let gains = then number.gains (then c.push.ensures.gains (then party.gains (then c.push-2.ensures.gains (then name.gains argument.gains)))) in
    record { text = whole c.new-out.ensures.empty gains (simp length-append (omega arith)) }
