use Rattle.text.proofs.Fitting.{then}
use Rattle.jobs.proofs.words.print_words.Goals as goal

pub returns-clause-gains : goal.returns-clause-gains
returns-clause-gains c = then c.push_str.ensures.gains (then c.push_number.ensures.gains (then c.push.ensures.gains c.push_number-2.ensures.gains))
