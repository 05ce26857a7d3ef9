use Rattle.std.proofs.Common.{rules}
use Rattle.dayfile.proofs.Taking.{takes}
use Rattle.dayfile.proofs.day_file.DayFile.next.Goals as goal

pub returns-clause-takes : goal.returns-clause-takes
returns-clause-takes g c = takes g.J.Job.form g.J.Job.outcome c.args.self.now.reader c.next.new.self c.args.self.now.started c.args.self.now.within c.next.result (search rules) c.next.ensures.moves
