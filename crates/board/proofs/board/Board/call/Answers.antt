use Rattle.board.proofs.Lawful.{keeps_the_law}
use Rattle.board.proofs.board.Board.call.Goals as goal

pub returns-clause-law : goal.returns-clause-law
returns-clause-law g c = keeps_the_law g.M.Memory.meaning g.M.Memory.picks c.args.self.now c.answer.new.self c.args.call c.args.cells.now c.answer.new.cells c.answer.result c.answer.ensures.answers
