use Rattle.deque.proofs.Positions.{take_set}
use Rattle.board.proofs.board.Board.set_aim.Goals as goal

pub returns-clause-table : goal.returns-clause-table
returns-clause-table g c = take_set c.args.self.now.helpers c.args.self.now.table _ (record { aim = c.args.aim })
