use Rattle.std.proofs.Common.{rules}
use Rattle.board.specs.Shown.{shown}
use Rattle.board.proofs.Made.{board_so, new_so}
use Rattle.board.proofs.board.Board.make.Goals as goal

pub returns-clause-board : goal.returns-clause-board
returns-clause-board g c = λ cells. board_so _ _ c.args.size c.args.helpers cells c.clear.ensures.memory c.clear.ensures.owner (search rules) (shown g.M.Memory.meaning c.args.self.now cells)

pub returns-clause-new : goal.returns-clause-new
returns-clause-new g c = λ _ cells long. new_so _ _ c.args.size c.args.helpers cells c.clear.ensures.memory c.clear.ensures.owner (search rules) long
