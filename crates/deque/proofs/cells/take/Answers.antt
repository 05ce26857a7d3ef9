use Rattle.model.specs.Helping.{marked}
use Rattle.deque.proofs.Positions.{set_by}
use Rattle.deque.proofs.cells.take.Goals as goal

pub returns-clause-marked : goal.returns-clause-marked
returns-clause-marked g c = set_by (marked c.args.helper) c.args.cells.now c.args.position _
