use Rattle.std.proofs.Common.{sym}
use Rattle.model.specs.Helping.{with_outcome}
use Rattle.deque.proofs.Positions.{set_by, changed_past}
use Rattle.deque.proofs.cells.finish.Goals as goal

pub returns-then-at-cells : goal.returns-then-at-cells
returns-then-at-cells g c = record { finished = set_by (with_outcome c.args.outcome) c.args.cells.now c.args.position _ }

pub returns-else-at-cells : goal.returns-else-at-cells
returns-else-at-cells g c = record { finished = sym (changed_past (with_outcome c.args.outcome) c.args.cells.now c.args.position c.if-at-cells.false) }
