use Rattle.std.proofs.Common.{set, sym, ap, ◌∙◌}
use Rattle.deque.proofs.Positions.{set_by, changed_past}
use Rattle.model.specs.Places.{new_cell}
use Rattle.deque.proofs.cells.push.Goals as goal

pub returns-then-at-cells : goal.returns-then-at-cells
returns-then-at-cells g c = record { pushed = ap (set c.args.cells.now c.args.head) c.new.ensures.new ∙ set_by (λ _. new_cell c.args.job) c.args.cells.now c.args.head (new_cell c.args.job) }

pub returns-else-at-cells : goal.returns-else-at-cells
returns-else-at-cells g c = record { pushed = sym (changed_past (λ _. new_cell c.args.job) c.args.cells.now c.args.head c.if-at-cells.false) }
