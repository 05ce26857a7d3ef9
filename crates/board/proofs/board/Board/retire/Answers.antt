use Rattle.std.proofs.Common.{arith}
use Rattle.std.proofs.lemmas.Grind.{common_steps}
use Rattle.calls.specs.declared.call.Call.TheVariants.{Retire}
use Rattle.board.proofs.Kept.{stays_sound}
use Rattle.board.proofs.board.Board.retire.Goals as goal

pub invariant_of-self-clause-sound : goal.invariant_of-self-clause-sound
invariant_of-self-clause-sound g c = stays_sound g.M.Memory.meaning g.M.Memory.picks c.args.self.now c.args.cells.now Retire c.retire.result c.retire.new.self c.args.cells.now (grind (arith, common_steps))
