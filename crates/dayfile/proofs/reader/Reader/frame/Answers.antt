use Rattle.std.proofs.Common.{arith, length-drop}
use Rattle.dayfile.proofs.reader.Reader.frame.Goals as goal

pub returns-in_default-2-clause-ends : goal.returns-in_default-2-clause-ends
returns-in_default-2-clause-ends c = grind (arith, length-drop)
