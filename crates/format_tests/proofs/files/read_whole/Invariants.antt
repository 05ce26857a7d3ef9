use Rattle.std.proofs.Common.{◌-◌}
use Rattle.format_tests.proofs.files.read_whole.Given as goal

abbrev pub decreases-loop : goal.decreases-loop
decreases-loop g l = 61440 - l.file.reader.position
