use Rattle.std.proofs.Common.{length}
use Rattle.line.specs.Waiting.{waits}
use Rattle.line_tests.proofs.take_all.Given as goal

abbrev pub decreases-loop-x : goal.decreases-loop-x
decreases-loop-x g l = length (waits l.line)
