use Rattle.std.proofs.Common.{◌<◌, length}
use Rattle.line.specs.Waiting.{room}
use Rattle.player.proofs.Player.play.Given as goal

abbrev pub invariant-loop-rest : goal.invariant-loop-rest
invariant-loop-rest g l = 0 < room l.self.ahead

abbrev pub decreases-loop-rest : goal.decreases-loop-rest
decreases-loop-rest g l = length l.rest
