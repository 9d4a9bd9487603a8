use Rattle.std.proofs.Common.{◌≡◌, ◌+◌, length}
use Rattle.line.specs.Waiting.{room, waits}
use Rattle.player.proofs.Player.answer_waiting.Given as goal

abbrev pub invariant-loop-line : goal.invariant-loop-line
invariant-loop-line g l = room l.self.ahead + length (waits l.self.ahead) ≡ room l.initial.self.ahead + length (waits l.initial.self.ahead)

abbrev pub decreases-loop-line : goal.decreases-loop-line
decreases-loop-line g l = length (waits l.self.ahead)
