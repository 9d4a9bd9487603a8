use Rattle.std.proofs.Common.{◌≡◌, ◌<◌, length}
use Rattle.line.specs.Waiting.{room}
use Rattle.player.proofs.main.Given as goal

abbrev pub invariant-loop : goal.invariant-loop
invariant-loop l = (length l.chunk ≡ 8192) × (0 < room l.player.ahead)
