use Rattle.std.proofs.Common.{◌-◌, ◌/◌, ◌^◌}
use Rattle.bits.specs.Bits.{field}
use Rattle.writer.specs.Writers.{Adds}
use Rattle.writer.proofs.writer.Writer.value.Given as goal

abbrev pub invariant-loop-k : goal.invariant-loop-k
invariant-loop-k l = Adds l.initial.self (field (l.n - l.k) (l.v / 2 ^ l.k)) l.self
