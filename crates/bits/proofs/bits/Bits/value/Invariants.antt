use Rattle.std.proofs.Common.{◌≡◌}
use Rattle.std.specs.Int.Digits.{number_from_digits, number_from_digits_after}
use Rattle.bits.specs.Pieces.{ahead, bits}
use Rattle.bits.proofs.bits.Bits.value.Given as goal

abbrev pub invariant-loop-b : goal.invariant-loop-b
invariant-loop-b l = number_from_digits_after 2 l.v (ahead l.b-iterator) ≡ number_from_digits 2 (bits l.self)
