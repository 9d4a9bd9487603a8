-- Octets as bits, and the numbers that bits write. A bit is 0 or 1, and the most significant comes first.
use Rattle.std.specs.Prelude.{ℕ, zero, suc, ◌+◌, ◌*◌, ◌/◌, ◌%◌, cond, ◌&&◌, List, [], ◌∷◌, ◌++◌, length, take, drop, Some, None, Option, nat_le}
use Rattle.std.specs.Int.Digits.{number_from_digits}

-- The n lowest bits of a number.
abbrev pub field : ℕ → ℕ → List ℕ
field zero v = []
field (suc n) v = field n (v / 2) ++ (v % 2 ∷ [])

-- The bits of octets, 8 of each.
abbrev pub bits_of : List ℕ → List ℕ
bits_of [] = []
bits_of (o ∷ os) = field 8 o ++ bits_of os

-- The number that n bits write, from the place i on.
abbrev pub value_at : List ℕ → ℕ → ℕ → ℕ
value_at bs i n = number_from_digits 2 (take n (drop i bs))

-- The same, if those bits are there, and no more than 16.
abbrev pub number_at : List ℕ → ℕ → ℕ → Option ℕ
number_at bs i n = cond (nat_le (i + n) (length bs) && nat_le n 16) (Some (value_at bs i n)) None

-- The n bits of octets from the place i on, if all of them lie in the octets; else none.
abbrev pub stretch : List ℕ → ℕ → ℕ → List ℕ
stretch octets i n = cond (nat_le (i + n) (8 * length octets)) (take n (drop i (bits_of octets))) []

-- The octets from the one on that the bit i stands in, if the n bits from i on lie in the octets.
abbrev pub window_at : List ℕ → ℕ → ℕ → Option (List ℕ)
window_at octets i n = cond (nat_le (i + n) (8 * length octets)) (Some (drop (i / 8) octets)) None
