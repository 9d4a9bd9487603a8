-- What bits that lie in octets are.
use Rattle.std.specs.Prelude.{◌≡◌, ℕ, ◌≤◌, List, length, take, drop}
use Rattle.bits.specs.Bits.{bits_of}
use Rattle.bits.specs.declared.bits.Bits.{Bits}
use Rattle.bits.specs.declared.bits.iter.Iter.{Iter}

-- The bits that are meant.
abbrev pub bits : Bits → List ℕ
bits b = take b.len (drop b.offset (bits_of b.octets.now))

-- The first n of them, and those behind.
pub record Parts (b : Bits) (n : ℕ) (f r : Bits) : Type 0 where
  pub enough : n ≤ length (bits b)
  pub front : bits f ≡ take n (bits b)
  pub back : bits r ≡ drop n (bits b)

-- Those that a walk has before it.
abbrev pub ahead : Iter → List ℕ
ahead i = bits i.bits
