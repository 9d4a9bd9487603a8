-- What a walk over packets stands before.
use Rattle.std.specs.Prelude.{◌≡◌, ℕ, ◌+◌, ◌≤◌, List, length, drop}
use Rattle.bits.specs.Pieces.{bits}
use Rattle.wire.specs.Packets.{number_in, length_in}
use Rattle.wire.specs.declared.message.Packets.{Packets}

-- The bits that are left.
abbrev pub left : Packets → List ℕ
left w = bits w.left

-- The first 21 bits of a packet say its number and its length.
pub record Headed (bs : List ℕ) (number size : ℕ) : Type 0 where
  pub enough : 21 ≤ length bs
  pub number_is : number ≡ number_in bs
  pub size_is : size ≡ length_in bs

-- w' stands behind the packet at the front of what is left of w.
pub record Past (w w' : Packets) : Type 0 where
  pub trip : w'.trip ≡ w.trip
  pub at : w'.at ≡ w.at + length_in (left w)
  pub rest : left w' ≡ drop (length_in (left w)) (left w)
