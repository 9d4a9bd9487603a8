-- What a packet is written as.
use Rattle.std.specs.Prelude.{◌≡◌, ℕ, ◌^◌, Bool, ◌&&◌, List, ◌++◌, nat_lt}
use Rattle.bits.specs.Bits.{field}
use Rattle.bits.specs.Pieces.{bits}
use Rattle.wire.specs.Packets.{content, handed_on}
use Rattle.wire.specs.declared.packet.Packet.{Packet}
use Rattle.writer.specs.Encoding.{packed, encode, writable}
use Rattle.writer.specs.declared.parts.Parts.{Parts}
use Rattle.writer.specs.declared.parts.Parts.TheVariants as parts

-- Their bits: a known packet has its number and its length before its two fields.
abbrev pub coded : ℕ → Parts → List ℕ
coded trip (parts.Known k a b) = packed trip k (field a.width a.value ++ field b.width b.value)
coded trip (parts.Unread b) = bits b

-- Whether they can be written.
abbrev pub sound : ℕ → Parts → Bool
sound trip (parts.Known k a b) = nat_lt a.value (2 ^ a.width) && nat_lt b.value (2 ^ b.width)
sound trip (parts.Unread b) = handed_on trip (bits b)

-- They are those of a packet.
pub record Codes (p : Packet) (q : Parts) : Type 0 where
  pub bits_are : (trip : ℕ) → coded trip q ≡ encode trip (content p)
  pub may : (trip : ℕ) → sound trip q ≡ writable trip (content p)
