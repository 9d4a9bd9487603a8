-- Packets: what they say, and what the reader makes of bits.
use Rattle.std.specs.Prelude.{◌≡◌, ℕ, Bool, true, cond, not, ◌&&◌, List, length, take, is_some, Some, None, Ok, Err, Option, Result, ◌==◌, nat_le, nat_lt}
use Rattle.vocabulary.specs.Numbers.{case_of}
use Rattle.vocabulary.specs.Refusals.{fault_at}
use Rattle.vocabulary.specs.declared.fault.Fault.{Fault}
use Rattle.vocabulary.specs.declared.fault.Layer.TheVariants as layer
use Rattle.vocabulary.specs.declared.fault.Refusal.TheVariants as refusal
use Rattle.bits.specs.Bits.{stretch, value_at}
use Rattle.bits.specs.Pieces.{bits}
use Rattle.wire.specs.Kinds.{kind_number, kind_length, kinds}
use Rattle.wire.specs.declared.kind.Kind.{Kind}
use Rattle.wire.specs.declared.kind.Kind.TheVariants as kind
use Rattle.wire.specs.declared.packet.Packet.{Packet}
use Rattle.wire.specs.declared.packet.Packet.TheVariants as packet

-- What a packet says. One that is not known says its bits, so it is the same wherever they are.
pub data Content : Type 0 where
  version : ℕ → ℕ → Content
  status : ℕ → ℕ → Content
  request : ℕ → Content
  order : ℕ → Content
  report : ℕ → Content
  notice : Content
  other : List ℕ → Content

-- An unread packet is its bits.
abbrev pub content : Packet → Content
content (packet.Version major minor) = version major minor
content (packet.Status level mode) = status level mode
content (packet.Request state) = request state
content (packet.Order state) = order state
content (packet.Report state) = report state
content packet.TripNotice = notice
content (packet.Other octets start b) = other (bits b)

-- An unread packet tells the bit of its message at which it starts.
abbrev pub StartsAt : ℕ → Packet → Type 0
StartsAt at (packet.Other octets start b) = start ≡ at
StartsAt at p = Unit {0}

-- An unread packet hands on the octets of its message, and its bits stand in these from that bit on.
abbrev pub HandsOn : List ℕ → Packet → Type 0
HandsOn s (packet.Other octets start b) = (octets.now ≡ s) × (stretch s start (length (bits b)) ≡ bits b)
HandsOn s p = Unit {0}

-- A packet begins with its number (8 bits) and its length (13 bits), which counts all of its bits.
abbrev pub number_in : List ℕ → ℕ
number_in bs = value_at bs 0 8

abbrev pub length_in : List ℕ → ℕ
length_in bs = value_at bs 8 13

-- The known packet at the front of bits, if it is one.
abbrev pub kind_in : ℕ → List ℕ → Option Kind
kind_in trip bs = case_of (kind_number trip) kinds (number_in bs)

-- A known packet has its own length, any other its own choice.
abbrev pub may_have : Option Kind → ℕ → Bool
may_have (Some k) n = n == kind_length k
may_have None n = true

-- What a packet of n bits says: STM-1 major and minor (8 bits each), STM-5 level (3) and mode (4), STM-13,
-- STM-14 and STM-15 a state (4), a trip notice nothing, and any other packet its bits.
abbrev pub content_in : Option Kind → ℕ → List ℕ → Content
content_in (Some kind.Version) n bs = version (value_at bs 21 8) (value_at bs 29 8)
content_in (Some kind.Status) n bs = status (value_at bs 21 3) (value_at bs 24 4)
content_in (Some kind.Request) n bs = request (value_at bs 21 4)
content_in (Some kind.Order) n bs = order (value_at bs 21 4)
content_in (Some kind.Report) n bs = report (value_at bs 21 4)
content_in (Some kind.TripNotice) n bs = notice
content_in None n bs = other (take n bs)

-- The two ways in which a packet that starts at a bit is refused: its message does not hold it, or its length is wrong.
abbrev pub cut : ℕ → Fault
cut start = fault_at refusal.PacketCut start layer.Packet

abbrev pub misfit : ℕ → Fault
misfit start = fault_at refusal.PacketLength start layer.Packet

-- The packet at the front of bits, which start at a bit of their message. The checks in their order: 21 bits are
-- there, the length is at least 21, that many bits are there, and a known packet has its own length.
abbrev pub read_packet : ℕ → ℕ → List ℕ → Result Content Fault
read_packet trip start bs =
    cond (nat_lt (length bs) 21) (Err (cut start)) (
    cond (nat_lt (length_in bs) 21) (Err (misfit start)) (
    cond (nat_lt (length bs) (length_in bs)) (Err (cut start)) (
    cond (may_have (kind_in trip bs) (length_in bs)) (Ok (content_in (kind_in trip bs) (length_in bs) bs)) (Err (misfit start)))))

-- Bits that the reader hands on unread: at least 21, as many as their length field says, under a number that no
-- known packet has.
abbrev pub handed_on : ℕ → List ℕ → Bool
handed_on trip bs = nat_le 21 (length bs) && (length_in bs == length bs && not (is_some (kind_in trip bs)))

-- What a call answered, by what the packet says.
abbrev pub told : Result Packet Fault → Result Content Fault
told (Ok p) = Ok (content p)
told (Err e) = Err e
