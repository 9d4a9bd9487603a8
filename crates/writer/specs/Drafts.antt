-- A message that is being written, and what each call makes of it.
use Rattle.std.specs.Prelude.{ℕ, zero, suc, ◌+◌, ◌-◌, ◌*◌, ◌/◌, min, Bool, true, cond, ◌&&◌, List, [], ◌∷◌, ◌++◌, length, take, drop, replicate, Ok, Err, Result, ◌==◌, nat_le, nat_lt}
use Rattle.std.specs.Int.Digits.{number_from_digits}
use Rattle.vocabulary.specs.Refusals.{fault_at}
use Rattle.vocabulary.specs.declared.fault.Fault.{Fault}
use Rattle.vocabulary.specs.declared.fault.Layer.TheVariants as layer
use Rattle.vocabulary.specs.declared.fault.Refusal.TheVariants as refusal
use Rattle.wire.specs.Packets.{Content}
use Rattle.wire.specs.Messages.{wrong_length}
use Rattle.writer.specs.Encoding.{encode, writable}

-- The STM's number, the number of a trip notice, the bits of the packets so far, and every octet of the buffer.
pub record Draft : Type 0 where
  pub sender : ℕ
  pub trip : ℕ
  pub bits : List ℕ
  pub buffer : List ℕ

-- A message without a packet; the buffer is as it was.
abbrev pub started : ℕ → ℕ → List ℕ → Draft
started sender trip s = record { sender = sender; trip = trip; bits = []; buffer = s }

-- Each of these numbers is an octet.
abbrev pub are_octets : List ℕ → Bool
are_octets [] = true
are_octets (o ∷ os) = nat_lt o 256 && are_octets os

-- The numbers that the first n times 8 bits write.
abbrev pub octets_in : ℕ → List ℕ → List ℕ
octets_in zero bs = []
octets_in (suc n) bs = number_from_digits 2 (take 8 bs) ∷ octets_in n (drop 8 bs)

-- The whole octets of bits; and all of their octets, the last one filled up with zeros.
abbrev pub whole : List ℕ → List ℕ
whole bs = octets_in (length bs / 8) bs

abbrev pub padded : List ℕ → List ℕ
padded bs = octets_in ((length bs + 7) / 8) (bs ++ replicate 7 0)

-- A buffer in which octets stand behind the first two; all others are as before.
abbrev pub placed : List ℕ → List ℕ → List ℕ
placed s os = take 2 s ++ (os ++ drop (2 + length os) s)

-- More bits: their whole octets stand in the buffer behind its first two octets.
abbrev pub extended : Draft → List ℕ → Draft
extended d bs = record { sender = d.sender; trip = d.trip; bits = d.bits ++ bs; buffer = placed d.buffer (whole (d.bits ++ bs)) }

-- How many octets of a buffer are there for packets: a message has at most 255 octets, and two stand before them.
abbrev pub room : List ℕ → ℕ
room s = min (length s) 255 - 2

-- Whether there is room for a packet.
abbrev pub has_room : Content → Draft → Bool
has_room p d = nat_le (length d.bits + length (encode d.trip p)) (8 * room d.buffer)

-- What adding a packet answers: it is refused if it cannot be written, and then if there is no room for it.
abbrev pub add_answer : Content → Draft → Result (Unit {0}) Fault
add_answer p d =
    cond (writable d.trip p) (
    cond (has_room p d) (Ok tt) (Err (fault_at refusal.Full 0 layer.Message)))
    (Err (fault_at refusal.Misfit 0 layer.Packet))

-- What it leaves: the packet's bits are added; a refused one changes nothing.
abbrev pub added : Content → Draft → Draft
added p d = cond (writable d.trip p && has_room p d) (extended d (encode d.trip p)) d

-- A message: the STM's number, the count of all octets, and the packets.
abbrev pub message_of : Draft → List ℕ
message_of d = d.sender ∷ ((2 + length (padded d.bits)) ∷ padded d.bits)

-- What finishing answers: how many octets the message has; without a packet it is refused.
abbrev pub finish_answer : Draft → Result ℕ Fault
finish_answer d = cond (length d.bits == 0) (Err (wrong_length 0)) (Ok (length (message_of d)))

-- What it leaves: the message stands at the front of the buffer, and the octets behind it stay; a refusal changes
-- nothing.
abbrev pub finished : Draft → Draft
finished d = cond (length d.bits == 0) d (record { sender = d.sender; trip = d.trip; bits = d.bits; buffer = message_of d ++ drop (length (message_of d)) d.buffer })
