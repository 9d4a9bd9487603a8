-- Messages: who sends one, and the packets that it has.
use Rattle.std.specs.Prelude.{ℕ, zero, suc, ◌+◌, cond, List, [], ◌∷◌, length, drop, Some, None, Ok, Err, Option, Result, ◌==◌, nat_lt, slice_index}
use Rattle.vocabulary.specs.Refusals.{fault_at}
use Rattle.vocabulary.specs.declared.fault.Fault.{Fault}
use Rattle.vocabulary.specs.declared.fault.Layer.TheVariants as layer
use Rattle.vocabulary.specs.declared.fault.Refusal.TheVariants as refusal
use Rattle.bits.specs.Bits.{bits_of}
use Rattle.wire.specs.Packets.{Content, length_in, read_packet}

-- The packets that stand one behind the other, and the fault of the first that is wrong, if one is: there the walk ends.
pub record Walk : Type 0 where
  pub packets : List Content
  pub stop : Option Fault

-- Nothing more.
abbrev pub ended : Walk
ended = record { packets = []; stop = None }

-- A packet, and then the rest; or what is wrong with it.
abbrev pub before : Result Content Fault → Walk → Walk
before (Ok p) rest = record { packets = p ∷ rest.packets; stop = rest.stop }
before (Err e) rest = record { packets = []; stop = Some e }

-- The walk over bits that start at a bit of their message, in at most so many turns. Fewer than 8 bits are padding,
-- whatever they hold.
abbrev pub walk : ℕ → ℕ → ℕ → List ℕ → Walk
walk trip zero start bs = ended
walk trip (suc turns) start bs =
    cond (nat_lt (length bs) 8) ended (before (read_packet trip start bs) (walk trip turns (start + length_in bs) (drop (length_in bs) bs)))

-- The whole walk: there are fewer packets than bits.
abbrev pub walked : ℕ → ℕ → List ℕ → Walk
walked trip start bs = walk trip (length bs) start bs

-- What a message says: the number of its STM, and its packets in their order.
pub record Reading : Type 0 where
  pub sender : ℕ
  pub packets : List Content

-- The bits behind the first two octets.
abbrev pub body_bits : List ℕ → List ℕ
body_bits s = drop 16 (bits_of s)

-- A message of a wrong length, at the bit that shows it.
abbrev pub wrong_length : ℕ → Fault
wrong_length place = fault_at refusal.MessageLength place layer.Message

-- What is wrong with the length of a message: it has under 5 octets, or over 255, or its second octet does not
-- say how many it has.
abbrev pub size_fault : List ℕ → Option Fault
size_fault s =
    cond (nat_lt (length s) 5) (Some (wrong_length 0)) (
    cond (nat_lt 255 (length s)) (Some (wrong_length 0)) (
    cond (slice_index s 1 == length s) None (Some (wrong_length 8))))

-- An answer, unless there is a fault.
abbrev pub unless : {X : Type 0} → Option Fault → Result X Fault → Result X Fault
unless None r = r
unless (Some e) r = Err e

-- What octets say as a message: the first is the number of the STM, the second the length, and packets follow
-- without gaps. A wrong length is refused first, and then the first wrong packet.
abbrev pub read_message : ℕ → List ℕ → Result Reading Fault
read_message trip s =
    unless (size_fault s) (
    unless (walked trip 16 (body_bits s)).stop (
    Ok (record { sender = slice_index s 0; packets = (walked trip 16 (body_bits s)).packets })))
