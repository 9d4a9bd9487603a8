-- What a message that was read says, and what a walk over its packets has before it.
use Rattle.std.specs.Prelude.{◌≡◌, ℕ, List, Ok, Err, Option, Result}
use Rattle.std.specs.Option.{IfSome}
use Rattle.std.specs.Iterator.{YieldsFirstBy}
use Rattle.vocabulary.specs.Settings.{trip_of}
use Rattle.vocabulary.specs.declared.fault.Fault.{Fault}
use Rattle.wire.specs.Packets.{Content, HandsOn, StartsAt, content}
use Rattle.wire.specs.Messages.{Reading, walked}
use Rattle.wire.specs.Readers.{Past, left}
use Rattle.wire.specs.declared.message.Message.{Message}
use Rattle.wire.specs.declared.message.Packets.{Packets}
use Rattle.wire.specs.declared.packet.Packet.{Packet}

-- The octets of the message that a walk goes over, and those of a message.
abbrev pub walk_octets : Packets → List ℕ
walk_octets w = w.octets.now

abbrev pub message_octets : Message → List ℕ
message_octets m = walk_octets m.packets

-- The bit of these at which what a walk has before it starts.
abbrev pub walk_start : Packets → ℕ
walk_start w = w.at

-- The packets that a walk has before it.
abbrev pub ahead : Packets → List Content
ahead w = (walked (trip_of w.trip) w.at (left w)).packets

-- One call of `next`: the first packet comes that the walk has before it, and the walk goes on behind it, in the same
-- octets. An unread packet tells the bit at which it starts, and hands on these octets.
pub record Step (w : Packets) (r : Option Packet) (w' : Packets) : Type 0 where
  pub first : YieldsFirstBy content ahead w r w'
  pub unread : IfSome r (λ p. StartsAt (walk_start w) p × HandsOn (walk_octets w) p)
  pub octets : walk_octets w' ≡ walk_octets w
  pub past : IfSome r (λ _. Past w w')

-- What a message says.
abbrev pub reading : Message → Reading
reading m = record { sender = m.sender; packets = ahead m.packets }

-- What reading answered, by what the message says.
abbrev pub heard : Result Message Fault → Result Reading Fault
heard (Ok m) = Ok (reading m)
heard (Err e) = Err e
