use Rattle.std.proofs.Common.{◌≡◌, map, drop}
use Rattle.vocabulary.specs.Settings.{trip_of}
use Rattle.wire.specs.Packets.{content}
use Rattle.writer.specs.Writers.{draft}
use Rattle.roundtrip.specs.Sending.{sent, written}
use Rattle.roundtrip.proofs.write.write_message.Given as goal

abbrev pub invariant-loop-packet : goal.invariant-loop-packet
invariant-loop-packet l =
    (written l.fn.sender (trip_of l.fn.trip) (map content l.packets) l.fn.octets ≡ sent (map content (drop l.packet-index l.packets)) (draft l.writer))
    × (l.writer.octets.ghost_name ≡ l.initial.writer.octets.ghost_name)
