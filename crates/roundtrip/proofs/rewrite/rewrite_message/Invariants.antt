use Rattle.std.proofs.Common.{◌≡◌}
use Rattle.vocabulary.specs.Settings.{trip_of}
use Rattle.wire.specs.Walkers.{ahead}
use Rattle.writer.specs.Writers.{draft}
use Rattle.roundtrip.specs.Sending.{sent, rewritten}
use Rattle.roundtrip.proofs.rewrite.rewrite_message.Given as goal

abbrev pub invariant-loop-packet : goal.invariant-loop-packet
invariant-loop-packet l =
    (rewritten (trip_of l.fn.trip) l.fn.message l.fn.octets ≡ sent (ahead l.packet-iterator) (draft l.writer))
    × (l.writer.octets.ghost_name ≡ l.initial.writer.octets.ghost_name)
