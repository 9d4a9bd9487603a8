use Rattle.std.proofs.Common.{arith}
use Rattle.vocabulary.specs.Settings.{trip_of}
use Rattle.wire.specs.Readers.{left}
use Rattle.wire.proofs.ReaderLaws.{whole_answer}
use Rattle.wire.proofs.MessageLaws.{stands}
use Rattle.wire.proofs.message.Packets.packet.Goals as goal

pub body-requires-clause-stands : goal.body-requires-clause-stands
body-requires-clause-stands c =
    let w = c.args.self.now in
    let parts = rw c.in_ok-packet.ensures.ok_part at c.split_at.ensures in
    stands w.octets.now w.at _ (left w) w.behind parts.enough _ (omega (arith, c.if-length-lt-HEADER.false)) parts.front

pub returns-clause-answer : goal.returns-clause-answer
returns-clause-answer c =
    let w = c.args.self.now in
    let parts = rw c.in_ok-packet.ensures.ok_part at c.split_at.ensures in
    whole_answer (trip_of w.trip) w.at (left w) _ _ _ _ _ c.body.result (rw c.in_ok-number.ensures.ok_part at c.header.ensures) c.if-length-lt-HEADER.false parts.enough parts.front
    c.from.ensures c.from_number-kind.ensures c.if-not-may_have.ensures c.body.ensures.content
