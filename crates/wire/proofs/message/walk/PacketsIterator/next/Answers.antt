use Rattle.std.proofs.Common.{sym}
use Rattle.std.proofs.lemmas.Bool.{ltb-false}
use Rattle.wire.proofs.WalkLaws.{next_gives, next_goes}
use Rattle.wire.proofs.message.walk.PacketsIterator.next.Goals as goal

pub returns-else-is_padding-clause-steps : goal.returns-else-is_padding-clause-steps
returns-else-is_padding-clause-steps c =
    let p = c.packet.ensures in
    rw c.ok.ensures.value (next_gives c.args.self.now c.packet.new.self c.packet.result (ltb-false _ _ (sym c.if-is_padding.ensures)) p.answer p.past p.start p.unread p.octets)

pub returns-else-is_padding-clause-goes : goal.returns-else-is_padding-clause-goes
returns-else-is_padding-clause-goes c =
    let p = c.packet.ensures in
    next_goes c.args.self.now c.packet.new.self c.ok.result
    (rw c.ok.ensures.value (next_gives c.args.self.now c.packet.new.self c.packet.result (ltb-false _ _ (sym c.if-is_padding.ensures)) p.answer p.past p.start p.unread p.octets))
