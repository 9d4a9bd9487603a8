use Rattle.std.proofs.Common.{sym, ap, ◌∙◌}
use Rattle.std.proofs.lemmas.Bool.{ltb-true, ltb-false}
use Rattle.vocabulary.specs.Settings.{trip_of}
use Rattle.wire.proofs.WalkLaws.{walked_end, past_walk}
use Rattle.wire.proofs.message.Packets.check.Goals as goal

pub loop-self-preserved : goal.loop-self-preserved
loop-self-preserved c =
    let q = c.in_ok-packet.ensures in
    sym (ap (λ x. x.stop) (past_walk c.loop-self.self c.packet.new.self _ (ltb-false _ _ (sym c.loop-self-test.ensures)) (sym q.answer) q.past)) ∙ c.loop-self.invariant

pub returns : goal.returns
returns c =
    let w = c.loop-self.self in
    sym (ap (λ x. x.stop) (walked_end (trip_of w.trip) w.at _ (ltb-true _ _ (sym c.loop-self-test.ensures)))) ∙ c.loop-self.invariant
