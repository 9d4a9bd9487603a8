use Rattle.std.proofs.Common.{◌≡◌, ◌+◌, ◌∷◌, List, map, drop, Err, sym, ap, ◌∙◌, arith, rules}
use Rattle.std.proofs.lemmas.Grind.{common_steps}
use Rattle.std.proofs.lemmas.List.{at_drop_more}
use Rattle.std.proofs.lemmas.Result.{err_from_is_err_and}
use Rattle.vocabulary.specs.Settings.{trip_of}
use Rattle.wire.specs.Packets.{content}
use Rattle.wire.specs.declared.packet.Packet.{Packet}
use Rattle.writer.specs.Drafts.{Draft}
use Rattle.writer.specs.Writers.{draft}
use Rattle.roundtrip.specs.Sending.{Sent, sent, written}
use Rattle.roundtrip.proofs.SendLaws.{refuses}
use Rattle.roundtrip.proofs.TripLaws.{write_law, through}
use Rattle.roundtrip.proofs.write.write_message.Goals.{In_err-add}
use Rattle.roundtrip.proofs.write.write_message.Goals as goal

-- a refused packet ends it
refused : (c : In_err-add) → written c.args.sender (trip_of c.args.trip) (map content c.args.packets.now) c.args.octets.now ≡ record { answer = Err c.in_err-add.field-0.0; buffer = c.add.new.self.octets.now }
refused c =
    let a = c.in_err-add.ensures in
    let w = c.loop-packet.writer in
    let x = c.packet-item.result in
    let rest = drop (c.loop-packet.packet-index + 1) c.args.packets.now in
    let F : List Packet → Sent = λ l. sent (map content l) (draft w) in
    c.loop-packet.invariant.0 ∙ at_drop_more F c.args.packets.now c.loop-packet.packet-index x c.loop-packet-test.true ∙ ap (λ y. F (y ∷ rest)) (sym c.packet-item.is)
    ∙ refuses (content x) (map content rest) (draft w) _ a.answer
    ∙ ap (λ (d : Draft). record { answer = Err c.in_err-add.field-0.0; buffer = d.buffer }) (sym a.draft)

pub returns-in_err-add : goal.returns-in_err-add
returns-in_err-add c =
    let p = err_from_is_err_and c.from_residual.result c.from_residual.ensures.1 in
    let all = refused (goal.at.returns-in_err-add c).In_err-add in
    let lender = c.in_err-add.ensures.lender ∙ c.loop-packet.invariant.1 ∙ c.new-writer.ensures.lender in
    let answer = p.1 ∙ ap Err p.2 ∙ sym (ap (λ x. x.answer) all) in
    let buffer = through _ c.add.new.self.octets.now _ (search rules) (sym (ap (λ x. x.buffer) all)) in
    record {
      answer = answer;
      buffer = buffer;
      law = write_law (trip_of c.args.trip) c.args.trip.octet c.args.trip.free c.args.sender c.args.packets.now c.args.octets.now _ _ answer buffer;
    }

pub returns-clause-law : goal.returns-clause-law
returns-clause-law c =
    write_law (trip_of c.args.trip) c.args.trip.octet c.args.trip.free c.args.sender c.args.packets.now c.args.octets.now _ _ (grind (arith, common_steps)) (grind (arith, common_steps))
