use Rattle.std.proofs.Common.{◌≡◌, Err, sym, ap, ◌∙◌, rules}
use Rattle.std.proofs.lemmas.Result.{err_from_is_err_and}
use Rattle.vocabulary.specs.Settings.{trip_of}
use Rattle.wire.specs.Packets.{content}
use Rattle.wire.specs.Walkers.{ahead}
use Rattle.writer.specs.Drafts.{Draft}
use Rattle.writer.specs.Writers.{draft}
use Rattle.roundtrip.specs.Sending.{sent, rewritten}
use Rattle.roundtrip.proofs.SendLaws.{refuses}
use Rattle.roundtrip.proofs.TripLaws.{rewrite_law, through}
use Rattle.roundtrip.proofs.rewrite.rewrite_message.Goals.{In_err-add}
use Rattle.roundtrip.proofs.rewrite.rewrite_message.Goals as goal

-- a refused packet ends it
refused : (c : In_err-add) → rewritten (trip_of c.args.trip) c.args.message.now c.args.octets.now ≡ record { answer = Err c.in_err-add.field-0.0; buffer = c.add.new.self.octets.now }
refused c =
    let a = c.in_err-add.ensures in
    let w = c.loop-packet.writer in
    c.loop-packet.invariant.0 ∙ ap (λ l. sent l (draft w)) c.in-Some.ensures.steps.first
    ∙ refuses (content c.in-Some.packet) (ahead c.next.new.self) (draft w) _ a.answer
    ∙ ap (λ (d : Draft). record { answer = Err c.in_err-add.field-0.0; buffer = d.buffer }) (sym a.draft)

pub returns-in_err-add : goal.returns-in_err-add
returns-in_err-add c =
    let p = err_from_is_err_and c.from_residual-in_err-add.result c.from_residual-in_err-add.ensures.1 in
    let all = refused (goal.at.returns-in_err-add c).In_err-add in
    let lender = c.in_err-add.ensures.lender ∙ c.loop-packet.invariant.1 ∙ c.new-writer.ensures.lender in
    let answer = p.1 ∙ ap Err p.2 ∙ sym (ap (λ x. x.answer) all) in
    let buffer = through _ c.add.new.self.octets.now _ (search rules) (sym (ap (λ x. x.buffer) all)) in
    record {
      answer = answer;
      buffer = buffer;
      law = rewrite_law (trip_of c.args.trip) c.args.message.now c.args.octets.now c.type_inv.message _ _ answer buffer;
    }
