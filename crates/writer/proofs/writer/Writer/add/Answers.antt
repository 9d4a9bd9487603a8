use Rattle.std.proofs.Common.{◌≡◌, ◌+◌, ◌*◌, ◌≤◌, true, length, ap, ◌∙◌, arith}
use Rattle.vocabulary.specs.Settings.{trip_of}
use Rattle.wire.specs.Packets.{content}
use Rattle.writer.specs.Encoding.{encode, writable}
use Rattle.writer.specs.Drafts.{room}
use Rattle.writer.specs.Writers.{written, draft}
use Rattle.writer.proofs.DraftLaws.{adds_draft, granted_draft}
use Rattle.writer.proofs.WriterLaws.{adds_same}
use Rattle.writer.proofs.writer.Writer.add.Goals as goal

pub returns-clause-draft : goal.returns-clause-draft
returns-clause-draft c =
    let w = c.args.self.now in
    let t = trip_of w.trip in
    let p = content c.args.packet.now in
    let same = c.of-parts.ensures.bits_are t in
    let can : true ≡ writable t p = c.if-not-is_writable.ensures ∙ c.of-parts.ensures.may t in
    let fits : length (written w) + length (encode t p) ≤ 8 * room w.octets.now = omega (arith, c.room.ensures, c.len.ensures t, ap length same) in
    adds_draft w _ c.packet.new.self (adds_same _ _ _ _ c.packet.ensures same) ∙ granted_draft p (draft w) can fits
