use Rattle.std.proofs.Common.{◌+◌, ◌≤◌, refl, arith, length-set}
use Rattle.std.proofs.lemmas.List.{drop-set-lt}
use Rattle.writer.proofs.DraftLaws.{pads_none, room_for, filled_octets, filled_bits_same}
use Rattle.writer.proofs.writer.Writer.pad.Goals as goal

pub returns-then-self-eq0 : goal.returns-then-self-eq0
returns-then-self-eq0 c = pads_none c.args.self.now c.requires (omega arith)

pub returns : goal.returns
returns c =
    let w = c.args.self.now in
    let some : 1 ≤ w.count = omega arith in
    let r = room_for w c.requires some _ c.filled.ensures in
    record {
      sender = refl;
      trip = refl;
      bits = filled_bits_same w c.requires some _ c.filled.ensures;
      octets = filled_octets w c.requires some _ c.filled.ensures;
      within = omega arith;
      size = length-set w.octets.now (2 + w.full) _;
      lender = refl;
      behind = drop-set-lt (2 + (w.full + 1)) w.octets.now (2 + w.full) _ (omega arith);
    }
