use Rattle.std.proofs.Common.{length, sym, ap, subst, arith}
use Rattle.std.specs.Int.Digits.{AllBelowBase}
use Rattle.bits.proofs.BitLaws.{under_lying}
use Rattle.writer.proofs.WriterLaws.{adds_both, room_after}
use Rattle.writer.proofs.writer.Writer.copy.Goals as goal

pub bit-requires : goal.bit-requires
bit-requires c =
    let i = c.loop-b.b-iterator.bits in
    let all = subst (AllBelowBase 2) c.in-Some.ensures.steps (under_lying i.octets.now i.offset i.len i.lies) in
    (omega (arith, c.loop-b.invariant.0, ap length c.in-Some.ensures.steps), all.0)

pub loop-b-preserved : goal.loop-b-preserved
loop-b-preserved c = (
  room_after _ _ _ _ _ c.bit.ensures c.loop-b.invariant.0 (omega (arith, ap length c.in-Some.ensures.steps)),
  λ w a. c.loop-b.invariant.1 w (adds_both _ _ _ _ _ _ c.bit.ensures a (sym c.in-Some.ensures.steps)),
)
