use Rattle.std.proofs.Common.{◌-◌, ◌/◌, ◌^◌, arith}
use Rattle.bits.proofs.BitLaws.{length_field}
use Rattle.writer.proofs.WriterLaws.{adds_both, room_after, field_more}
use Rattle.writer.proofs.writer.Writer.value.Goals as goal

pub bit-requires : goal.bit-requires
bit-requires c =
    let k = c.loop-k.k in
    (room_after _ _ _ c.args.n 1 c.loop-k.invariant c.requires.1 (omega (arith, length_field (c.args.n - k) (c.args.v / 2 ^ k))), omega arith)

pub loop-k-preserved : goal.loop-k-preserved
loop-k-preserved c = adds_both _ _ _ _ _ _ c.loop-k.invariant c.bit.ensures (field_more c.args.n c.loop-k.k c.args.v (omega arith) (omega arith))
