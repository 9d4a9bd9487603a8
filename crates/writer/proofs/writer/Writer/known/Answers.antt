use Rattle.std.proofs.Common.{◌++◌, refl, ap, ◌∙◌, arith}
use Rattle.bits.specs.Bits.{field}
use Rattle.bits.proofs.BitLaws.{length_field}
use Rattle.wire.specs.Kinds.{kind_number}
use Rattle.writer.proofs.WriterLaws.{adds_both, room_after}
use Rattle.writer.proofs.writer.Writer.known.Goals as goal

pub value-requires-4 : goal.value-requires-4
value-requires-4 c =
    let a = adds_both _ _ _ _ _ _ (adds_both _ _ _ _ _ _ c.value.ensures c.value-2.ensures refl) c.value-3.ensures refl in
    (omega (arith, c.args.second.now.narrow), room_after _ _ _ _ c.args.second.now.width a c.requires (omega (arith, length_field c.args.first.now.width c.from-3.result)))

pub returns : goal.returns
returns c =
    adds_both _ _ _ _ _ _ c.value.ensures
    (adds_both _ _ _ _ _ _ c.value-2.ensures (adds_both _ _ _ _ _ _ c.value-3.ensures c.value-4.ensures refl) refl)
    (λ i.
    field 8 ((c.from-2.ensures ∙ c.number-number.ensures ∙ ap (λ t. kind_number t c.args.kind) c.from.ensures) i)
    ++ (field 13 (c.length.ensures i) ++ (field c.args.first.now.width (c.from-3.ensures i) ++ field c.args.second.now.width (c.from-4.ensures i))))
