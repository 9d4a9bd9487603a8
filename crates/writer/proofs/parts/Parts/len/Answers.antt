use Rattle.std.proofs.Common.{length, ap, arith}
use Rattle.writer.specs.Coding.{coded}
use Rattle.writer.proofs.WriterLaws.{packed_size}
use Rattle.writer.proofs.parts.Parts.len.Goals as goal

pub returns-in-Known : goal.returns-in-Known
returns-in-Known c trip =
    let a = c.in-Known.first in
    let b = c.in-Known.second in
    omega (arith, ap (λ q. length (coded trip q)) c.in-Known.is, packed_size trip c.in-Known.field-0 a.width a.value b.width b.value)
