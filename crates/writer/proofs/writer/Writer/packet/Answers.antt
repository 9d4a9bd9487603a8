use Rattle.std.proofs.Common.{length, ap, arith}
use Rattle.vocabulary.specs.Settings.{trip_of}
use Rattle.writer.specs.Coding.{coded}
use Rattle.writer.proofs.WriterLaws.{packed_size}
use Rattle.writer.proofs.writer.Writer.packet.Goals as goal

pub known-requires : goal.known-requires
known-requires c =
    let a = c.in-Known.first in
    let b = c.in-Known.second in
    let t = trip_of c.args.self.now.trip in
    omega (arith, c.requires, ap (λ q. length (coded t q)) c.in-Known.is, packed_size t c.in-Known.kind a.width a.value b.width b.value)
