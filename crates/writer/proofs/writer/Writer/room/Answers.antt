use Rattle.std.proofs.Common.{arith}
use Rattle.writer.proofs.WriterLaws.{length_written}
use Rattle.writer.proofs.writer.Writer.room.Goals as goal

pub returns : goal.returns
returns c = omega (arith, length_written c.args.self.now, c.args.self.now.lies)
