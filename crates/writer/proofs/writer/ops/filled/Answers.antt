use Rattle.std.proofs.Common.{◌-◌, arith}
use Rattle.std.proofs.lemmas.Nat.{shl_whole}
use Rattle.writer.proofs.writer.ops.filled.Goals as goal

pub returns : goal.returns
returns c = shl_whole c.args.waiting c.args.count (8 - c.args.count) 8 c.requires.1.1 (omega arith)
