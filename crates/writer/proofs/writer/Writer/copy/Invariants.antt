use Rattle.std.proofs.Common.{length}
use Rattle.bits.specs.Pieces.{ahead, bits}
use Rattle.writer.specs.Writers.{Room, Adds}
use Rattle.writer.specs.declared.writer.Writer.{Writer}
use Rattle.writer.proofs.writer.Writer.copy.Given as goal

abbrev pub invariant-loop-b : goal.invariant-loop-b
invariant-loop-b l =
    (Room l.self (length (ahead l.b-iterator)))
    × ((w : Writer) → Adds l.self (ahead l.b-iterator) w → Adds l.initial.self (bits l.unread) w)
