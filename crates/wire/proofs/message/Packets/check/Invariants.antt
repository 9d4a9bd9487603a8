use Rattle.std.proofs.Common.{◌≡◌, length}
use Rattle.vocabulary.specs.Settings.{trip_of}
use Rattle.wire.specs.Messages.{walked}
use Rattle.wire.specs.Readers.{left}
use Rattle.wire.proofs.message.Packets.check.Given as goal

abbrev pub invariant-loop-self : goal.invariant-loop-self
invariant-loop-self l = (walked (trip_of l.self.trip) l.self.at (left l.self)).stop ≡ (walked (trip_of l.initial.self.trip) l.initial.self.at (left l.initial.self)).stop

abbrev pub decreases-loop-self : goal.decreases-loop-self
decreases-loop-self l = length (left l.self)
