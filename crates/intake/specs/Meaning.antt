-- What the values of the code mean.
use Rattle.std.specs.Prelude.{ℕ, List, map, Option, Result}
use Rattle.few.specs.Few.{held}
use Rattle.line.specs.Waiting.{waits}
use Rattle.line.specs.declared.Line.{Line}
use Rattle.script.specs.Grammar.{Said}
use Rattle.script.specs.Meaning.{says}
use Rattle.script.specs.declared.event.Event.{Event}
use Rattle.script.specs.declared.event.Unreadable.{Unreadable}
use Rattle.intake.specs.declared.intake.Intake.{Intake}

-- The octets of a line so far.
abbrev pub so_far : Intake → List ℕ
so_far i = held i.octets

-- What the waiting lines say: an event, or none for an unreadable line.
abbrev pub heard : Line (Result Event Unreadable) → List (Option Said)
heard l = map says (waits l)
