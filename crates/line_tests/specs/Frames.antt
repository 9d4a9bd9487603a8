-- What a line of frames means.
use Rattle.std.specs.Prelude.{ℕ, List, map}
use Rattle.line.specs.Waiting.{waits}
use Rattle.line.specs.declared.Line.{Line}
use Rattle.vocabulary.specs.declared.octets.Octets.{Octets}
use Rattle.vocabulary.specs.Octets.{octets_of}

-- The frames that wait, in order.
abbrev pub frames_on : Line (Octets 16) → List (List ℕ)
frames_on l = map octets_of (waits l)
