-- What a closed log means.
use Rattle.std.specs.Prelude.{ℕ, List}
use Rattle.log_format.specs.Reading.{frames_up_to}
use Rattle.log_format.specs.declared.closed.ClosedLog.{ClosedLog}
use Rattle.log_format.specs.declared.closed.Playing.{Playing}

-- All octets in which it lies.
abbrev pub closed_in : ClosedLog → List ℕ
closed_in l = l.octets.now

-- Its own octets, from the first entry to the trailer's end.
abbrev pub closed_octets : ClosedLog → List ℕ
closed_octets l = l.log.now

-- Its frames, in order.
abbrev pub closed_frames : ClosedLog → List (List ℕ)
closed_frames l = frames_up_to l.count (closed_octets l)

-- The frames that are still to be played, in order.
abbrev pub to_play : Playing → List (List ℕ)
to_play p = frames_up_to p.left p.rest.now
