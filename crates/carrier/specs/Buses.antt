-- Bus memory: frames on a waiting line.
use Rattle.std.specs.Prelude.{ℕ, List, map}
use Rattle.std.specs.Borrow.{GName}
use Rattle.vocabulary.specs.declared.octets.Octets.{Octets}
use Rattle.vocabulary.specs.Octets.{octets_of}
use Rattle.line.specs.Waiting.{lent, loan, room, slot_of, start_of, waits}
use Rattle.carrier.specs.declared.bus.Bus.{Bus}

-- Frames, each by its octets.
abbrev pub frames_of : List (Octets 16) → List (List ℕ)
frames_of fs = map octets_of fs

-- The frames that wait, in order, and the free places: those of the line.
abbrev pub bus_frames : Bus → List (List ℕ)
bus_frames b = frames_of (waits b.line)

abbrev pub bus_free : Bus → ℕ
bus_free b = room b.line

-- What the frame places that were handed over hold, each by its octets.
abbrev pub bus_slots : Bus → List (List ℕ)
bus_slots b = frames_of (lent b.line)

-- The slot of the first frame, and the slot that is so many behind it, counted round the end.
abbrev pub bus_start : Bus → ℕ
bus_start b = start_of b.line

abbrev pub bus_slot : Bus → ℕ → ℕ
bus_slot b i = slot_of b.line i

-- The loan that the frame places are. While it stays the same, what they hold in the end is what the lender gets back.
abbrev pub bus_loan : Bus → GName
bus_loan b = loan b.line
