-- What an open log means, and what closing makes of it.
use Rattle.std.specs.Prelude.{ℕ, ◌-◌, ◌*◌, cond, List, [], length, nat_le}
use Rattle.std.specs.Borrow.{GName}
use Rattle.log_format.specs.Format.{entry_size, log_of, places_in, trailer_of, trailer_size}
use Rattle.log_format.specs.Reading.{frames_in}
use Rattle.log_writing.specs.Overwriting.{overwritten}
use Rattle.log_writing.specs.declared.open.OpenLog.{OpenLog}

-- What the lent octets hold.
abbrev pub open_octets : OpenLog → List ℕ
open_octets l = l.octets.now

-- The loan that they are. While it stays the same, what they hold in the end is what the lender gets back.
abbrev pub open_loan : OpenLog → GName
open_loan l = l.octets.ghost_name

-- The frames in it, in order.
abbrev pub open_frames : OpenLog → List (List ℕ)
open_frames l = frames_in l.count (open_octets l)

-- Its free places: those that its octets have, less its frames.
abbrev pub open_free : OpenLog → ℕ
open_free l = places_in (length (open_octets l)) - l.count

-- What octets hold after a log of so many frames was closed in them: the trailer stands behind the last entry. Under 8 octets closing writes nothing.
abbrev pub closing : ℕ → List ℕ → List ℕ
closing count octets = cond (nat_le trailer_size (length octets)) (overwritten (entry_size * count) (trailer_of count) octets) octets

-- The log itself, closed in so many octets: under 8 there is none.
abbrev pub log_in : ℕ → List (List ℕ) → List ℕ
log_in octets frames = cond (nat_le trailer_size octets) (log_of frames) []
