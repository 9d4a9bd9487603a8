-- Laws of what a line means, for the proofs of those who use one.
use Rattle.std.proofs.Common.{◌≡◌, ℕ, ◌+◌, ◌<◌, length, arith}
use Rattle.std.specs.List.{slice_get}
use Rattle.line.specs.Waiting.{lent, room, slot_of, waits}
use Rattle.line.specs.declared.Line.{Line}
use Rattle.line.proofs.Rings.{length_front, nth_front}

-- Each slot in use holds one that waits.
pub length_waits : {T : Type 0} (l : Line T) → length (waits l) ≡ l.used
length_waits l = length_front l.first l.used (lent l) l.fits

-- In each slot an element waits, or it is a free place.
pub places_all : {T : Type 0} (l : Line T) → length (waits l) + room l ≡ length (lent l)
places_all l = omega (arith, length_waits l, l.fits)

-- What waits at a place lies in the place's slot.
pub nth_waits : {T : Type 0} (l : Line T) (i : ℕ) → i < length (waits l) → slice_get (waits l) i ≡ slice_get (lent l) (slot_of l i)
nth_waits l i h = nth_front l.first l.used i (lent l) (omega (arith, l.begins, l.fits, length_waits l)) l.fits (omega (arith, length_waits l))
