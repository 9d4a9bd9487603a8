-- What a writer holds.
use Rattle.std.specs.Prelude.{◌≡◌, ℕ, ◌+◌, ◌*◌, ◌≤◌, min, List, ◌++◌, length, take, drop}
use Rattle.vocabulary.specs.Settings.{trip_of}
use Rattle.bits.specs.Bits.{field, bits_of}
use Rattle.writer.specs.Drafts.{Draft, room, padded}
use Rattle.writer.specs.declared.writer.Writer.{Writer}

-- The bits of the packets so far.
abbrev pub written : Writer → List ℕ
written w = bits_of (take w.full (drop 2 w.octets.now)) ++ field w.count w.waiting

-- The message so far, and every octet of the buffer.
abbrev pub draft : Writer → Draft
draft w = record { sender = w.sender; trip = trip_of w.trip; bits = written w; buffer = w.octets.now }

-- There is room for n bits more.
abbrev pub Room : Writer → ℕ → Type 0
Room w n = length (written w) + n ≤ 8 * room w.octets.now

-- The bits are added, and no octet but those of the packets is changed.
pub record Adds (w : Writer) (bs : List ℕ) (w' : Writer) : Type 0 where
  pub sender : w'.sender ≡ w.sender
  pub trip : w'.trip ≡ w.trip
  pub bits : written w' ≡ written w ++ bs
  pub size : length w'.octets.now ≡ length w.octets.now
  pub lender : w'.octets.ghost_name ≡ w.octets.ghost_name
  pub on : w.full ≤ w'.full
  pub front : take 2 w'.octets.now ≡ take 2 w.octets.now
  pub behind : drop (2 + w'.full) w'.octets.now ≡ drop (2 + w'.full) w.octets.now

-- The octets of the packets, n of them, stand in the buffer; no other is changed.
pub record Pads (w : Writer) (n : ℕ) (w' : Writer) : Type 0 where
  pub sender : w'.sender ≡ w.sender
  pub trip : w'.trip ≡ w.trip
  pub bits : written w' ≡ written w
  pub octets : take n (drop 2 w'.octets.now) ≡ padded (written w)
  pub within : 2 + n ≤ min (length w.octets.now) 255
  pub size : length w'.octets.now ≡ length w.octets.now
  pub lender : w'.octets.ghost_name ≡ w.octets.ghost_name
  pub behind : drop (2 + n) w'.octets.now ≡ drop (2 + n) w.octets.now
