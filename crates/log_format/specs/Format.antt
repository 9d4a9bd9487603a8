-- A log as it is written: entries, and a trailer behind them.
use Rattle.std.specs.Prelude.{ℕ, ◌-◌, ◌*◌, ◌/◌, ◌%◌, min, List, [], ◌∷◌, ◌++◌, length, replicate}
use Rattle.std.specs.List.{flat_map}

-- The octets of an entry, of a trailer, and the most frames of a log.
abbrev pub entry_size : ℕ
entry_size = 17

abbrev pub trailer_size : ℕ
trailer_size = 8

abbrev pub most_frames : ℕ
most_frames = 3840

-- The most octets of a frame: those of an entry but for the length.
abbrev pub filled_size : ℕ
filled_size = entry_size - 1

-- A frame's entry: its length, its octets, and 00 up to 16 octets.
abbrev pub entry_of : List ℕ → List ℕ
entry_of frame = length frame ∷ (frame ++ replicate (filled_size - length frame) 0)

-- The mark: 53 54 4D 54.
abbrev pub mark : List ℕ
mark = 83 ∷ (84 ∷ (77 ∷ (84 ∷ [])))

-- A number in two octets, the high one first.
abbrev pub two_octets : ℕ → List ℕ
two_octets n = n / 256 ∷ (n % 256 ∷ [])

-- The trailer behind so many entries: the mark, their count, and the distance back to the first of them.
abbrev pub trailer_of : ℕ → List ℕ
trailer_of count = mark ++ (two_octets count ++ two_octets (entry_size * count))

-- The log of these frames.
abbrev pub log_of : List (List ℕ) → List ℕ
log_of frames = flat_map entry_of frames ++ trailer_of (length frames)

-- The places of a log over so many octets: the trailer's octets left out, one for each entry's octets, and at most 3840.
abbrev pub places_in : ℕ → ℕ
places_in octets = min ((octets - trailer_size) / entry_size) most_frames
