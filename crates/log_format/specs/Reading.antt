-- A log as it is read: it may end a longer file.
use Rattle.std.specs.Prelude.{ℕ, zero, suc, ◌+◌, ◌-◌, ◌*◌, ◌/◌, Bool, cond, ◌&&◌, List, [], ◌∷◌, map, length, take, drop, Some, None, Ok, Err, Option, Result, ◌==◌, nat_le, slice_index}
use Rattle.std.specs.List.{list_all}
use Rattle.std.specs.Simd.{first_chunks}
use Rattle.std.specs.Str.{bytes_eq}
use Rattle.vocabulary.specs.declared.fault.Fault.{Fault}
use Rattle.vocabulary.specs.declared.fault.Layer.TheVariants as layer
use Rattle.vocabulary.specs.declared.fault.Refusal.TheVariants as refusal
use Rattle.vocabulary.specs.Refusals.{fault_at}
use Rattle.log_format.specs.Format.{entry_size, filled_size, mark, most_frames, trailer_size}

-- Octets that are all 00.
abbrev pub blank : List ℕ → Bool
blank = list_all (λ x. x == 0)

-- These octets are an entry: 17 of them, a length from 1 to 16, and 00 behind that many.
abbrev pub is_entry : List ℕ → Bool
is_entry e = length e == entry_size && (nat_le 1 (slice_index e 0) && (nat_le (slice_index e 0) filled_size && blank (drop (1 + slice_index e 0) e)))

-- The frame in an entry: as many octets behind its length as that says.
abbrev pub frame_in : List ℕ → List ℕ
frame_in e = take (slice_index e 0) (drop 1 e)

-- The frame in these octets if they are an entry, else none.
abbrev pub read_entry : List ℕ → Option (List ℕ)
read_entry e = cond (is_entry e) (Some (frame_in e)) None

-- So many entries, one behind the other.
abbrev pub entries_in : ℕ → List ℕ → List (List ℕ)
entries_in = first_chunks entry_size

-- The frames in these entries.
abbrev pub frames_in : ℕ → List ℕ → List (List ℕ)
frames_in n octets = map frame_in (entries_in n octets)

-- The frames in so many entries, one behind the other, up to the first that is no entry.
abbrev pub frames_up_to : ℕ → List ℕ → List (List ℕ)
frames_up_to zero octets = []
frames_up_to (suc n) octets = cond (is_entry (take entry_size octets)) (frame_in (take entry_size octets) ∷ frames_up_to n (drop entry_size octets)) []

-- The frames of a log, by its octets. What is left behind the last entry is no entry.
abbrev pub frames_of_log : List ℕ → List (List ℕ)
frames_of_log octets = frames_up_to (length octets / entry_size) octets

-- The start of the first that is no entry, if there is one; the next starts at `place`.
abbrev pub wrong_from : List (List ℕ) → ℕ → Option ℕ
wrong_from [] place = None
wrong_from (e ∷ es) place = cond (is_entry e) (wrong_from es (place + entry_size)) (Some place)

-- The number in two octets, the high one first.
abbrev pub number_at : List ℕ → ℕ → ℕ
number_at octets at = 256 * slice_index octets at + slice_index octets (at + 1)

-- Count and distance in a trailer.
abbrev pub count_in : List ℕ → ℕ
count_in trailer = number_at trailer 4

abbrev pub distance_in : List ℕ → ℕ
distance_in trailer = number_at trailer 6

-- A trailer behind so many octets: it has the mark, its count is at most 3840, its distance is 17 for each entry, and the first entry is not before the file's start.
abbrev pub is_trailer : List ℕ → ℕ → Bool
is_trailer trailer before =
    bytes_eq (take 4 trailer) mark
    && (nat_le (count_in trailer) most_frames && (distance_in trailer == entry_size * count_in trailer && nat_le (distance_in trailer) before))

-- Octets that are no log are refused by 10, layer log.
abbrev pub no_log : ℕ → Fault
no_log place = fault_at refusal.Log place layer.Log

-- Frames, unless an entry is wrong.
abbrev pub or_wrong : List (List ℕ) → Option ℕ → Result (List (List ℕ)) Fault
or_wrong frames None = Ok frames
or_wrong frames (Some place) = Err (no_log place)

-- What the entries of a file are read as: so many, the first at `start`.
abbrev pub read_entries : ℕ → ℕ → List ℕ → Result (List (List ℕ)) Fault
read_entries count start file = or_wrong (frames_in count (drop start file)) (wrong_from (entries_in count (drop start file)) start)

-- What a file is read as whose trailer starts at `at`.
abbrev pub read_before : ℕ → List ℕ → Result (List (List ℕ)) Fault
read_before at file =
    cond (is_trailer (drop at file) at) (read_entries (count_in (drop at file)) (at - distance_in (drop at file)) file) (Err (no_log at))

-- What a file is read as: its last 8 octets are the trailer.
abbrev pub read_log : List ℕ → Result (List (List ℕ)) Fault
read_log file = cond (nat_le trailer_size (length file)) (read_before (length file - trailer_size) file) (Err (no_log 0))
