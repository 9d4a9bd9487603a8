-- What settings have to keep.
use Rattle.std.specs.Prelude.{ℕ, ◌+◌, ◌-◌, Bool, cond, not, ◌&&◌, List, [], ◌∷◌, ◌++◌, length, Some, None, Option, ◌==◌, nat_le, slice_index}
use Rattle.std.specs.List.{list_any}
use Rattle.vocabulary.specs.declared.versions.Versions.{Versions}

-- The number of an STM is 1 to 254.
abbrev pub in_range : ℕ → Bool
in_range n = nat_le 1 n && nat_le n 254

-- Whether a number is one of these.
abbrev pub among : ℕ → List ℕ → Bool
among n ms = list_any (λ m. m == n) ms

-- A number may stand behind these: it is in range and none of them.
abbrev pub fits_behind : List ℕ → ℕ → Bool
fits_behind earlier n = in_range n && not (among n earlier)

-- The place of the first number that may not stand behind those before it, if there is one;
-- the next number stands at `place`.
abbrev pub wrong_from : List ℕ → List ℕ → ℕ → Option ℕ
wrong_from earlier [] place = None
wrong_from earlier (n ∷ ns) place =
    cond (fits_behind earlier n) (wrong_from (earlier ++ n ∷ []) ns (place + 1)) (Some place)

-- The same of all numbers: the first stands at place 1.
abbrev pub wrong_number : List ℕ → Option ℕ
wrong_number ns = wrong_from [] ns 1

-- There are 1 to 8 numbers.
abbrev pub count_fits : List ℕ → Bool
count_fits ns = nat_le 1 (length ns) && nat_le (length ns) 8

-- The highest major is 0 to 3 above the lowest.
abbrev pub majors_fit : Versions → Bool
majors_fit v = nat_le v.lowest v.highest && nat_le v.highest (v.lowest + 3)

-- The minor of a major of the settings; none for any other major.
abbrev pub minor_of : Versions → ℕ → Option ℕ
minor_of v major =
    cond (nat_le v.lowest major && nat_le major v.highest) (Some (slice_index v.minors (major - v.lowest))) None
