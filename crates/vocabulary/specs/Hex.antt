-- Octets as text.
use Rattle.std.specs.Prelude.{ℕ, ◌+◌, ◌/◌, ◌%◌, cond, List, [], ◌∷◌, nat_lt}
use Rattle.std.specs.List.{flat_map}

-- A hexadecimal digit: 0 to 9, then A to F.
abbrev pub hex_digit : ℕ → ℕ
hex_digit d = cond (nat_lt d 10) (48 + d) (55 + d)

-- An octet in two digits, the high one first.
abbrev pub octet_text : ℕ → List ℕ
octet_text o = hex_digit (o / 16) ∷ (hex_digit (o % 16) ∷ [])

-- Octets, unspaced.
abbrev pub hex : List ℕ → List ℕ
hex os = flat_map octet_text os
