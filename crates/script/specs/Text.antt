-- Parts of a line, numbers and octets as text. Characters are their codes.
use Rattle.std.specs.Prelude.{ℕ, ◌+◌, ◌-◌, ◌*◌, cond, ◌&&◌, List, [], ◌∷◌, Some, None, Option, ◌==◌, nat_le}
use Rattle.std.specs.List.{slice_split}
use Rattle.std.specs.Option.{option_map, option_and_then}

-- The parts of a line. A blank, 32, cuts it: one part stands before the first blank, and one behind each. A part may be empty.
abbrev pub parts : List ℕ → List (List ℕ)
parts line = slice_split (λ c. c == 32) line

-- The first of them: all up to the first blank.
abbrev pub first_part : List ℕ → List ℕ
first_part [] = []
first_part (c ∷ cs) = cond (c == 32) [] (c ∷ first_part cs)

-- The others, one behind each blank.
abbrev pub other_parts : List ℕ → List (List ℕ)
other_parts [] = []
other_parts (c ∷ cs) = cond (c == 32) (first_part cs ∷ other_parts cs) (other_parts cs)

-- A number, with a digit more: none if the character is no digit, 48 to 57, or the number passes 65535.
abbrev pub add_digit : ℕ → ℕ → Option ℕ
add_digit value c = cond (nat_le 48 c && (nat_le c 57 && nat_le (10 * value + (c - 48)) 65535)) (Some (10 * value + (c - 48))) None

-- A number, with these digits more.
abbrev pub add_digits : ℕ → List ℕ → Option ℕ
add_digits value [] = Some value
add_digits value (c ∷ cs) = option_and_then (λ next. add_digits next cs) (add_digit value c)

-- A part that is a number: at least one digit, leading zeros too, and at most 65535.
abbrev pub number : List ℕ → Option ℕ
number [] = None
number (c ∷ cs) = add_digits 0 (c ∷ cs)

-- A hexadecimal digit, 0 to 9 (48 to 57) or a capital A to F (65 to 70).
abbrev pub hex_value : ℕ → Option ℕ
hex_value c = cond (nat_le 48 c && nat_le c 57) (Some (c - 48)) (cond (nat_le 65 c && nat_le c 70) (Some (c - 55)) None)

-- An octet of two digits, the high one first.
abbrev pub octet : ℕ → ℕ → Option ℕ
octet high low = option_and_then (λ h. option_map (λ l. 16 * h + l) (hex_value low)) (hex_value high)

-- A part that is octets, each of two digits and unspaced.
abbrev pub octets : List ℕ → Option (List ℕ)
octets [] = Some []
octets (c ∷ []) = None
octets (c ∷ (d ∷ cs)) = option_and_then (λ o. option_map (λ os. o ∷ os) (octets cs)) (octet c d)
