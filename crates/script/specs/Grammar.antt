-- Which lines are readable, and as what.
use Rattle.std.specs.Prelude.{ℕ, Bool, true, false, cond, List, [], ◌∷◌, length, take, Some, None, codes, Option, ◌==◌, nat_le}
use Rattle.std.specs.Option.{option_map, option_and_then}
use Rattle.vocabulary.specs.Octets.{sized}
use Rattle.script.specs.Text.{number, octets, parts}

-- What a line says.
pub data Said : Type 0 where
  -- a new control over the STMs with these numbers
  anew : List ℕ → Said
  -- this STM is connected; its link is lost; it is lost for good
  connected : ℕ → Said
  lost : ℕ → Said
  lost_for_good : ℕ → Said
  -- these octets came as a message
  came : List ℕ → Said
  -- level, national number and mode
  status : ℕ → ℕ → ℕ → Said
  -- this STM is announced, or none by 0
  announced : ℕ → Said
  -- train data are valid or not
  train_data : Bool → Said
  -- so many ticks
  ticks : ℕ → Said
  power_off : Said

-- Parts that are one part only.
abbrev pub one_part : List (List ℕ) → Option (List ℕ)
one_part [] = None
one_part (p ∷ []) = Some p
one_part (p ∷ (q ∷ ps)) = None

-- Parts that are one number only.
abbrev pub one_number : List (List ℕ) → Option ℕ
one_number ps = option_and_then number (one_part ps)

-- Parts that are numbers, any count of them.
abbrev pub numbers : List (List ℕ) → Option (List ℕ)
numbers [] = Some []
numbers (p ∷ ps) = option_and_then (λ n. option_map (λ ns. n ∷ ns) (numbers ps)) (number p)

-- Numbers that are three: level, national number and mode.
abbrev pub three : List ℕ → Option Said
three [] = None
three (a ∷ []) = None
three (a ∷ (b ∷ [])) = None
three (a ∷ (b ∷ (c ∷ []))) = Some (status a b c)
three (a ∷ (b ∷ (c ∷ (d ∷ ns)))) = None

-- 0 for invalid, 1 for valid.
abbrev pub flag : ℕ → Option Said
flag n = cond (n == 0) (Some (train_data false)) (cond (n == 1) (Some (train_data true)) None)

-- 1 to 255 octets.
abbrev pub sized_octets : List ℕ → Option (List ℕ)
sized_octets text = option_and_then (sized 255) (octets text)

-- Whether a character is the one that is written here.
abbrev pub is : List ℕ → ℕ → Bool
is [] c = false
is (l ∷ ls) c = c == l

-- No part.
abbrev pub no_part : List (List ℕ) → Option Said
no_part [] = Some power_off
no_part (p ∷ ps) = None

-- What a letter says of the parts behind it. Of the numbers behind n the first nine are kept, since
-- nine are too many already.
abbrev pub call : ℕ → List (List ℕ) → Option Said
call c ps =
    cond (is (codes "n") c) (option_map (λ ns. anew (take 9 ns)) (numbers ps))
    (cond (is (codes "c") c) (option_map connected (one_number ps))
    (cond (is (codes "l") c) (option_map lost (one_number ps))
    (cond (is (codes "f") c) (option_map lost_for_good (one_number ps))
    (cond (is (codes "m") c) (option_map came (option_and_then sized_octets (one_part ps)))
    (cond (is (codes "s") c) (option_and_then three (numbers ps))
    (cond (is (codes "a") c) (option_map announced (one_number ps))
    (cond (is (codes "v") c) (option_and_then flag (one_number ps))
    (cond (is (codes "t") c) (option_map ticks (one_number ps))
    (cond (is (codes "p") c) (no_part ps) None)))))))))

-- A call by its first part, which is one letter.
abbrev pub called : List (List ℕ) → Option Said
called [] = None
called ([] ∷ ps) = None
called ((c ∷ []) ∷ ps) = call c ps
called ((c ∷ (d ∷ cs)) ∷ ps) = None

-- A line of at most 512 characters whose parts are a call.
abbrev pub reading : List ℕ → Option Said
reading line = cond (nat_le (length line) 512) (called (parts line)) None
