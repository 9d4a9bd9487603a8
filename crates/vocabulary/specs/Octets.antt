-- A few octets: at least one, and no more than a bound.
use Rattle.std.specs.Prelude.{◌≡◌, ℕ, Bool, cond, ◌&&◌, List, length, Some, None, Option, Result, nat_le}
use Rattle.std.specs.Option.{option_map}
use Rattle.std.specs.Result.{result_ok}
use Rattle.few.specs.Few.{held}
use Rattle.vocabulary.specs.declared.octets.Octets.{Octets}

-- What is meant: the list of the octets.
abbrev pub octets_of : {N : ℕ} → Octets N → List ℕ
octets_of o = held o.octets

-- There are 1 to n octets.
abbrev pub in_size : ℕ → List ℕ → Bool
in_size n xs = nat_le 1 (length xs) && nat_le (length xs) n

-- These octets if there are 1 to n of them, else none.
abbrev pub sized : ℕ → List ℕ → Option (List ℕ)
sized n xs = cond (in_size n xs) (Some xs) None

-- What octets are converted to: themselves, and an error exactly if there are not 1 to n of them.
abbrev pub Sized : {E : Type 0} (n : ℕ) {N : ℕ} → List ℕ → Result (Octets N) E → Type 0
Sized n xs r = option_map octets_of (result_ok r) ≡ sized n xs
