-- How a number names a case of an enum.
use Rattle.std.specs.Prelude.{◌≡◌, ℕ, cond, List, [], ◌∷◌, Some, None, Option, Result, ◌==◌}
use Rattle.std.specs.Result.{result_ok}

-- The case that has this number, of these cases; none if no case has it.
abbrev pub case_of : {C : Type 0} → (C → ℕ) → List C → ℕ → Option C
case_of number [] n = None
case_of number (c ∷ cs) n = cond (number c == n) (Some c) (case_of number cs n)

-- An answer names the case with the number n, in both directions: a case that it gives has that
-- number, and a case that has that number is given.
pub record Names {C : Type 0} (number : C → ℕ) (n : ℕ) (r : Option C) : Type 0 where
  pub right : (c : C) → r ≡ Some c → number c ≡ n
  pub found : (c : C) → number c ≡ n → r ≡ Some c

-- What a number is converted to: the case that has it, of these cases, and an error exactly if no case has it.
pub record Numbered {C E : Type 0} (number : C → ℕ) (cases : List C) (n : ℕ) (r : Result C E) : Type 0 where
  pub value : result_ok r ≡ case_of number cases n
  pub names : Names number n (result_ok r)
