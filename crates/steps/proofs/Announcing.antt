-- What a call announces is announced to the unit with that number, and to no other.
use Rattle.std.proofs.Common.{◌≡◌, ℕ, zero, suc, eqb, refl, arith}
use Rattle.std.proofs.lemmas.Bool.Decides.{nat_tests}
use Rattle.steps.specs.Calls.{announced_by}
use Rattle.steps.specs.Views.{is_announced}

pub announced_is : (n number : ℕ) → is_announced (announced_by n) number ≡ eqb n number
announced_is zero zero = refl
announced_is zero (suc k) = grind (arith, nat_tests)
announced_is (suc n) number = grind (arith, nat_tests)
