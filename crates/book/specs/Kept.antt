-- What is kept passed the test, and was there.
use Rattle.std.specs.Prelude.{◌≡◌, Bool, true, Some, Option}
use Rattle.std.proofs.Common.{arith}
use Rattle.book.specs.Orders.{kept}

pub kept_some : {X : Type 0} (test : X → Bool) (r : Option X) (x : X) → kept test r ≡ Some x → (r ≡ Some x) × (test x ≡ true)
kept_some test r x e = grind arith
