-- Tests and answers.
use Rattle.std.specs.Prelude.{◌≡◌, Bool, true, false, not, ◌&&◌, ◌⊎◌, Some, None, Option, ◌≢◌}
use Rattle.std.proofs.Common.{arith}
use Rattle.std.specs.Option.{option_or}
use Rattle.std.specs.Bool.{then_some}
use Rattle.book.specs.Orders.{kept}
pub use Rattle.book.specs.Kept.{kept_some}

-- tests
pub differ : false ≡ true → ⊥
differ e = grind arith

pub untrue : (b : Bool) → (b ≢ true) → b ≡ false
untrue b n = grind arith

pub and_true : (a b : Bool) → (a && b) ≡ true → (a ≡ true) × (b ≡ true)
and_true a b e = grind arith

pub and_false : (a b : Bool) → (a && b) ≡ false → (a ≡ false) ⊎ (b ≡ false)
and_false a b e = grind arith

pub and_right : (a b : Bool) → b ≡ false → (a && b) ≡ false
and_right a b e = grind arith

pub all_true : {a b c : Bool} → a ≡ true → b ≡ true → c ≡ true → (a && (b && c)) ≡ true
all_true p q r = grind arith

pub when_true : {X : Type 0} (b : Bool) (x : X) (y : Option X) → b ≡ true → option_or (then_some b x) y ≡ Some x
when_true b x y e = grind arith

pub not_true : (b : Bool) → not b ≡ true → b ≡ false
not_true b e = grind arith

pub not_false : (b : Bool) → not b ≡ false → b ≡ true
not_false b e = grind arith

pub none_some : {X : Type 0} {x : X} → ◌≡◌ {A = Option X} None (Some x) → ⊥
none_some e = grind arith

pub same_some : {X : Type 0} {x y : X} → ◌≡◌ {A = Option X} (Some x) (Some y) → x ≡ y
same_some e = cc

-- what was there and passes the test is kept; `kept_some` is the other way
pub some_kept : {X : Type 0} (test : X → Bool) (r : Option X) (x : X) → r ≡ Some x → test x ≡ true → kept test r ≡ Some x
some_kept test r x e t = grind arith
