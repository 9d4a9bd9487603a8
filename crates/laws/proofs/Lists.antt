-- Open orders along events, and sums.
use Rattle.std.proofs.Common.{◌≡◌, ℕ, zero, suc, ◌+◌, ◌<◌, ◌≤◌, true, cond, eqb, ◌↔◌, List, [], ◌∷◌, ◌++◌, length, get_or, sum_by, Option, refl, ap, arith}
use lib.Dec.{eqb-zero-suc}
use Rattle.std.proofs.lemmas.List.Sums.{sum_by-cons}
use Rattle.vocabulary.specs.declared.order.Order.{Order}
use Rattle.laws.specs.Events.{Event}
use Rattle.laws.specs.OpenOrders.{Open, next, open_from, is_open, taken, answered, followed, failed, voided, along, is_tick}
use Rattle.laws.specs.Lawful.{ForTime, Due, total}

-- events one behind the other
pub open_append : (s : Option Open) (es fs : List Event) → open_from s (es ++ fs) ≡ open_from (open_from s es) fs
open_append s [] fs = refl
open_append s (e ∷ es) fs = open_append (next s e) es fs

pub along_append : (f : Option Open → Event → ℕ) (s : Option Open) (es fs : List Event) → along f s (es ++ fs) ≡ along f s es + along f (open_from s es) fs
along_append f s [] fs = omega arith
along_append f s (e ∷ es) fs = omega (arith, along_append f (next s e) es fs)

-- the law of time at one event, by the order counted along
abbrev pub AtEvent : (Order → ℕ) → Option Open → Event → Type 0
AtEvent lim s e = ForTime e.fails ↔ ((is_tick e.what ≡ true) × Due lim s)

abbrev pub Timely : (Order → ℕ) → Option Open → List Event → Type 0
Timely lim s [] = Unit {0}
Timely lim s (e ∷ es) = AtEvent lim s e × Timely lim (next s e) es

pub timely_append : (lim : Order → ℕ) (s : Option Open) (es fs : List Event) → Timely lim s es → Timely lim (open_from s es) fs → Timely lim s (es ++ fs)
timely_append lim s [] fs a b = b
timely_append lim s (e ∷ es) fs a b = (a.0, timely_append lim (next s e) es fs a.1 b)

pub timely_at : (lim : Order → ℕ) (s : Option Open) (es fs : List Event) (e : Event) → Timely lim s (es ++ (e ∷ fs)) → AtEvent lim (open_from s es) e
timely_at lim s [] fs e a = a.0
timely_at lim s (x ∷ es) fs e a = timely_at lim (next s x) es fs e a.1

-- each order taken is closed once, or still open
one : (s : Option Open) (e : Event) → taken s e + is_open s ≡ (((answered s e + followed s e) + failed s e) + voided s e) + is_open (next s e)
one s e = grind arith

pub each_once : (s : Option Open) (es : List Event) → along taken s es + is_open s ≡ (((along answered s es + along followed s es) + along failed s es) + along voided s es) + is_open (open_from s es)
each_once s [] = omega arith
each_once s (e ∷ es) = omega (arith, one s e, each_once (next s e) es)

-- sums over the units
pub total_same : (n : ℕ) (f g : ℕ → ℕ) → ((i : ℕ) → i < n → f i ≡ g i) → total n f ≡ total n g
total_same zero f g h = refl
total_same (suc n) f g h = let ih = total_same n (λ i. f (suc i)) (λ i. g (suc i)) (λ i k. h (suc i) (omega arith)) in grind arith

pub total_plus : (n : ℕ) (f g : ℕ → ℕ) → total n (λ i. f i + g i) ≡ total n f + total n g
total_plus zero f g = refl
total_plus (suc n) f g = omega (arith, total_plus n (λ i. f (suc i)) (λ i. g (suc i)))

pub total_none : (n : ℕ) (f : ℕ → ℕ) → ((i : ℕ) → i < n → f i ≡ 0) → total n f ≡ 0
total_none zero f h = refl
total_none (suc n) f h = let ih = total_none n (λ i. f (suc i)) (λ i k. h (suc i) (omega arith)) in grind arith

pub total_list : {A : Type 0} (g : A → ℕ) (d : A) (xs : List A) → total (length xs) (λ i. g (get_or xs i d)) ≡ sum_by g xs
total_list g d [] = refl
total_list g d (x ∷ xs) = omega (arith, total_list g d xs, sum_by-cons g x xs)

pub total_le : (n : ℕ) (f g : ℕ → ℕ) → ((i : ℕ) → i < n → f i ≤ g i) → total n f ≤ total n g
total_le zero f g h = omega arith
total_le (suc n) f g h = let ih = total_le n (λ i. f (suc i)) (λ i. g (suc i)) (λ i k. h (suc i) (omega arith)) in grind arith

zeros : (n v : ℕ) → total n (λ i. cond (eqb 0 (suc i)) v 0) ≡ 0
zeros n v = total_none n (λ i. cond (eqb 0 (suc i)) v 0) (λ i k. ap (λ b. cond b v 0) (eqb-zero-suc i))

pub total_at : (n x v : ℕ) → x < n → total n (λ i. cond (eqb x i) v 0) ≡ v
total_at zero x v h = omega arith
total_at (suc n) zero v h = omega (arith, zeros n v)
total_at (suc n) (suc x) v h = let ih = total_at n x v (omega arith) in grind arith
