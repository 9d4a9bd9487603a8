-- Units, by their numbers and by their places.
use Rattle.std.proofs.Common.{◌≡◌, ◌≢◌, ℕ, zero, suc, ◌+◌, ◌<◌, Bool, true, false, ◌||◌, eqb, List, [], ◌∷◌, ◌++◌, length, get_or, None, sym, refl, ap, arith}
use Rattle.std.proofs.lemmas.Bool.Decides.{nat_tests}
use Rattle.std.proofs.lemmas.List.Folds.{list_any-append, list_any_at}
use Rattle.vocabulary.specs.Rules.{among, wrong_from, wrong_number}
use Rattle.steps.specs.Setups.{place_in}

-- the numbers of the settings are different
abbrev pub Distinct : List ℕ → Type 0
Distinct ns = (i j : ℕ) → i < length ns → j < length ns → get_or ns i 0 ≡ get_or ns j 0 → i ≡ j

pub eq_yes : (i : ℕ) → eqb i i ≡ true
eq_yes i = grind arith

pub same_num : (i j : ℕ) → eqb i j ≡ true → i ≡ j
same_num i j e = grind arith

pub apart : (i j : ℕ) → eqb i j ≡ false → i ≡ j → ⊥
apart i j e q = grind arith

pub or_l : (x y : Bool) → (x || y) ≡ false → x ≡ false
or_l x y e = grind arith

pub or_r : (x y : Bool) → (x || y) ≡ false → y ≡ false
or_r x y e = grind arith

among_push : (x n : ℕ) (e : List ℕ) → among x (e ++ n ∷ []) ≡ false → (among x e ≡ false) × (n ≢ x)
among_push x n e h = let a = list_any-append (λ m. eqb m x) e (n ∷ []) in grind (arith, nat_tests)

record Different (e ns : List ℕ) : Type 0 where
  new : (i : ℕ) → i < length ns → among (get_or ns i 0) e ≡ false
  distinct : Distinct ns

different_cons : (e : List ℕ) (n : ℕ) (ns : List ℕ) → among n e ≡ false → Different (e ++ n ∷ []) ns → Different e (n ∷ ns)
different_cons e n ns h d = record { new = new; distinct = dist }
  where
    new : (i : ℕ) → i < length (n ∷ ns) → among (get_or (n ∷ ns) i 0) e ≡ false
    new zero k = h
    new (suc i) k = (among_push (get_or ns i 0) n e (d.new i (omega arith))).0

    dist : Distinct (n ∷ ns)
    dist zero zero a b q = refl
    dist zero (suc j) a b q = absurd ((among_push (get_or ns j 0) n e (d.new j (omega arith))).1 q)
    dist (suc i) zero a b q = absurd ((among_push (get_or ns i 0) n e (d.new i (omega arith))).1 (sym q))
    dist (suc i) (suc j) a b q = ap suc (d.distinct i j (omega arith) (omega arith) q)

different : (e ns : List ℕ) (place : ℕ) → wrong_from e ns place ≡ None → Different e ns
different e [] place h = grind arith
different e (n ∷ ns) place h = let ih = different (e ++ n ∷ []) ns (place + 1) in different_cons e n ns (grind arith) (ih (grind arith))

pub distinct : (ns : List ℕ) → wrong_number ns ≡ None → Distinct ns
distinct ns h = (different [] ns 1 h).distinct

-- the place of a number that is there
pub record Placed (ns : List ℕ) (n : ℕ) : Type 0 where
  pub inside : place_in ns n < length ns
  pub number : get_or ns (place_in ns n) 0 ≡ n

pub placed : (ns : List ℕ) (n : ℕ) → among n ns ≡ true → Placed ns n
placed [] n h = grind arith
placed (m ∷ ms) n h = let ih = placed ms n in grind (arith, nat_tests)

pub among_at : (ns : List ℕ) (i : ℕ) → i < length ns → among (get_or ns i 0) ns ≡ true
among_at ns i h = list_any_at (λ m. eqb m (get_or ns i 0)) ns i 0 h (eq_yes (get_or ns i 0))

-- by number, and by place
pub same_place : (ns : List ℕ) → Distinct ns → (n i : ℕ) → among n ns ≡ true → i < length ns → eqb n (get_or ns i 0) ≡ eqb (place_in ns n) i
same_place ns dist n i h k = let p = placed ns n h in let d = dist (place_in ns n) i p.inside k in grind (arith, nat_tests)
