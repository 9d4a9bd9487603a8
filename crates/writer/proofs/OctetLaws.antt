-- Bits and the octets that they fill.
use Rattle.std.proofs.Common.{◌≡◌, ℕ, zero, suc, ◌+◌, ◌-◌, ◌*◌, ◌/◌, ◌%◌, ◌^◌, ◌<◌, ◌≤◌, true, List, [], ◌∷◌, ◌++◌, length, replicate, sym, refl, ap, ◌∙◌, append_assoc, append-nil, add-zero, add-suc, mul_assoc, pow-suc, mul-one, add-one, arith, length-append}
use Rattle.std.specs.List.{AllByRecursion}
use Rattle.std.proofs.lemmas.Nat.{shl_below}
use Rattle.std.proofs.ByRecursion.{All-append}
use Rattle.std.proofs.lemmas.List.{replicate_more, replicate-append-replicate}
use Rattle.std.proofs.lemmas.Bool.{and_parts, and_from, ltb-true, lt-ltb}
use Rattle.bits.specs.Bits.{field, bits_of}
use Rattle.bits.proofs.BitLaws.{number_field, bits_of_append}
use Rattle.writer.specs.Drafts.{are_octets, octets_in}

abbrev pub Octets : List ℕ → Type 0
Octets s = AllByRecursion (λ o. o < 256) s

pub octets_all : (s : List ℕ) → are_octets s ≡ true → Octets s
octets_all [] h = tt
octets_all (o ∷ os) h = let p = and_parts _ _ h in (ltb-true o 256 p.0, octets_all os p.1)

pub all_octets : (s : List ℕ) → Octets s → are_octets s ≡ true
all_octets [] a = refl
all_octets (o ∷ os) a = and_from _ _ (lt-ltb o 256 a.0) (all_octets os a.1)

-- one octet more
pub octets_push : (s s' : List ℕ) (o : ℕ) → s' ≡ s ++ o ∷ [] → are_octets s ≡ true → o < 256 → are_octets s' ≡ true
octets_push s s' o e a h = ap are_octets e ∙ all_octets (s ++ o ∷ []) (All-append (λ y. y < 256) s (o ∷ []) (octets_all s a) (h, tt))

-- octets are those that their bits fill
pub octets_back : (m rest : List ℕ) → Octets m → octets_in (length m) (bits_of m ++ rest) ≡ m
octets_back [] rest a = refl
octets_back (o ∷ os) rest a = λ i. number_field 8 o a.0 i ∷ octets_back os rest a.1 i

-- zeros behind a number's bits
pub zeros_behind : (k n v : ℕ) → field (n + k) (v * 2 ^ k) ≡ field n v ++ replicate k 0
zeros_behind zero n v = (λ i. field (add-zero n i) (mul-one v i)) ∙ sym (append-nil (field n v))
zeros_behind (suc k) n v =
    let e : v * 2 ^ suc k ≡ v * 2 ^ k * 2 = ap (λ p. v * p) (pow-suc 2 k) ∙ sym (mul_assoc v (2 ^ k) 2) in
    let q : v * 2 ^ k * 2 / 2 ≡ v * 2 ^ k = omega arith in
    let r : v * 2 ^ k * 2 % 2 ≡ 0 = omega arith in
    (λ i. field (add-suc n k i) (e i))
    ∙ (λ i. field (n + k) (q i) ++ (r i ∷ []))
    ∙ ap (λ l. l ++ (0 ∷ [])) (zeros_behind k n v)
    ∙ append_assoc (field n v) (replicate k 0) (0 ∷ [])
    ∙ ap (λ l. field n v ++ l) (replicate_more k 0 ∙ ap (λ j. replicate j 0) (add-one k))

-- some bits of an octet, filled up
module _ (c v : ℕ) (a : 1 ≤ c) (b : c < 8) (h : v < 2 ^ c) where
  pub filled_small : v * 2 ^ (8 - c) < 256
  filled_small = let e : c + (8 - c) ≡ 8 = omega arith in omega (arith, shl_below v c (8 - c) h, ap (λ k. 2 ^ k) e)

  pub filled_bits : field c v ++ replicate 7 0 ≡ field 8 (v * 2 ^ (8 - c)) ++ replicate (c - 1) 0
  filled_bits =
      let e : c + (8 - c) ≡ 8 = omega arith in
      let f : (8 - c) + (c - 1) ≡ 7 = omega arith in
      ap (λ l. field c v ++ l) (ap (λ k. replicate k 0) (sym f) ∙ sym (replicate-append-replicate (8 - c) (c - 1) 0))
      ∙ sym (append_assoc (field c v) (replicate (8 - c) 0) (replicate (c - 1) 0))
      ∙ ap (λ l. l ++ replicate (c - 1) 0) (sym (zeros_behind (8 - c) c v) ∙ ap (λ k. field k (v * 2 ^ (8 - c))) e)

  pub octets_filled : (m : List ℕ) → Octets m → octets_in (length m + 1) (bits_of m ++ (field c v ++ replicate 7 0)) ≡ m ++ (v * 2 ^ (8 - c)) ∷ []
  octets_filled m o =
      let x = v * 2 ^ (8 - c) in
      let all = m ++ x ∷ [] in
      let rest = replicate (c - 1) 0 in
      ap (λ l. octets_in (length m + 1) (bits_of m ++ l)) filled_bits
      ∙ ap (octets_in (length m + 1)) (sym (append_assoc (bits_of m) (field 8 x) rest) ∙ ap (λ l. l ++ rest) (ap (λ l. bits_of m ++ l) (sym (append-nil (field 8 x))) ∙ sym (bits_of_append m (x ∷ []))))
      ∙ ap (λ n. octets_in n (bits_of all ++ rest)) (sym (length-append m (x ∷ [])))
      ∙ octets_back all rest (All-append (λ y. y < 256) m (x ∷ []) o (filled_small, tt))
