-- The laws of bits and of the numbers that they write.
use Rattle.std.proofs.Common.{◌≡◌, ℕ, zero, suc, ◌+◌, ◌-◌, ◌*◌, ◌/◌, ◌%◌, ◌^◌, ◌<◌, ◌≤◌, List, [], ◌∷◌, ◌++◌, length, get_or, take, drop, Some, sym, refl, ap, ◌∙◌, subst, ⊎_elim, append_assoc, append-nil, add-zero, add-suc, suc-add, pow-suc, zero-add, arith, pow_mono, length-append, length-drop, length-take-le, get_or-drop, take-take, drop-drop, drop-cons}
use Rattle.std.proofs.str.Laws.{order}
use Rattle.std.proofs.lemmas.List.{get_or_append_left, get_or-append_right, get_or-take, get_or_past, drop-take, take_rest}
use Rattle.std.specs.Int.Digits.{number_from_digits, number_from_digits_after, AllBelowBase}
use Rattle.std.proofs.lemmas.Int.Digits.{number_push, number_lt, number_after_ge}
use Rattle.std.proofs.ByRecursion.{All-append, All-take, All-drop}
use Rattle.std.proofs.lemmas.Bool.{cond-true, cond_both, le-leb, leb-true}
use Rattle.bits.specs.Bits.{field, bits_of, value_at, stretch, window_at}

pub length_field : (n v : ℕ) → length (field n v) ≡ n
length_field zero v = refl
length_field (suc n) v = length-append (field n (v / 2)) _ ∙ omega (arith, length_field n (v / 2))

pub length_bits_of : (s : List ℕ) → length (bits_of s) ≡ 8 * length s
length_bits_of [] = refl
length_bits_of (o ∷ os) = omega (arith, length_bits_of os)

pub under_field : (n v : ℕ) → AllBelowBase 2 (field n v)
under_field zero v = tt
under_field (suc n) v = All-append (λ d. d < 2) (field n (v / 2)) _ (under_field n (v / 2)) (omega arith, tt)

pub under_bits_of : (s : List ℕ) → AllBelowBase 2 (bits_of s)
under_bits_of [] = tt
under_bits_of (o ∷ os) = All-append (λ d. d < 2) (field 8 o) _ (under_field 8 o) (under_bits_of os)

-- a number is what its bits write
pub number_field : (n v : ℕ) → v < 2 ^ n → number_from_digits 2 (field n v) ≡ v
number_field zero v h = omega arith
number_field (suc n) v h =
    let b : v < 2 * 2 ^ n = omega (arith, pow-suc 2 n) in
    number_push 2 (field n (v / 2)) (v % 2) ∙ omega (arith, number_field n (v / 2) (omega arith))

-- bits are those of the number that they write
field_after : (n a : ℕ) (bs : List ℕ) → AllBelowBase 2 bs → field (n + length bs) (number_from_digits_after 2 a bs) ≡ field n a ++ bs
field_after n a [] u = rw (add-zero, append-nil) refl
field_after n a (b ∷ bs) u =
    let q : (a * 2 + b) / 2 ≡ a = omega (arith, u.0) in
    let r : (a * 2 + b) % 2 ≡ b = omega (arith, u.0) in
    let last : field (suc n) (a * 2 + b) ++ bs ≡ field n a ++ b ∷ bs = rw (q, r) (append_assoc (field n a) (b ∷ []) bs) in
    subst (λ k. field k (number_from_digits_after 2 (a * 2 + b) bs) ≡ field n a ++ b ∷ bs) (suc-add n (length bs) ∙ sym (add-suc n (length bs))) (field_after (suc n) (a * 2 + b) bs u.1 ∙ last)

pub field_number : (n : ℕ) (bs : List ℕ) → AllBelowBase 2 bs → length bs ≡ n → field n (number_from_digits 2 bs) ≡ bs
field_number n bs u e = subst (λ k. field k (number_from_digits 2 bs) ≡ bs) (zero-add (length bs) ∙ e) (field_after 0 0 bs u)

bit_in : (o r : ℕ) → r < 8 → o / 2 ^ (7 - r) % 2 ≡ get_or (field 8 o) r 0
bit_in o zero h = omega arith
bit_in o (suc zero) h = omega arith
bit_in o (suc (suc zero)) h = omega arith
bit_in o (suc (suc (suc zero))) h = omega arith
bit_in o (suc (suc (suc (suc zero)))) h = omega arith
bit_in o (suc (suc (suc (suc (suc zero))))) h = omega arith
bit_in o (suc (suc (suc (suc (suc (suc zero)))))) h = omega arith
bit_in o (suc (suc (suc (suc (suc (suc (suc zero))))))) h = omega arith
bit_in o (suc (suc (suc (suc (suc (suc (suc (suc r)))))))) h = absurd (omega arith)

-- the bit at a place, as the code takes it from its octet
pub bit_at : (s : List ℕ) (i : ℕ) → i < 8 * length s → get_or s (i / 8) 0 / 2 ^ (7 - i % 8) % 2 ≡ get_or (bits_of s) i 0
bit_at [] i h = absurd (omega arith)
bit_at (o ∷ os) i h =
    ⊎_elim
    (λ lt. let q : i / 8 ≡ 0 = omega arith in
    let r : i % 8 ≡ i = omega arith in
    rw (q, r) (bit_in o i lt ∙ sym (get_or_append_left (field 8 o) (bits_of os) 0 i lt)))
    (λ ge. let q : i / 8 ≡ suc ((i - 8) / 8) = omega arith in
    let r : i % 8 ≡ (i - 8) % 8 = omega arith in
    let less : i - 8 < 8 * length os = omega arith in
    rw (q, r) (bit_at os (i - 8) less ∙ sym (get_or-append_right (field 8 o) (bits_of os) 8 i 0 refl ge)))
    (order i 8)

pub bits_of_append : (xs ys : List ℕ) → bits_of (xs ++ ys) ≡ bits_of xs ++ bits_of ys
bits_of_append [] ys = refl
bits_of_append (x ∷ xs) ys = ap (λ l. field 8 x ++ l) (bits_of_append xs ys) ∙ sym (append_assoc (field 8 x) (bits_of xs) (bits_of ys))

drop_none : (n : ℕ) → drop {A = ℕ} n [] ≡ []
drop_none zero = refl
drop_none (suc n) = refl

pub bits_of_drop : (n : ℕ) (xs : List ℕ) → bits_of (drop n xs) ≡ drop (8 * n) (bits_of xs)
bits_of_drop zero xs = refl
bits_of_drop (suc n) [] = sym (drop_none (8 * suc n))
bits_of_drop (suc n) (x ∷ xs) =
    let e : 8 + 8 * n ≡ 8 * suc n = omega arith in
    bits_of_drop n xs ∙ drop-drop (8 * n) 8 (field 8 x ++ bits_of xs) ∙ ap (λ k. drop k (bits_of (x ∷ xs))) e

-- a part of a part
pub front : (bs : List ℕ) (at n end : ℕ) → at + n ≤ end → take n (drop at (take end bs)) ≡ take n (drop at bs)
front bs at n end h =
    let e : at + (end - at) ≡ end = omega arith in
    let le : n ≤ end - at = omega arith in
    ap (λ m. take n (drop at (take m bs))) (sym e) ∙ ap (take n) (drop-take at (end - at) bs) ∙ take-take n (end - at) (drop at bs) le

-- a stretch that lies in its octets
module _ (s : List ℕ) (i n : ℕ) (h : i + n ≤ 8 * length s) where
  pub stretch_lies : stretch s i n ≡ take n (drop i (bits_of s))
  stretch_lies = cond-true _ _ _ (le-leb (i + n) (8 * length s) h)

under_get_d : (bs : List ℕ) → AllBelowBase 2 bs → (i : ℕ) → get_or bs i 0 < 2
under_get_d [] u i = omega arith
under_get_d (b ∷ bs) u zero = u.0
under_get_d (b ∷ bs) u (suc i) = under_get_d bs u.1 i

-- a bit is 0 or 1
pub bit_small : (s : List ℕ) (i : ℕ) → get_or (bits_of s) i 0 < 2
bit_small s i = under_get_d (bits_of s) (under_bits_of s) i

-- the bits in a window are those of the stretch that it was made for
pub window_bits : (s : List ℕ) (i n : ℕ) (w : List ℕ) → Some w ≡ window_at s i n → take n (drop (i % 8) (bits_of w)) ≡ stretch s i n
window_bits s i n w =
    let e : 8 * (i / 8) + i % 8 ≡ i = omega arith in
    let all : take n (drop (i % 8) (bits_of (drop (i / 8) s))) ≡ take n (drop i (bits_of s)) =
    ap (λ x. take n (drop (i % 8) x)) (bits_of_drop (i / 8) s) ∙ ap (take n) (drop-drop (i % 8) (8 * (i / 8)) (bits_of s) ∙ ap (λ k. drop k (bits_of s)) e) in
    cond_both _ _ _ (λ o. Some w ≡ o → take n (drop (i % 8) (bits_of w)) ≡ stretch s i n)
    (λ b o. let same : drop (i / 8) s ≡ w = cc in ap (λ x. take n (drop (i % 8) (bits_of x))) (sym same) ∙ all ∙ sym (stretch_lies s i n (leb-true _ _ b)))
    (λ _ o. cc)

-- the numbers that a part of bits writes
pub part_value : (bs : List ℕ) (start n i k : ℕ) → i + k ≤ n → value_at (take n (drop start bs)) i k ≡ value_at bs (start + i) k
part_value bs start n i k l = ap (number_from_digits 2) (front (drop start bs) i k n l ∙ ap (take k) (drop-drop i start bs))

-- bits that lie in octets
module _ (s : List ℕ) (offset n : ℕ) (h : offset + n ≤ 8 * length s) where
  pub length_lying : length (take n (drop offset (bits_of s))) ≡ n
  length_lying = length-take-le n (drop offset (bits_of s)) (omega (arith, length-drop offset (bits_of s), length_bits_of s))

  pub under_lying : AllBelowBase 2 (take n (drop offset (bits_of s)))
  under_lying = All-take (λ d. d < 2) n (drop offset (bits_of s)) (All-drop (λ d. d < 2) offset (bits_of s) (under_bits_of s))

  pub front_lying : (k : ℕ) → k ≤ n → take k (drop offset (bits_of s)) ≡ take k (take n (drop offset (bits_of s)))
  front_lying k l = sym (take-take k n (drop offset (bits_of s)) l)

  pub back_lying : (k q r : ℕ) → k ≤ n → 8 * q + r ≡ offset + k → take (n - k) (drop r (bits_of (take (length s - q) (drop q s)))) ≡ drop k (take n (drop offset (bits_of s)))
  back_lying k q r l e =
      let m : k + (n - k) ≡ n = omega arith in
      ap (λ x. take (n - k) (drop r (bits_of x))) (take_rest s q)
      ∙ ap (λ x. take (n - k) (drop r x)) (bits_of_drop q s)
      ∙ ap (take (n - k)) (drop-drop r (8 * q) (bits_of s) ∙ ap (λ i. drop i (bits_of s)) (e ∙ omega arith) ∙ sym (drop-drop k offset (bits_of s)))
      ∙ sym (drop-take k (n - k) (drop offset (bits_of s)))
      ∙ ap (λ j. drop k (take j (drop offset (bits_of s)))) m

  pub first_lying : 1 ≤ n → take n (drop offset (bits_of s)) ≡ get_or (bits_of s) offset 0 ∷ drop 1 (take n (drop offset (bits_of s)))
  first_lying l =
      let bs = take n (drop offset (bits_of s)) in
      let some : 0 < length bs = omega (arith, length_lying) in
      drop-cons bs 0 0 some ∙ ap (λ b. b ∷ drop 1 bs) (get_or-take n (drop offset (bits_of s)) 0 0 (omega arith) ∙ get_or-drop offset (bits_of s) 0 0 ∙ ap (λ i. get_or (bits_of s) i 0) (add-zero offset))

-- 16 bits write a number of 16 bits, and what is read so far is less
pub narrow : (bs rest : List ℕ) (v b : ℕ) → AllBelowBase 2 bs → length bs ≤ 16 → number_from_digits_after 2 v (b ∷ rest) ≡ number_from_digits 2 bs → v * 2 + b < 2 ^ 16
narrow bs rest v b u l e = omega (arith, number_lt 2 bs u, pow_mono {i = length bs} {j = 16} l, number_after_ge 2 (v * 2 + b) rest)

-- what the code takes from its octets
pub bit_past : (s : List ℕ) (i : ℕ) → length s ≤ i / 8 → get_or (bits_of s) i 0 ≡ 0
bit_past s i h = get_or_past (bits_of s) i 0 (omega (arith, length_bits_of s))

pub window_there : (s : List ℕ) (i n : ℕ) → i + n ≤ 8 * length s → Some (take (length s - i / 8) (drop (i / 8) s)) ≡ window_at s i n
window_there s i n h = ap Some (take_rest s (i / 8)) ∙ sym (cond-true _ _ _ (le-leb _ _ h))

pub value_small : (bs : List ℕ) (v : ℕ) → AllBelowBase 2 bs → v ≡ number_from_digits 2 bs → v < 2 ^ length bs
value_small bs v u e = omega (arith, number_lt 2 bs u)
