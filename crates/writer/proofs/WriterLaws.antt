-- What a writer holds after one bit more, and after several.
use Rattle.std.proofs.Common.{◌≡◌, ℕ, suc, ◌+◌, ◌-◌, ◌*◌, ◌/◌, ◌%◌, ◌^◌, ◌<◌, ◌≤◌, min, List, [], ◌∷◌, ◌++◌, length, take, drop, set, sym, ap, ◌∙◌, subst, append_assoc, append-nil, pow-suc, add-one, arith, length-append, length-drop, length-take-le, drop-drop}
use Rattle.std.proofs.lemmas.Nat.{shr-shr}
use Rattle.std.proofs.lemmas.List.{take_more_set, take-set, drop-set-add}
use Rattle.bits.specs.Bits.{field, bits_of}
use Rattle.bits.proofs.BitLaws.{length_field, length_bits_of, bits_of_append}
use Rattle.wire.specs.declared.kind.Kind.{Kind}
use Rattle.writer.specs.Drafts.{room}
use Rattle.writer.specs.Encoding.{packed}
use Rattle.writer.specs.Writers.{written, Room, Adds}
use Rattle.writer.specs.declared.writer.Writer.{Writer}

pub field_push : (n v b : ℕ) → b < 2 → field (n + 1) (v * 2 + b) ≡ field n v ++ b ∷ []
field_push n v b h =
    let q : (v * 2 + b) / 2 ≡ v = omega arith in
    let r : (v * 2 + b) % 2 ≡ b = omega arith in
    ap (λ k. field k (v * 2 + b)) (add-one n) ∙ (λ i. field n (q i) ++ (r i ∷ []))

pub fits_push : (n v b : ℕ) → b < 2 → v < 2 ^ n → v * 2 + b < 2 ^ (n + 1)
fits_push n v b h l = omega (arith, ap (λ k. 2 ^ k) (add-one n), pow-suc 2 n)

-- what one more octet leaves of those before it, and where it stands
module _ (s : List ℕ) (full o : ℕ) where
  pub before_set : take full (drop 2 (set s (2 + full) o)) ≡ take full (drop 2 s)
  before_set = ap (take full) (drop-set-add 2 s full o) ∙ take-set (drop 2 s) full o

  pub with_set : 2 + full < length s → take (full + 1) (drop 2 (set s (2 + full) o)) ≡ take full (drop 2 s) ++ o ∷ []
  with_set l = ap (take (full + 1)) (drop-set-add 2 s full o) ∙ take_more_set (drop 2 s) full o (omega (arith, length-drop 2 s))

module _ (v b : ℕ) (h : b < 2) where
  -- the bit waits
  pub waits : (ys : List ℕ) (n : ℕ) → bits_of ys ++ field (n + 1) (v * 2 + b) ≡ (bits_of ys ++ field n v) ++ b ∷ []
  waits ys n = ap (λ l. bits_of ys ++ l) (field_push n v b h) ∙ sym (append_assoc (bits_of ys) (field n v) (b ∷ []))

  -- the octet is full
  pub fills : (xs : List ℕ) (full n : ℕ) → n ≡ 7 → 2 + full < length xs →
      bits_of (take (full + 1) (drop 2 (set xs (2 + full) (v * 2 + b)))) ++ field 0 0 ≡ (bits_of (take full (drop 2 xs)) ++ field n v) ++ b ∷ []
  fills xs full n e l =
      append-nil _
      ∙ ap bits_of (with_set xs full (v * 2 + b) l)
      ∙ bits_of_append (take full (drop 2 xs)) ((v * 2 + b) ∷ [])
      ∙ ap (λ x. bits_of (take full (drop 2 xs)) ++ x) (append-nil (field 8 (v * 2 + b)) ∙ ap (λ k. field (k + 1) (v * 2 + b)) (sym e))
      ∙ waits (take full (drop 2 xs)) n

pub length_written : (w : Writer) → length (written w) ≡ 8 * w.full + w.count
length_written w =
    let s = drop 2 w.octets.now in
    length-append (bits_of (take w.full s)) (field w.count w.waiting)
    ∙ omega (arith, length_bits_of (take w.full s), length-take-le w.full s (omega (arith, w.lies, length-drop 2 w.octets.now)), length_field w.count w.waiting)

pub further : (k n : ℕ) (xs ys : List ℕ) → k ≤ n → drop k xs ≡ drop k ys → drop n xs ≡ drop n ys
further k n xs ys h e =
    let m : k + (n - k) ≡ n = omega arith in
    ap (λ x. drop x xs) (sym m) ∙ sym (drop-drop (n - k) k xs) ∙ ap (drop (n - k)) e ∙ drop-drop (n - k) k ys ∙ ap (λ x. drop x ys) m

pub adds_both : (w w₁ w₂ : Writer) (xs bs cs : List ℕ) → Adds w xs w₁ → Adds w₁ bs w₂ → xs ++ bs ≡ cs → Adds w cs w₂
adds_both w w₁ w₂ xs bs cs a b e = record {
  sender = b.sender ∙ a.sender;
  trip = b.trip ∙ a.trip;
  bits = b.bits ∙ ap (λ l. l ++ bs) a.bits ∙ append_assoc (written w) xs bs ∙ ap (λ l. written w ++ l) e;
  size = b.size ∙ a.size;
  lender = b.lender ∙ a.lender;
  on = omega (arith, a.on, b.on);
  front = b.front ∙ a.front;
  behind = b.behind ∙ further (2 + w₁.full) (2 + w₂.full) w₁.octets.now w.octets.now (omega (arith, b.on)) a.behind;
}

pub adds_same : (w w₁ : Writer) (xs ys : List ℕ) → Adds w xs w₁ → xs ≡ ys → Adds w ys w₁
adds_same w w₁ xs ys a e = subst (λ l. Adds w l w₁) e a

-- what a part leaves for the next part
pub room_after : (w w₁ : Writer) (xs : List ℕ) (n m : ℕ) → Adds w xs w₁ → Room w n → length xs + m ≤ n → Room w₁ m
room_after w w₁ xs n m a r h =
    let e : room w₁.octets.now ≡ room w.octets.now = ap (λ k. min k 255 - 2) a.size in
    omega (arith, ap length a.bits, length-append (written w) xs, e)

-- one bit more of a number
pub field_more : (n k v : ℕ) → 0 < k → k ≤ n → field (n - k) (v / 2 ^ k) ++ (v / 2 ^ (k - 1) % 2 ∷ []) ≡ field (n - (k - 1)) (v / 2 ^ (k - 1))
field_more n k v some h =
    let e : suc (n - k) ≡ n - (k - 1) = omega arith in
    let last : (k - 1) + 1 ≡ k = omega arith in
    let half : v / 2 ^ (k - 1) / 2 ≡ v / 2 ^ k = shr-shr v (k - 1) 1 ∙ ap (λ j. v / 2 ^ j) last in
    ap (λ x. field (n - k) x ++ (v / 2 ^ (k - 1) % 2 ∷ [])) (sym half) ∙ ap (λ m. field m (v / 2 ^ (k - 1))) e

-- a known packet has 21 bits and those of its fields
pub packed_size : (trip : ℕ) (k : Kind) (w1 v1 w2 v2 : ℕ) → length (packed trip k (field w1 v1 ++ field w2 v2)) ≡ 21 + (w1 + w2)
packed_size trip k w1 v1 w2 v2 = omega (arith, length-append (field w1 v1) (field w2 v2), length_field w1 v1, length_field w2 v2)
