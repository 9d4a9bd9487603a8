-- How octets are read as a message.
use Rattle.std.proofs.Common.{◌≡◌, ℕ, ◌-◌, ◌*◌, ◌≤◌, List, length, get_or, take, drop, None, sym, ap, ◌∙◌, arith, length-drop, length-take-le}
use Rattle.std.proofs.lemmas.List.{drop_all, take_all}
use Rattle.std.proofs.lemmas.Bool.{cond_both, ltb-false, eqb-true, leb-false}
use Rattle.bits.specs.Bits.{bits_of, stretch}
use Rattle.bits.proofs.BitLaws.{length_bits_of, stretch_lies}
use Rattle.wire.specs.Messages.{body_bits, size_fault}

-- the length of a message is right
pub record Sized (s : List ℕ) : Type 0 where
  pub least : 5 ≤ length s
  pub most : length s ≤ 255
  pub stated : get_or s 1 0 ≡ length s

pub sized : (s : List ℕ) → size_fault s ≡ None → Sized s
sized s =
    cond_both _ _ _ (λ f. f ≡ None → Sized s) (λ _ h. cc)
    (λ a. cond_both _ _ _ (λ f. f ≡ None → Sized s) (λ _ h. cc)
    (λ b. cond_both _ _ _ (λ f. f ≡ None → Sized s)
    (λ e _. record { least = ltb-false _ _ a; most = ltb-false _ _ b; stated = eqb-true _ _ e })
    (λ _ h. cc)))

-- the first of the bits that are left stand in the message's octets
module _ (s : List ℕ) (at n : ℕ) (bs : List ℕ) (e : bs ≡ drop at (bits_of s)) (within : n ≤ length bs) where
  bits_left : length bs ≡ 8 * length s - at
  bits_left = ap length e ∙ length-drop at (bits_of s) ∙ ap (λ k. k - at) (length_bits_of s)

  pub stands : (ps : List ℕ) → 1 ≤ n → ps ≡ take n bs → stretch s at (length ps) ≡ ps
  stands ps one f =
      let long : length ps ≡ n = ap length f ∙ length-take-le n bs within in
      ap (stretch s at) long ∙ stretch_lies s at n (omega (arith, bits_left)) ∙ ap (take n) (sym e) ∙ sym f

-- the bits behind the first two octets
pub body_is : (s : List ℕ) (n : ℕ) → n ≡ 8 * length s - 16 → stretch s 16 n ≡ body_bits s
body_is s n e =
    cond_both _ _ _ (λ bs. bs ≡ body_bits s)
    (λ _. take_all n (drop 16 (bits_of s)) (omega (arith, length-drop 16 (bits_of s), length_bits_of s)))
    (λ b. sym (drop_all 16 (bits_of s) (omega (arith, leb-false _ _ b, length_bits_of s))))
