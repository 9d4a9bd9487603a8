-- A text read character by character.
use Rattle.std.specs.List.{position, position_or_len}
use Rattle.std.proofs.lemmas.Iterator.{YieldsList}
use Rattle.std.proofs.lemmas.Iterator.Consumers.{YieldsList-turn, YieldsList-end, YieldsList-so_far}
use Rattle.std.specs.Borrow.{Bor}
use Rattle.std.specs.Iterator.{YieldsThen}
use Rattle.std.specs.List.{FoldsTo}
use Rattle.std.specs.Simd.{first_chunks}
use Rattle.std.proofs.lemmas.List.Elements.{All-from_get_or}
use Rattle.std.proofs.lemmas.List.Sums.{fails_before_first}
use Rattle.std.proofs.lemmas.List.Splits.{slice_split_first, slice_split_none}
use Rattle.std.proofs.Common.{◌*◌, take-append-drop, MatchOption, map, ltb-true, ltb-false, Bool, ltb, ◌≡◌, ℕ, zero, suc, ◌+◌, ◌-◌, ◌<◌, ◌≤◌, true, false, cond, eqb, List, [], ◌∷◌, ◌++◌, length, get_or, take, drop, Some, None, Option, sym, refl, ap, ◌∙◌, append_assoc, append-nil, arith, length-append}
use Rattle.std.specs.Option.{option_map, option_and_then}
use Rattle.std.proofs.lemmas.List.{at_drop_more, take_rest, take_all}
use Rattle.script.specs.Text.{first_part, other_parts, parts, add_digit, add_digits, number, octet, octets}
use Rattle.std.proofs.lemmas.Bool.Decides.{nat_tests}
use Rattle.vocabulary.specs.Octets.{sized}
use Rattle.script.specs.Grammar.{numbers}

-- whether a character is a blank
abbrev pub blank : ℕ → Bool
blank c = eqb c 32

-- the first part ends at the first blank, and the others stand behind it
pub cut_at : (xs : List ℕ) (i : ℕ) → Some i ≡ position blank xs → parts xs ≡ take i xs ∷ parts (take (length xs - (i + 1)) (drop (i + 1) xs))
cut_at xs i e = step (ltb (position_or_len blank xs) (length xs)) refl e ∙ ap (λ ys. take i xs ∷ parts ys) (sym (take_rest xs (i + 1)))
  where
    step : (b : Bool) → ltb (position_or_len blank xs) (length xs) ≡ b → Some i ≡ cond b (Some (position_or_len blank xs)) None → parts xs ≡ take i xs ∷ parts (drop (i + 1) xs)
    step true h q =
        let here : i ≡ position_or_len blank xs = cc in
        let inside : position_or_len blank xs < length xs = ltb-true _ _ h in
        rw here (slice_split_first blank xs 0 inside)
    step false h q = cc

-- a text with no blank is one part
pub uncut : (xs : List ℕ) → None ≡ position blank xs → parts xs ≡ xs ∷ []
uncut xs e = step (ltb (position_or_len blank xs) (length xs)) refl e
  where
    step : (b : Bool) → ltb (position_or_len blank xs) (length xs) ≡ b → None ≡ cond b (Some (position_or_len blank xs)) None → parts xs ≡ xs ∷ []
    step true h q = cc
    step false h q =
        let end = ltb-false _ _ h in
        slice_split_none blank xs (All-from_get_or (λ c. blank c ≡ false) xs 0 (λ k l. fails_before_first blank xs k 0 (omega arith)))

-- the parts are the first and the others
pub parted : (xs : List ℕ) → parts xs ≡ first_part xs ∷ other_parts xs
parted [] = refl
parted (c ∷ cs) = step (blank c) refl (parted cs)
  where
    step : (b : Bool) → blank c ≡ b → parts cs ≡ first_part cs ∷ other_parts cs → parts (c ∷ cs) ≡ first_part (c ∷ cs) ∷ other_parts (c ∷ cs)
    step true h e = grind arith
    step false h e = grind arith

-- what is cut off is the first part, and no longer than the text
pub first_of : (xs p : List ℕ) (ps : List (List ℕ)) → parts xs ≡ p ∷ ps → p ≡ first_part xs
first_of xs p ps e = let w = parted xs in cc

pub first_within : (xs : List ℕ) → length (first_part xs) ≤ length xs
first_within [] = omega arith
first_within (c ∷ cs) = step (blank c) refl (first_within cs)
  where
    step : (b : Bool) → blank c ≡ b → length (first_part cs) ≤ length cs → length (first_part (c ∷ cs)) ≤ length (c ∷ cs)
    step true h e = grind arith
    step false h e = grind arith

-- each digit that fits leads on
digits_on : {F : Type 0} (R : F × ℕ → Bor ℕ → F × ℕ → Type 0) → ((p q : F × ℕ) (x : Bor ℕ) → R p x q → add_digit p.1 x.now ≡ Some q.1)
    → (xs : List (Bor ℕ)) (p q : F × ℕ) (ys : List ℕ) → FoldsTo R p xs q → add_digits p.1 (map (λ x. x.now) xs ++ ys) ≡ add_digits q.1 ys
digits_on {F} R k [] p q ys c = ap (λ (v : F × ℕ). add_digits v.1 ys) c
digits_on R k (x ∷ xs) p q ys c = rw (add_digits, k p c.0 x c.1) (digits_on R k xs c.0 q ys c.2)

-- and one that does not ends the number
pub digits_tried : {F S : Type 0} {steps : S → Option (Bor ℕ) → S → Type 0} {s : S} (R : F × ℕ → Bor ℕ → F × ℕ → Type 0)
    → ((p q : F × ℕ) (x : Bor ℕ) → R p x q → add_digit p.1 x.now ≡ Some q.1)
    → (text : List ℕ) → YieldsList steps (λ x. x.now) s text → (xs : List (Bor ℕ)) (o : Option (Bor ℕ)) (p q : F × ℕ) (u : S) (r : Option ℕ)
    (Stop : Bor ℕ → Type 0) → ((x : Bor ℕ) → Stop x → (add_digit q.1 x.now ≡ None) × (r ≡ None))
    → YieldsThen steps s xs o u → FoldsTo R p xs q → MatchOption o (r ≡ Some q.1) Stop → r ≡ add_digits p.1 text
digits_tried R k text e xs None p q u r Stop n y c m =
    let whole = YieldsList-end e xs y.0 y.1 None u refl y.2 in
    m ∙ sym (digits_on R k xs p q [] c) ∙ ap (add_digits p.1) (append-nil _ ∙ whole.0)
digits_tried R k text e xs (Some x) p q u r Stop n y c m =
    let turn = YieldsList-turn e xs y.0 y.1 (Some x) u x refl y.2 in
    let front = YieldsList-so_far e xs y.0 y.1 in
    let rest = drop (length xs + 1) text in
    let stop : add_digits q.1 (x.now ∷ rest) ≡ None = rw (add_digits, (n x m).0) in
    let whole : take (length xs) text ++ (x.now ∷ rest) ≡ text =
    ap (λ d. take (length xs) text ++ (d ∷ rest)) turn.1 ∙ sym (at_drop_more (λ ys. take (length xs) text ++ ys) text (length xs) x.now turn.0) ∙ take-append-drop (length xs) text in
    (n x m).1 ∙ sym stop ∙ sym (digits_on R k xs p q (x.now ∷ rest) c) ∙ ap (λ ys. add_digits p.1 (ys ++ (x.now ∷ rest))) front ∙ ap (add_digits p.1) whole

-- a number has a digit
pub number_some : (xs : List ℕ) → false ≡ eqb (length xs) 0 → number xs ≡ add_digits 0 xs
number_some [] h = let z : ◌≡◌ {A = ℕ} 0 1 = cc in absurd (omega arith)
number_some (c ∷ cs) h = refl

-- octets by their pairs of digits
abbrev pub by_pairs : List (List ℕ) → Option (List ℕ)
by_pairs [] = Some []
by_pairs (p ∷ ps) = option_and_then (λ o. option_map (λ os. o ∷ os) (by_pairs ps)) (octet (get_or p 0 0) (get_or p 1 0))

pub in_pairs : (n : ℕ) (xs : List ℕ) → length xs ≡ n * 2 → by_pairs (first_chunks 2 n xs) ≡ octets xs
in_pairs zero [] h = refl
in_pairs zero (c ∷ cs) h = absurd (omega arith)
in_pairs (suc n) [] h = absurd (omega arith)
in_pairs (suc n) (c ∷ []) h = absurd (omega arith)
in_pairs (suc n) (c ∷ (d ∷ cs)) h = rw (in_pairs n cs (omega arith))

-- an odd digit is no octet
pub odd_one : (n : ℕ) (xs : List ℕ) → length xs ≡ n * 2 + 1 → octets xs ≡ None
odd_one n [] h = absurd (omega arith)
odd_one n (c ∷ []) h = refl
odd_one zero (c ∷ (d ∷ cs)) h = absurd (omega arith)
odd_one (suc n) (c ∷ (d ∷ cs)) h = none (octet c d) (octets cs) (odd_one n cs (omega arith))
  where
    none : (q : Option ℕ) (r : Option (List ℕ)) → r ≡ None → option_and_then (λ o. option_map (λ os. o ∷ os) r) q ≡ None
    none None r e = refl
    none (Some o) r e = ap (option_map (λ os. o ∷ os)) e

-- the octets that are held, and those of the pairs behind
abbrev pub with_held : List ℕ → List (List ℕ) → Option (List ℕ)
with_held held ps = option_map (λ os. held ++ os) (by_pairs ps)

module _ (held : List ℕ) (ps : List (List ℕ)) (i o : ℕ) (h : i < length ps) (e : octet (get_or (get_or ps i []) 0 0) (get_or (get_or ps i []) 1 0) ≡ Some o) where
  -- one more is held
  pub pair_held : with_held (held ++ o ∷ []) (drop (i + 1) ps) ≡ with_held held (drop i ps)
  pair_held = rw (at_drop_more (with_held held) ps i [] h, e) (moved (by_pairs (drop (i + 1) ps)))
    where
      moved : (q : Option (List ℕ)) → option_map (λ os. (held ++ o ∷ []) ++ os) q ≡ option_map (λ os. held ++ os) (option_map (λ os. o ∷ os) q)
      moved None = refl
      moved (Some os) = ap Some (append_assoc held (o ∷ []) os)

  -- or is one too many
  pub pair_full : length held ≡ 255 → None ≡ option_and_then (sized 255) (with_held held (drop i ps))
  pair_full l = rw (at_drop_more (with_held held) ps i [] h, e) (over (by_pairs (drop (i + 1) ps)))
    where
      over : (q : Option (List ℕ)) → None ≡ option_and_then (sized 255) (option_map (λ os. held ++ os) (option_map (λ os. o ∷ os) q))
      over None = refl
      over (Some os) = let k = length-append held (o ∷ os) in grind (arith, nat_tests)

-- what is cut off twice is cut off once
pub take_front : (k : ℕ) (ys zs : List ℕ) → take k (take k ys ++ zs) ≡ take k (ys ++ zs)
take_front zero ys zs = refl
take_front (suc k) [] zs = refl
take_front (suc k) (y ∷ ys) zs = ap (λ xs. y ∷ xs) (take_front k ys zs)

-- one number more, of which nine are kept
pub numbers_more : (p xs : List ℕ) (ps : List (List ℕ)) (n : ℕ) → number p ≡ Some n
    → option_map (λ ns. take 9 (take 9 (xs ++ n ∷ []) ++ ns)) (numbers ps) ≡ option_map (λ ns. take 9 (xs ++ ns)) (numbers (p ∷ ps))
numbers_more p xs ps n e = rw (numbers, e) (more (numbers ps))
  where
    more : (q : Option (List ℕ)) → option_map (λ ns. take 9 (take 9 (xs ++ n ∷ []) ++ ns)) q ≡ option_map (λ ns. take 9 (xs ++ ns)) (option_map (λ ns. n ∷ ns) q)
    more None = refl
    more (Some ns) = ap Some (take_front 9 (xs ++ n ∷ []) ns ∙ ap (take 9) (append_assoc xs (n ∷ []) ns))

pub numbers_all : (xs : List ℕ) → length xs ≤ 9 → take 9 (xs ++ []) ≡ xs
numbers_all xs h = ap (take 9) (append-nil xs) ∙ take_all 9 xs h
