-- A text taken in octet by octet.
use Rattle.std.proofs.Common.{Result, Ok, Err, is_ok, ltb, ltb-true, ltb-false, ◌≤◌, ◌≡◌, ℕ, ◌<◌, Bool, true, false, cond, eqb, leb, List, [], ◌∷◌, ◌++◌, map, length, get_or, take, ◌+◌, Some, None, sym, refl, ap, ◌∙◌, arith, length-take, ne_eqb, leb-false, leb-true}
use borrow.Author.Tests.{lt-leb}
use Rattle.std.proofs.lemmas.List.{take_all, take_more, take_at, length_push}
use Rattle.few.specs.declared.Full.{Full}
use Rattle.few.specs.Few.{held}
use Rattle.script.specs.Grammar.{reading}
use Rattle.script.proofs.Reading.{take_front}
use Rattle.intake.specs.Lines.{AsTheyRead, keep, told, left, last_told, ended, unended}

-- a push is refused where 513 are held, so it leaves the first 513 of those that came
pub kept : (n : ℕ) (octets after : List ℕ) (c : ℕ) (r : Result (Unit {0}) Full) → length octets ≡ 513 → n ≤ 513
    → r ≡ cond (ltb (length (take n octets)) 513) (Ok tt) (Err (record {})) → after ≡ cond (is_ok r) (take n octets ++ c ∷ []) (take n octets)
    → after ≡ take 513 (take n octets ++ c ∷ [])
kept n octets after c r full within e h = h ∙ rw e (step (ltb (length (take n octets)) 513) refl)
  where
    step : (b : Bool) → ltb (length (take n octets)) 513 ≡ b
        → cond (is_ok {E = Full} (cond b (Ok (tt {0})) (Err (record {})))) (take n octets ++ c ∷ []) (take n octets) ≡ take 513 (take n octets ++ c ∷ [])
    step true q = sym (take_all 513 (take n octets ++ c ∷ []) (omega (arith, ltb-true _ _ q, length_push (take n octets) c)))
    step false q = sym (take_at (take n octets) (c ∷ []) 513 (omega (arith, ltb-false _ _ q, length-take n octets)))

-- an octet more at the end of a text
pub told_push : (held xs : List ℕ) (c : ℕ) → told held (xs ++ c ∷ []) ≡ told held xs ++ told (left held xs) (c ∷ [])
told_push held [] c = refl
told_push held (x ∷ xs) c = step (told_push [] xs c) (told_push (keep held x) xs c) (eqb x 10)
  where
    step : told [] (xs ++ c ∷ []) ≡ told [] xs ++ told (left [] xs) (c ∷ [])
        → told (keep held x) (xs ++ c ∷ []) ≡ told (keep held x) xs ++ told (left (keep held x) xs) (c ∷ []) → (b : Bool)
        → cond b (reading held ∷ told [] (xs ++ c ∷ [])) (told (keep held x) (xs ++ c ∷ []))
        ≡ cond b (reading held ∷ told [] xs) (told (keep held x) xs) ++ told (cond b (left [] xs) (left (keep held x) xs)) (c ∷ [])
    step p q true = ap (λ ys. reading held ∷ ys) p
    step p q false = q

pub left_push : (held xs : List ℕ) (c : ℕ) → left held (xs ++ c ∷ []) ≡ left (left held xs) (c ∷ [])
left_push held [] c = refl
left_push held (x ∷ xs) c = step (left_push [] xs c) (left_push (keep held x) xs c) (eqb x 10)
  where
    step : left [] (xs ++ c ∷ []) ≡ left (left [] xs) (c ∷ []) → left (keep held x) (xs ++ c ∷ []) ≡ left (left (keep held x) xs) (c ∷ []) → (b : Bool)
        → cond b (left [] (xs ++ c ∷ [])) (left (keep held x) (xs ++ c ∷ [])) ≡ left (cond b (left [] xs) (left (keep held x) xs)) (c ∷ [])
    step p q true = p
    step p q false = q

-- and an octet more of a longer text, where `now` is the line so far
pub told_more : (held now xs : List ℕ) (i : ℕ) → i < length xs → now ≡ left held (take i xs)
    → told held (take (i + 1) xs) ≡ told held (take i xs) ++ told now (get_or xs i 0 ∷ [])
told_more held now xs i h e = rw e (ap (told held) (take_more xs i 0 h) ∙ told_push held (take i xs) (get_or xs i 0))

pub left_more : (held now xs : List ℕ) (i : ℕ) → i < length xs → now ≡ left held (take i xs)
    → left held (take (i + 1) xs) ≡ left now (get_or xs i 0 ∷ [])
left_more held now xs i h e = rw e (ap (left held) (take_more xs i 0 h) ∙ left_push held (take i xs) (get_or xs i 0))

-- the front of a line that is kept reads as the line
reads_kept : (line : List ℕ) → reading (take 513 line) ≡ reading line
reads_kept line = step (leb (length line) 512) refl
  where
    step : (b : Bool) → leb (length line) 512 ≡ b → reading (take 513 line) ≡ reading line
    step true e = ap reading (take_all 513 line (omega (arith, leb-true (length line) 512 e)))
    step false e =
        let long = leb-false (length line) 512 e in
        let cut : leb (length (take 513 line)) 512 ≡ false = lt-leb _ _ (omega (arith, length-take 513 line)) in
        rw (cut, e)

each_kept : (line xs : List ℕ) → told (take 513 line) xs ≡ map reading (ended line xs)
each_kept line [] = refl
each_kept line (x ∷ xs) = step (each_kept [] xs) (each_kept (line ++ x ∷ []) xs) (eqb x 10)
  where
    step : told [] xs ≡ map reading (ended [] xs) → told (take 513 (line ++ x ∷ [])) xs ≡ map reading (ended (line ++ x ∷ []) xs) → (b : Bool)
        → cond b (reading (take 513 line) ∷ told [] xs) (told (keep (take 513 line) x) xs) ≡ map reading (cond b (line ∷ ended [] xs) (ended (line ++ x ∷ []) xs))
    step p q true = ap (λ r. r ∷ told [] xs) (reads_kept line) ∙ ap (λ rs. reading line ∷ rs) p
    step p q false = ap (λ ys. told ys xs) (take_front 513 line (x ∷ [])) ∙ q

left_kept : (line xs : List ℕ) → left (take 513 line) xs ≡ take 513 (unended line xs)
left_kept line [] = refl
left_kept line (x ∷ xs) = step (left_kept [] xs) (left_kept (line ++ x ∷ []) xs) (eqb x 10)
  where
    step : left [] xs ≡ take 513 (unended [] xs) → left (take 513 (line ++ x ∷ [])) xs ≡ take 513 (unended (line ++ x ∷ []) xs) → (b : Bool)
        → cond b (left [] xs) (left (keep (take 513 line) x) xs) ≡ take 513 (cond b (unended [] xs) (unended (line ++ x ∷ []) xs))
    step p q true = p
    step p q false = ap (λ ys. left ys xs) (take_front 513 line (x ∷ [])) ∙ q

last_kept : (line : List ℕ) → last_told (take 513 line) ≡ last_told line
last_kept [] = refl
last_kept (x ∷ xs) =
    let whole : eqb (length (x ∷ xs)) 0 ≡ false = ne_eqb _ _ (λ q. omega arith) in
    let front : eqb (length (take 513 (x ∷ xs))) 0 ≡ false = ne_eqb _ _ (λ q. omega (arith, length-take 513 (x ∷ xs))) in
    ap (λ b. cond b None (Some (reading (take 513 (x ∷ xs))))) front ∙ ap Some (reads_kept (x ∷ xs)) ∙ ap (λ b. cond b None (Some (reading (x ∷ xs)))) (sym whole)

pub as_they_read : AsTheyRead
as_they_read = record { each = each_kept []; last = λ text. ap last_told (left_kept [] text) ∙ last_kept (unended [] text) }
