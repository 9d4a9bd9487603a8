-- A list that is read round its end.
use Rattle.std.proofs.Common.{◌≡◌, ℕ, ◌+◌, ◌-◌, ◌<◌, ◌≤◌, cond, ltb, List, [], ◌∷◌, ◌++◌, length, get_or, take, drop, set, Some, sym, ap, ◌∙◌, append_assoc, arith, length-append, length-drop, length-take, length-set, get_or-drop, get_or-take}
use Rattle.std.specs.List.{slice_get}
use Rattle.std.proofs.lemmas.List.{same_lists, length_push}
use Rattle.std.proofs.lemmas.Option.{slice_get-get_or, slice_get_within}
use Rattle.std.proofs.lemmas.Bool.Decides.{nat_tests}
use Rattle.std.proofs.lemmas.Grind.{common_steps}

-- Of n slots, the one that is i behind a slot.
abbrev pub behind : ℕ → ℕ → ℕ → ℕ
behind n at i = cond (ltb (at + i) n) (at + i) (at + i - n)

-- A list from a place on, and then what stands before that place.
abbrev pub turned : {X : Type 0} → ℕ → List X → List X
turned at xs = drop at xs ++ take at xs

-- The first u of them.
pub length_front : {X : Type 0} (at u : ℕ) (xs : List X) → u ≤ length xs → length (take u (turned at xs)) ≡ u
length_front at u xs h =
    omega (arith, length-take u (turned at xs), length-append (drop at xs) (take at xs), length-drop at xs, length-take at xs)

pub get_or_front : {X : Type 0} (at u i : ℕ) (xs : List X) (d : X) → at ≤ length xs → u ≤ length xs → i < u → get_or (take u (turned at xs)) i d ≡ get_or xs (behind (length xs) at i) d
get_or_front at u i xs d a h l =
    get_or-take u (turned at xs) i d l ∙ grind (arith, common_steps, nat_tests, length-drop at xs)

pub nth_front : {X : Type 0} (at u i : ℕ) (xs : List X) → at ≤ length xs → u ≤ length xs → i < u → slice_get (take u (turned at xs)) i ≡ slice_get xs (behind (length xs) at i)
nth_front at u i [] a h l = absurd (omega arith)
nth_front at u i (x ∷ xs) a h l =
    let there : behind (length (x ∷ xs)) at i < length (x ∷ xs) = grind (arith, nat_tests) in
    slice_get-get_or _ i x (omega (arith, length_front at u (x ∷ xs) h))
    ∙ ap Some (get_or_front at u i (x ∷ xs) x a h l)
    ∙ sym (slice_get-get_or (x ∷ xs) _ x there)

-- One more at the end.
pub front_put : {X : Type 0} (at u k : ℕ) (xs : List X) (x : X) → at ≤ length xs → u < length xs → k ≡ behind (length xs) at u → take (u + 1) (turned at (set xs k x)) ≡ take u (turned at xs) ++ (x ∷ [])
front_put at u k xs x a h e =
    let ys = set xs k x in
    let same : length ys ≡ length xs = length-set xs k x in
    let old = length_front at u xs (omega arith) in
    let new = length_front at (u + 1) ys (omega arith) in
    same_lists _ _ (grind (arith, length_push)) (λ i d in_range.
    let there = get_or_front at (u + 1) i ys d (omega arith) (omega arith) (omega arith) in
    grind (arith, nat_tests, common_steps, get_or_front at u i xs d))

-- One less at the front.
pub front_take : {X : Type 0} (at u : ℕ) (xs : List X) (x : X) → at ≤ length xs - 1 → u ≤ length xs → Some x ≡ slice_get (take u (turned at xs)) 0 → take (u - 1) (turned (behind (length xs) at 1) xs) ≡ drop 1 (take u (turned at xs))
front_take at u xs x a h first =
    let next = behind (length xs) at 1 in
    let old = length_front at u xs h in
    let some = slice_get_within (take u (turned at xs)) 0 x (sym first) in
    let below : next < length xs = grind (arith, nat_tests) in
    let new = length_front next (u - 1) xs (omega arith) in
    same_lists _ _ (omega (arith, length-drop 1 (take u (turned at xs)))) (λ i d in_range.
    let here = get_or_front at u (1 + i) xs d (omega arith) h (omega arith) in
    let there = get_or_front next (u - 1) i xs d (omega arith) (omega arith) (omega arith) in
    let e : behind (length xs) next i ≡ behind (length xs) at (1 + i) = grind (arith, nat_tests) in
    there ∙ ap (λ k. get_or xs k d) e ∙ sym (get_or-drop 1 (take u (turned at xs)) i d ∙ here))

-- All that came is all that went and what is left, when the first has gone.
pub first_taken : {X : Type 0} (went ws : List X) (x : X) → Some x ≡ slice_get ws 0 → went ++ ws ≡ (went ++ (x ∷ [])) ++ drop 1 ws
first_taken went [] x s = cc
first_taken went (y ∷ ws) x s = let f : x ≡ y = cc in simp (f, append_assoc)
