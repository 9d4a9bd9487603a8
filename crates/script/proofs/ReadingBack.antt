-- What is printed is read as itself.
use Rattle.std.proofs.Common.{◌≡◌, ℕ, ◌+◌, ◌-◌, ◌*◌, ◌/◌, ◌%◌, ◌<◌, ◌≤◌, true, false, cond, eqb, ltb, leb, List, [], ◌∷◌, ◌++◌, map, length, take, Some, None, decimal, Option, refl, ap, ◌∙◌, subst, append-nil, arith, length-append, ne_eqb, le-leb}
use Rattle.std.specs.Option.{option_map, option_and_then}
use Rattle.std.proofs.lemmas.Fmt.{decimal_by_steps, length-decimal-le}
use Rattle.std.proofs.lemmas.List.{take_all}
use Rattle.std.proofs.lemmas.Bool.Decides.{nat_tests}
use Rattle.std.specs.List.{All}
use Rattle.std.proofs.lemmas.List.Elements.{All-nil, All-cons, All-append}
use Rattle.std.proofs.lemmas.List.Splits.{slice_split_none, slice_split_at}
use Rattle.script.proofs.Reading.{blank}
use Rattle.vocabulary.specs.Hex.{hex, hex_digit}
use Rattle.vocabulary.specs.Octets.{sized}
use Rattle.script.specs.Text.{parts, add_digit, add_digits, number, hex_value, octet, octets}
use Rattle.script.specs.Grammar.{anew, connected, lost, lost_for_good, came, status, announced, train_data, ticks, power_off, numbers, three, call, reading}
use Rattle.script.specs.Printed.{printed, spaced, EachBelow, ReadsBack}

-- a character that is no blank
abbrev Solid : ℕ → Type 0
Solid c = blank c ≡ false

-- a digit more, at the end
digits_push : (v c : ℕ) (xs : List ℕ) → add_digits v (xs ++ c ∷ []) ≡ option_and_then (λ w. add_digit w c) (add_digits v xs)
digits_push v c [] = same (add_digit v c)
  where
    same : (o : Option ℕ) → option_and_then (λ w. Some w) o ≡ o
    same None = refl
    same (Some w) = refl
digits_push v c (x ∷ xs) = step (λ w. digits_push w c xs) (add_digit v x)
  where
    step : ((w : ℕ) → add_digits w (xs ++ c ∷ []) ≡ option_and_then (λ u. add_digit u c) (add_digits w xs)) → (o : Option ℕ)
        → option_and_then (λ w. add_digits w (xs ++ c ∷ [])) o ≡ option_and_then (λ u. add_digit u c) (option_and_then (λ w. add_digits w xs) o)
    step more None = refl
    step more (Some w) = more w

last_digit : (n : ℕ) → n < 65536 → add_digit (n / 10) (48 + n % 10) ≡ Some n
last_digit n h =
    let e : 10 * (n / 10) + (48 + n % 10 - 48) ≡ n = omega arith in
    let a : leb 48 (48 + n % 10) ≡ true = le-leb _ _ (omega arith) in
    let b : leb (48 + n % 10) 57 ≡ true = le-leb _ _ (omega arith) in
    let d : leb (10 * (n / 10) + (48 + n % 10 - 48)) 65535 ≡ true = le-leb _ _ (omega arith) in
    rw (a, b, d, e)

-- digits that read as a number
record Numeral (n : ℕ) (ds : List ℕ) : Type 0 where
  reads : add_digits 0 ds ≡ Some n
  some : 0 < length ds
  solid : All Solid ds

one_digit : (n : ℕ) → n < 10 → Numeral n ((48 + n) ∷ [])
one_digit n h =
    let z : n / 10 ≡ 0 = omega arith in
    let m : n % 10 ≡ n = omega arith in
    let e : add_digit 0 (48 + n) ≡ Some n = subst (λ k. add_digit k (48 + n) ≡ Some n) z (subst (λ k. add_digit (n / 10) (48 + k) ≡ Some n) m (last_digit n (omega arith))) in
    record { reads = rw (add_digits, e); some = omega arith; solid = All-cons Solid _ [] (ne_eqb _ _ (λ q. omega arith)) (All-nil Solid) }

more_digits : (n : ℕ) (ds : List ℕ) → n < 65536 → Numeral (n / 10) ds → Numeral n (ds ++ (48 + n % 10) ∷ [])
more_digits n ds h p = record {
  reads = digits_push 0 (48 + n % 10) ds ∙ ap (option_and_then (λ w. add_digit w (48 + n % 10))) p.reads ∙ last_digit n h;
  some = omega (arith, length-append ds ((48 + n % 10) ∷ []));
  solid = All-append Solid ds ((48 + n % 10) ∷ []) p.solid (All-cons Solid _ [] (ne_eqb _ _ (λ q. omega arith)) (All-nil Solid));
}

numeral : (n : ℕ) → n < 65536 → Numeral n (decimal n)
numeral n h =
    decimal_by_steps (λ k ds. k < 65536 → Numeral k ds) (λ k l _. one_digit k l) (λ k ds l p q. more_digits k ds q (p (omega arith))) n (omega arith) h

reads_decimal : (n : ℕ) → n < 65536 → number (decimal n) ≡ Some n
reads_decimal n h = some_number (decimal n) (numeral n h).some ∙ (numeral n h).reads
  where
    some_number : (ds : List ℕ) → 0 < length ds → number ds ≡ add_digits 0 ds
    some_number [] l = absurd (omega arith)
    some_number (d ∷ ds) l = refl

-- the parts behind a text are the numbers, in digits
parts_spaced : (xs ns : List ℕ) → All Solid xs → EachBelow 65536 ns → parts (xs ++ spaced ns) ≡ xs ∷ map decimal ns
parts_spaced xs [] h b = ap parts (append-nil xs) ∙ slice_split_none blank xs h
parts_spaced xs (n ∷ ns) h b =
    slice_split_at blank xs 32 (decimal n ++ spaced ns) h refl ∙ ap (λ ps. xs ∷ ps) (parts_spaced (decimal n) ns (numeral n b.0).solid b.1)

numbers_decimal : (ns : List ℕ) → EachBelow 65536 ns → numbers (map decimal ns) ≡ Some ns
numbers_decimal [] b = refl
numbers_decimal (n ∷ ns) b =
    ap (option_and_then (λ k. option_map (λ ks. k ∷ ks) (numbers (map decimal ns)))) (reads_decimal n b.0)
    ∙ ap (option_map (λ ks. n ∷ ks)) (numbers_decimal ns b.1)

length_spaced : (ns : List ℕ) → EachBelow 65536 ns → length (spaced ns) ≤ 6 * length ns
length_spaced [] b = omega arith
length_spaced (n ∷ ns) b =
    let d = length-decimal-le 5 n (omega arith) (omega (arith, b.0)) (omega (arith, b.0)) in
    omega (arith, length-append (32 ∷ decimal n) (spaced ns), length_spaced ns b.1)

-- an octet in two digits
reads_digit : (d : ℕ) → d < 16 → hex_value (hex_digit d) ≡ Some d
reads_digit d h = elim (ltb d 10) as (λ b. ltb d 10 ≡ b → hex_value (cond b (48 + d) (55 + d)) ≡ Some d) [ true ↦ λ e. grind (arith, nat_tests) | false ↦ λ e. grind (arith, nat_tests) ] refl

digit_solid : (d : ℕ) → eqb (hex_digit d) 32 ≡ false
digit_solid d = elim (ltb d 10) as (λ b. eqb (cond b (48 + d) (55 + d)) 32 ≡ false) [ true ↦ ne_eqb _ _ (λ q. omega arith) | false ↦ ne_eqb _ _ (λ q. omega arith) ]

reads_octet : (o : ℕ) → o < 256 → octet (hex_digit (o / 16)) (hex_digit (o % 16)) ≡ Some o
reads_octet o h =
    let high = reads_digit (o / 16) (omega arith) in
    let low = reads_digit (o % 16) (omega arith) in
    let e : 16 * (o / 16) + o % 16 ≡ o = omega arith in
    rw (octet, high, low) (ap Some e)

reads_hex : (os : List ℕ) → EachBelow 256 os → octets (hex os) ≡ Some os
reads_hex [] b = refl
reads_hex (o ∷ os) b =
    rw (octets, reads_octet o b.0) (ap (option_map (λ ks. o ∷ ks)) (reads_hex os b.1))

hex_solid : (os : List ℕ) → All Solid (hex os)
hex_solid [] = All-nil Solid
hex_solid (o ∷ os) =
    let low = hex_digit (o % 16) in
    All-cons Solid (hex_digit (o / 16)) (low ∷ hex os) (digit_solid (o / 16)) (All-cons Solid low (hex os) (digit_solid (o % 16)) (hex_solid os))

length_hex : (os : List ℕ) → length (hex os) ≡ 2 * length os
length_hex [] = refl
length_hex (o ∷ os) = omega (arith, length_hex os)

-- a letter with numbers behind it is that call
back_spaced : (c : ℕ) (ns : List ℕ) → eqb c 32 ≡ false → EachBelow 65536 ns → length ns ≤ 9 → reading (c ∷ spaced ns) ≡ call c (map decimal ns)
back_spaced c ns solid b few =
    let short : leb (length (c ∷ spaced ns)) 512 ≡ true = le-leb _ _ (omega (arith, length_spaced ns b)) in
    rw (reading, short, parts_spaced (c ∷ []) ns (All-cons Solid c [] solid (All-nil Solid)) b)

back_one : (c n : ℕ) → eqb c 32 ≡ false → n < 65536 → reading (c ∷ spaced (n ∷ [])) ≡ call c (decimal n ∷ [])
back_one c n solid h = back_spaced c (n ∷ []) solid (h, tt) (omega arith)

back_numbers : (ns : List ℕ) → EachBelow 65536 ns → length ns ≤ 9 → reading (printed (anew ns)) ≡ Some (anew ns)
back_numbers ns b few =
    back_spaced 110 ns refl b few ∙ ap (option_map (λ ks. anew (take 9 ks))) (numbers_decimal ns b) ∙ ap (λ ks. Some (anew ks)) (take_all 9 ns few)

back_message : (os : List ℕ) → EachBelow 256 os → 1 ≤ length os → length os ≤ 255 → reading (printed (came os)) ≡ Some (came os)
back_message os b some few =
    let short : leb (length (109 ∷ (32 ∷ hex os))) 512 ≡ true = le-leb _ _ (omega (arith, length_hex os)) in
    let fits : sized 255 os ≡ Some os = in_size_lem os some few in
    rw (reading, short, slice_split_none blank (hex os) (hex_solid os), reads_hex os b, fits)
  where
    in_size_lem : (os : List ℕ) → 1 ≤ length os → length os ≤ 255 → sized 255 os ≡ Some os
    in_size_lem os h k = let a = le-leb _ _ h in let b = le-leb _ _ k in rw (a, b)

pub reads_back : ReadsBack
reads_back (anew ns) h = back_numbers ns h.0 h.1
reads_back (connected n) h = back_one 99 n refl h ∙ ap (option_map connected) (reads_decimal n h)
reads_back (lost n) h = back_one 108 n refl h ∙ ap (option_map lost) (reads_decimal n h)
reads_back (lost_for_good n) h = back_one 102 n refl h ∙ ap (option_map lost_for_good) (reads_decimal n h)
reads_back (came os) h = back_message os h.0 h.1 h.2
reads_back (status level number mode) h =
    let ns = level ∷ (number ∷ (mode ∷ [])) in
    back_spaced 115 ns refl h (omega arith) ∙ ap (option_and_then three) (numbers_decimal ns h)
reads_back (announced n) h = back_one 97 n refl h ∙ ap (option_map announced) (reads_decimal n h)
reads_back (train_data true) h = refl
reads_back (train_data false) h = refl
reads_back (ticks k) h = back_one 116 k refl h ∙ ap (option_map ticks) (reads_decimal k h)
reads_back power_off h = refl
