-- Packets that are written one behind the other are read as themselves.
use Rattle.std.proofs.Common.{◌≡◌, ℕ, ◌+◌, ◌^◌, ◌<◌, ◌≤◌, true, false, not, eqb, ltb, List, [], ◌∷◌, ◌++◌, length, take, drop, is_some, Some, None, Ok, Option, sym, refl, ap, ◌∙◌, append_assoc, arith, length-append, length-drop, drop-drop, take_at, drop_at}
use lib.Seq.{take-append-le, drop-append-le}
use Rattle.std.specs.Int.Digits.{number_from_digits}
use Rattle.std.proofs.lemmas.Bool.{cond-true, cond-false, and_parts, false≢true, ltb-true, leb-true, eqb-true, eqb-false, eq-eqb, ne_eqb, or_parts}
use Rattle.vocabulary.specs.Numbers.{case_of}
use Rattle.vocabulary.specs.Trips.{taken}
use Rattle.bits.specs.Bits.{field, value_at}
use Rattle.bits.proofs.BitLaws.{length_field, number_field}
use Rattle.wire.specs.Kinds.{kind_number, kinds}
use Rattle.wire.specs.Packets.{Content, version, status, request, order, report, notice, other, read_packet, kind_in, may_have, content_in, number_in, length_in}
use Rattle.wire.specs.Messages.{before, walked}
use Rattle.wire.specs.declared.kind.Kind.{Kind}
use Rattle.wire.specs.declared.kind.Kind.TheVariants as kind
use Rattle.wire.proofs.ReaderLaws.{read_whole}
use Rattle.wire.proofs.WalkLaws.{walked_end, walked_more}
use Rattle.writer.specs.Encoding.{encode, writable}
use Rattle.roundtrip.specs.RoundTrips.{body_of, all_writable}

-- the front, and what stands behind it
value_front : (n v : ℕ) (rest : List ℕ) → v < 2 ^ n → value_at (field n v ++ rest) 0 n ≡ v
value_front n v rest h = ap (number_from_digits 2) (take_at (field n v) rest n (length_field n v)) ∙ number_field n v h

value_behind : (xs rest : List ℕ) (i n : ℕ) → length xs ≡ i → value_at (xs ++ rest) i n ≡ value_at rest 0 n
value_behind xs rest i n e = ap (λ l. number_from_digits 2 (take n l)) (drop_at xs rest i e)

abbrev raw : ℕ → ℕ → List ℕ → List ℕ
raw n len body = field 8 n ++ (field 13 len ++ body)

module _ (n len : ℕ) (body rest : List ℕ) (small : n < 256) (most : len < 8192) (e : length body + 21 ≡ len) where
  front_is : raw n len body ++ rest ≡ field 8 n ++ (field 13 len ++ (body ++ rest))
  front_is = append_assoc (field 8 n) (field 13 len ++ body) rest ∙ ap (λ l. field 8 n ++ l) (append_assoc (field 13 len) body rest)

  raw_length : length (raw n len body) ≡ len
  raw_length = omega (arith, length-append (field 13 len) body, length_field 13 len)

  raw_number : number_in (raw n len body ++ rest) ≡ n
  raw_number = ap number_in front_is ∙ value_front 8 n (field 13 len ++ (body ++ rest)) (omega arith)

  raw_size : length_in (raw n len body ++ rest) ≡ len
  raw_size = ap length_in front_is ∙ value_behind (field 8 n) (field 13 len ++ (body ++ rest)) 8 13 refl ∙ value_front 13 len (body ++ rest) (omega arith)

  raw_body : drop 21 (raw n len body ++ rest) ≡ body ++ rest
  raw_body = ap (drop 21) front_is ∙ drop_at (field 13 len) (body ++ rest) 13 (length_field 13 len)

  raw_read : (trip start : ℕ) (K : Option Kind) → case_of (kind_number trip) kinds n ≡ K → may_have K len ≡ true →
      read_packet trip start (raw n len body ++ rest) ≡ Ok (content_in K len (raw n len body ++ rest))
  raw_read trip start K k f =
      let bs = raw n len body ++ rest in
      let l : length bs ≡ len + length rest = length-append (raw n len body) rest ∙ ap (λ x. x + length rest) raw_length in
      let s = raw_size in
      let kk : kind_in trip bs ≡ K = ap (case_of (kind_number trip) kinds) raw_number ∙ k in
      read_whole trip start bs (omega arith) (omega arith) (omega arith) (ap (λ x. may_have x (length_in bs)) kk ∙ ap (may_have K) s ∙ f)
      ∙ ap Ok (λ i. content_in (kk i) (s i) bs)

-- a packet at the front of bits is read as itself, and its length is told
pub record Back (trip start : ℕ) (p : Content) (rest : List ℕ) : Type 0 where
  pub read : read_packet trip start (encode trip p ++ rest) ≡ Ok p
  pub size : length_in (encode trip p ++ rest) ≡ length (encode trip p)
  pub least : 21 ≤ length (encode trip p)

-- no other packet has the number of a trip notice
kind_trip : (trip : ℕ) → taken trip ≡ false → case_of (kind_number trip) kinds trip ≡ Some kind.TripNotice
kind_trip trip t =
    let a = or_parts _ _ (or_parts _ _ t).1 in
    let b = or_parts _ _ a.1 in
    let c = or_parts _ _ b.1 in
    let d = or_parts _ _ c.1 in
    let not_it : (k : ℕ) → eqb trip k ≡ false → eqb k trip ≡ false = λ k h. ne_eqb k trip (λ e. eqb-false trip k h (sym e)) in
    cond-false _ _ _ (not_it 1 a.0) ∙ cond-false _ _ _ (not_it 5 b.0) ∙ cond-false _ _ _ (not_it 13 c.0)
    ∙ cond-false _ _ _ (not_it 14 d.0) ∙ cond-false _ _ _ (not_it 15 d.1) ∙ cond-true _ _ _ (eq-eqb trip trip refl)

is_none : (k : Option Kind) → not (is_some k) ≡ true → k ≡ None
is_none (Some k) h = absurd (false≢true h)
is_none None h = refl

-- a packet that holds one number, and one that holds two
module _ (trip start n len : ℕ) (small : n < 256) (most : len < 8192) (K : Option Kind) (k : case_of (kind_number trip) kinds n ≡ K) (f : may_have K len ≡ true) (rest : List ℕ) where
  one_back : (w v : ℕ) → w + 21 ≡ len → v < 2 ^ w → (p : Content) → encode trip p ≡ raw n len (field w v) →
      (value_at (raw n len (field w v) ++ rest) 21 w ≡ v → content_in K len (raw n len (field w v) ++ rest) ≡ p) → Back trip start p rest
  one_back w v e h p q c =
      let l : length (field w v) + 21 ≡ len = omega (arith, length_field w v) in
      record {
        read = ap (λ x. read_packet trip start (x ++ rest)) q ∙ raw_read n len (field w v) rest small most l trip start K k f
            ∙ ap Ok (c (ap (λ x. number_from_digits 2 (take w x)) (raw_body n len (field w v) rest small most l) ∙ value_front w v rest h));
        size = ap (λ x. length_in (x ++ rest)) q ∙ raw_size n len (field w v) rest small most l ∙ sym (ap length q ∙ raw_length n len (field w v) rest small most l);
        least = omega (arith, ap length q, raw_length n len (field w v) rest small most l);
      }

  two_back : (w v w' v' : ℕ) → w + w' + 21 ≡ len → v < 2 ^ w → v' < 2 ^ w' → (p : Content) → encode trip p ≡ raw n len (field w v ++ field w' v') →
      (value_at (raw n len (field w v ++ field w' v') ++ rest) 21 w ≡ v → value_at (raw n len (field w v ++ field w' v') ++ rest) (21 + w) w' ≡ v' →
      content_in K len (raw n len (field w v ++ field w' v') ++ rest) ≡ p) → Back trip start p rest
  two_back w v w' v' e h h' p q c =
      let b = field w v ++ field w' v' in
      let l : length b + 21 ≡ len = omega (arith, length-append (field w v) (field w' v'), length_field w v, length_field w' v') in
      let body = raw_body n len b rest small most l ∙ append_assoc (field w v) (field w' v') rest in
      record {
        read = ap (λ x. read_packet trip start (x ++ rest)) q ∙ raw_read n len b rest small most l trip start K k f
            ∙ ap Ok (c (ap (λ x. number_from_digits 2 (take w x)) body ∙ value_front w v (field w' v' ++ rest) h)
            (ap (λ x. number_from_digits 2 (take w' x)) (sym (drop-drop w 21 (raw n len b ++ rest)) ∙ ap (drop w) body) ∙ value_behind (field w v) (field w' v' ++ rest) w w' (length_field w v) ∙ value_front w' v' rest h'));
        size = ap (λ x. length_in (x ++ rest)) q ∙ raw_size n len b rest small most l ∙ sym (ap length q ∙ raw_length n len b rest small most l);
        least = omega (arith, ap length q, raw_length n len b rest small most l);
      }

module _ (trip : ℕ) (octet : trip < 256) (free : taken trip ≡ false) where
  pub back : (start : ℕ) (p : Content) (rest : List ℕ) → writable trip p ≡ true → Back trip start p rest
  back start (version a b) rest w =
      let h = and_parts (ltb a 256) (ltb b 256) w in
      two_back trip start 1 37 (omega arith) (omega arith) (Some kind.Version) refl refl rest 8 a 8 b refl (omega (arith, ltb-true a 256 h.0)) (omega (arith, ltb-true b 256 h.1)) (version a b) refl (λ x y. λ i. version (x i) (y i))
  back start (status a b) rest w =
      let h = and_parts (ltb a 8) (ltb b 16) w in
      two_back trip start 5 28 (omega arith) (omega arith) (Some kind.Status) refl refl rest 3 a 4 b refl (omega (arith, ltb-true a 8 h.0)) (omega (arith, ltb-true b 16 h.1)) (status a b) refl (λ x y. λ i. status (x i) (y i))
  back start (request q) rest w = one_back trip start 13 25 (omega arith) (omega arith) (Some kind.Request) refl refl rest 4 q refl (omega (arith, ltb-true q 16 w)) (request q) refl (ap request)
  back start (order q) rest w = one_back trip start 14 25 (omega arith) (omega arith) (Some kind.Order) refl refl rest 4 q refl (omega (arith, ltb-true q 16 w)) (order q) refl (ap order)
  back start (report q) rest w = one_back trip start 15 25 (omega arith) (omega arith) (Some kind.Report) refl refl rest 4 q refl (omega (arith, ltb-true q 16 w)) (report q) refl (ap report)
  back start notice rest w = one_back trip start trip 21 octet (omega arith) (Some kind.TripNotice) (kind_trip trip free) refl rest 0 0 refl (omega arith) notice refl (λ _. refl)
  back start (other bs) rest w =
      let h = and_parts _ _ w in
      let g = and_parts _ _ h.1 in
      let least = leb-true 21 (length bs) h.0 in
      let size = eqb-true (length_in bs) (length bs) g.0 in
      let in8 : 8 ≤ length bs = omega arith in
      let in13 : 13 ≤ length (drop 8 bs) = omega (arith, length-drop 8 bs) in
      let number_is : number_in (bs ++ rest) ≡ number_in bs = ap (number_from_digits 2) (take-append-le 8 bs rest in8) in
      let size_is : length_in (bs ++ rest) ≡ length bs = ap (λ l. number_from_digits 2 (take 13 l)) (drop-append-le 8 bs rest in8) ∙ ap (number_from_digits 2) (take-append-le 13 (drop 8 bs) rest in13) ∙ size in
      let all = length-append bs rest in
      let K : kind_in trip (bs ++ rest) ≡ None = ap (case_of (kind_number trip) kinds) number_is ∙ is_none _ g.1 in
      record {
        read = read_whole trip start (bs ++ rest) (omega arith) (omega arith) (omega arith) (ap (λ k. may_have k (length_in (bs ++ rest))) K)
            ∙ ap Ok ((λ i. content_in (K i) (size_is i) (bs ++ rest)) ∙ ap other (take_at bs rest (length bs) refl));
        size = size_is;
        least = least;
      }

  pub all_back : (ps : List Content) → all_writable trip ps ≡ true → (start : ℕ) (pad : List ℕ) → length pad < 8 → walked trip start (body_of trip ps ++ pad) ≡ record { packets = ps; stop = None }
  all_back [] w start pad h = walked_end trip start pad h
  all_back (p ∷ ps) w start pad h =
      let can = and_parts _ _ w in
      let rest = body_of trip ps ++ pad in
      let b = back start p rest can.0 in
      let bs = encode trip p ++ rest in
      let l8 : 8 ≤ length bs = omega (arith, b.least, length-append (encode trip p) rest) in
      let left : drop (length_in bs) bs ≡ rest = ap (λ k. drop k bs) b.size ∙ drop_at (encode trip p) rest (length (encode trip p)) refl in
      ap (walked trip start) (append_assoc (encode trip p) (body_of trip ps) pad)
      ∙ walked_more trip start bs l8 p b.read
      ∙ ap (λ x. before (Ok p) (walked trip (start + length_in bs) x)) left
      ∙ ap (before (Ok p)) (all_back ps can.1 (start + length_in bs) pad h)

  -- a packet has its first 21 bits
  pub some_bits : (p : Content) (ps : List Content) → all_writable trip (p ∷ ps) ≡ true → 21 ≤ length (body_of trip (p ∷ ps))
  some_bits p ps w = omega (arith, length-append (encode trip p) (body_of trip ps), (back 0 p [] (and_parts _ _ w).0).least)
