-- What is read as packets is what these packets are written in.
use Rattle.std.proofs.Common.{◌≡◌, ℕ, zero, suc, ◌+◌, ◌-◌, ◌^◌, ◌<◌, ◌≤◌, true, not, List, [], ◌∷◌, ◌++◌, length, take, drop, is_some, Some, None, Ok, Err, Option, Result, sym, refl, ap, ◌∙◌, subst, append_assoc, arith, length-drop, length-take, length-take-le, take-take, drop-drop, take-add}
use Rattle.std.specs.Int.Digits.{number_from_digits as number, AllBelowBase}
use Rattle.std.proofs.lemmas.Int.Digits.{number_lt}
use Rattle.std.proofs.ByRecursion.{All-take, All-drop}
use Rattle.std.proofs.lemmas.List.{drop-take, take-append-drop}
use Rattle.std.proofs.lemmas.Bool.{cond_both, and_from, lt-ltb, le-leb, eq-eqb, eqb-true, ltb-true}
use Rattle.vocabulary.specs.Numbers.{case_of}
use Rattle.vocabulary.specs.declared.fault.Fault.{Fault}
use Rattle.bits.specs.Bits.{field, value_at}
use Rattle.bits.proofs.BitLaws.{field_number}
use Rattle.wire.specs.Kinds.{kind_number, kinds}
use Rattle.wire.specs.Packets.{Content, read_packet, kind_in, may_have, content_in, number_in, length_in}
use Rattle.wire.specs.Messages.{Walk, before, walk}
use Rattle.wire.specs.declared.kind.Kind.{Kind}
use Rattle.wire.specs.declared.kind.Kind.TheVariants as kind
use Rattle.wire.proofs.WalkLaws.{WasRead, was_read}
use Rattle.writer.specs.Encoding.{encode, writable}
use Rattle.roundtrip.specs.RoundTrips.{body_of, all_writable}

-- a case that is found has the number
abbrev Has : {C : Type 0} → (C → ℕ) → Option C → ℕ → Type 0
Has number (Some c) n = number c ≡ n
Has number None n = Unit {0}

has : {C : Type 0} (number : C → ℕ) (cs : List C) (n : ℕ) → Has number (case_of number cs n) n
has number [] n = tt
has number (c ∷ cs) n = cond_both _ _ _ (λ o. Has number o n) (eqb-true (number c) n) (λ _. has number cs n)

abbrev raw : ℕ → ℕ → List ℕ → List ℕ
raw n len body = field 8 n ++ (field 13 len ++ body)

module _ (bs : List ℕ) (u : AllBelowBase 2 bs) where
  piece : (i n : ℕ) → i + n ≤ length bs → field n (value_at bs i n) ≡ take n (drop i bs)
  piece i n h = field_number n (take n (drop i bs)) (All-take _ n _ (All-drop _ i bs u)) (simp (length-take, length-drop) (omega arith))

  repacked : (n len : ℕ) (body : List ℕ) → n ≡ number_in bs → len ≡ length_in bs → 21 ≤ len → len ≤ length bs → body ≡ take (len - 21) (drop 21 bs) → raw n len body ≡ take len bs
  repacked n len body a b h l e =
      let split : 8 + (13 + (len - 21)) ≡ len = omega arith in
      (λ i. field 8 (a i) ++ (field 13 (b i) ++ e i))
      ∙ (λ i. piece 0 8 (omega arith) i ++ (piece 8 13 (omega arith) i ++ take (len - 21) (drop 21 bs)))
      ∙ ap (λ x. take 8 bs ++ (take 13 (drop 8 bs) ++ take (len - 21) x)) (sym (drop-drop 13 8 bs))
      ∙ ap (λ x. take 8 bs ++ x) (sym (take-add 13 (len - 21) (drop 8 bs)))
      ∙ sym (take-add 8 (13 + (len - 21)) bs)
      ∙ ap (λ x. take x bs) split

  small : (i n : ℕ) → i + n ≤ length bs → value_at bs i n < 2 ^ n
  small i n h =
      let l : length (take n (drop i bs)) ≡ n = simp (length-take, length-drop) (omega arith) in
      subst (λ k. value_at bs i n < 2 ^ k) l (number_lt 2 (take n (drop i bs)) (All-take _ n _ (All-drop _ i bs u)))

  one_piece : (n len w : ℕ) → w + 21 ≡ len → n ≡ number_in bs → length_in bs ≡ len → len ≤ length bs → raw n len (field w (value_at bs 21 w)) ≡ take len bs
  one_piece n len w e a b l =
      let back : len - 21 ≡ w = omega arith in
      repacked n len (field w (value_at bs 21 w)) a (sym b) (omega arith) l (piece 21 w (omega arith) ∙ ap (λ k. take k (drop 21 bs)) (sym back))

  two_pieces : (n len w w' : ℕ) → w + w' + 21 ≡ len → n ≡ number_in bs → length_in bs ≡ len → len ≤ length bs → raw n len (field w (value_at bs 21 w) ++ field w' (value_at bs (21 + w) w')) ≡ take len bs
  two_pieces n len w w' e a b l =
      let back : len - 21 ≡ w + w' = omega arith in
      repacked n len (field w (value_at bs 21 w) ++ field w' (value_at bs (21 + w) w')) a (sym b) (omega arith) l
      ((λ i. piece 21 w (omega arith) i ++ piece (21 + w) w' (omega arith) i)
      ∙ ap (λ x. take w (drop 21 bs) ++ take w' x) (sym (drop-drop w 21 bs))
      ∙ sym (take-add w w' (drop 21 bs))
      ∙ ap (λ k. take k (drop 21 bs)) (sym back))

  module _ (trip : ℕ) (e : 21 ≤ length bs) (l : 21 ≤ length_in bs) (h : length_in bs ≤ length bs) where
    again : (K : Option Kind) → kind_in trip bs ≡ K → Has (kind_number trip) K (number_in bs) → may_have K (length_in bs) ≡ true →
        (encode trip (content_in K (length_in bs) bs) ≡ take (length_in bs) bs) × (writable trip (content_in K (length_in bs) bs) ≡ true)
    again (Some kind.Version) k n f =
        let m = eqb-true _ 37 f in
        (two_pieces 1 37 8 8 refl n m (omega arith) ∙ ap (λ x. take x bs) (sym m), and_from _ _ (lt-ltb _ _ (small 21 8 (omega arith))) (lt-ltb _ _ (small 29 8 (omega arith))))
    again (Some kind.Status) k n f =
        let m = eqb-true _ 28 f in
        (two_pieces 5 28 3 4 refl n m (omega arith) ∙ ap (λ x. take x bs) (sym m), and_from _ _ (lt-ltb _ _ (small 21 3 (omega arith))) (lt-ltb _ _ (small 24 4 (omega arith))))
    again (Some kind.Request) k n f = let m = eqb-true _ 25 f in (one_piece 13 25 4 refl n m (omega arith) ∙ ap (λ x. take x bs) (sym m), lt-ltb _ _ (small 21 4 (omega arith)))
    again (Some kind.Order) k n f = let m = eqb-true _ 25 f in (one_piece 14 25 4 refl n m (omega arith) ∙ ap (λ x. take x bs) (sym m), lt-ltb _ _ (small 21 4 (omega arith)))
    again (Some kind.Report) k n f = let m = eqb-true _ 25 f in (one_piece 15 25 4 refl n m (omega arith) ∙ ap (λ x. take x bs) (sym m), lt-ltb _ _ (small 21 4 (omega arith)))
    again (Some kind.TripNotice) k n f = let m = eqb-true _ 21 f in (one_piece trip 21 0 refl n m (omega arith) ∙ ap (λ x. take x bs) (sym m), refl)
    again None k n f =
        let xs = take (length_in bs) bs in
        let long : length xs ≡ length_in bs = length-take-le (length_in bs) bs h in
        let in8 : 8 ≤ length_in bs = omega arith in
        let number_same : number_in xs ≡ number_in bs = ap (number 2) (take-take 8 (length_in bs) bs in8) in
        let split : 8 + (length_in bs - 8) ≡ length_in bs = omega arith in
        let in13 : 13 ≤ length_in bs - 8 = omega arith in
        let length_same : length_in xs ≡ length_in bs =
        ap (λ m. number 2 (take 13 (drop 8 (take m bs)))) (sym split) ∙ ap (λ x. number 2 (take 13 x)) (drop-take 8 (length_in bs - 8) bs) ∙ ap (number 2) (take-take 13 (length_in bs - 8) (drop 8 bs) in13) in
        (refl, and_from _ _ (le-leb _ _ (omega arith)) (and_from _ _ (eq-eqb _ _ (length_same ∙ sym long)) (ap (λ x. not (is_some x)) (ap (case_of (kind_number trip) kinds) number_same ∙ k))))

  encode_again : (trip : ℕ) (p : Content) → WasRead trip bs p → (encode trip p ≡ take (length_in bs) bs) × (writable trip p ≡ true)
  encode_again trip p r =
      subst (λ q. (encode trip q ≡ take (length_in bs) bs) × (writable trip q ≡ true)) r.is
      (again trip r.enough r.least r.within (kind_in trip bs) refl (has (kind_number trip) kinds (number_in bs)) r.own)

-- the packets that bits are read as, and what is left over, are the bits
pub record Unread (trip : ℕ) (ps : List Content) (bs : List ℕ) : Type 0 where
  pub pad : List ℕ
  pub short : length pad < 8
  pub same : body_of trip ps ++ pad ≡ bs
  pub can : all_writable trip ps ≡ true

pub unread : (trip turns start : ℕ) (bs : List ℕ) → AllBelowBase 2 bs → length bs ≤ turns → (walk trip turns start bs).stop ≡ None → Unread trip (walk trip turns start bs).packets bs
unread trip zero start bs u n h = record { pad = bs; short = omega arith; same = refl; can = refl }
unread trip (suc turns) start bs u n h =
    let rest = drop (length_in bs) bs in
    let on = walk trip turns (start + length_in bs) rest in
    let step : (x : Result Content Fault) → read_packet trip start bs ≡ x → (before x on).stop ≡ None → Unread trip (before x on).packets bs = λ x e.
    elim x as (λ y. read_packet trip start bs ≡ y → (before y on).stop ≡ None → Unread trip (before y on).packets bs) [
      | Ok p ↦ (λ q stop.
          let r = was_read trip start bs p q in
          let a = encode_again bs u trip p r in
          let few : length rest ≤ turns = omega (arith, length-drop (length_in bs) bs, r.least, r.within) in
          let more = unread trip turns (start + length_in bs) rest (All-drop _ (length_in bs) bs u) few stop in
          record {
            pad = more.pad;
            short = more.short;
            same = append_assoc (encode trip p) (body_of trip on.packets) more.pad ∙ (λ i. a.0 i ++ more.same i) ∙ take-append-drop (length_in bs) bs;
            can = and_from _ _ a.1 more.can;
          })
      | Err d ↦ (λ q stop. cc)
    ] e in
    cond_both _ _ _ (λ (w : Walk). w.stop ≡ None → Unread trip w.packets bs)
    (λ lt _. record { pad = bs; short = ltb-true _ _ lt; same = refl; can = refl })
    (λ ge. step (read_packet trip start bs) refl)
    h
