-- What the reader makes of a packet's bits.
use Rattle.std.proofs.Common.{◌≡◌, ℕ, ◌≤◌, true, List, length, take, Some, None, Ok, Option, sym, refl, ap, ◌∙◌, le_refl, arith, length-take-le, take-take}
use Rattle.std.proofs.lemmas.Bool.{cond-true, cond-false, le-ltb, eqb-true}
use Rattle.vocabulary.specs.Numbers.{case_of}
use Rattle.bits.proofs.BitLaws.{part_value}
use Rattle.wire.specs.Kinds.{kind_number, kinds}
use Rattle.wire.specs.Packets.{version, status, request, order, report, other, content, kind_in, may_have, content_in, length_in, read_packet}
use Rattle.wire.specs.Readers.{Headed}
use Rattle.wire.specs.declared.kind.Kind.{Kind}
use Rattle.wire.specs.declared.kind.Kind.TheVariants as kind
use Rattle.wire.specs.declared.packet.Packet.{Packet}

-- a packet that passes each check is read
pub read_whole : (trip start : ℕ) (bs : List ℕ) → 21 ≤ length bs → 21 ≤ length_in bs → length_in bs ≤ length bs → may_have (kind_in trip bs) (length_in bs) ≡ true →
    read_packet trip start bs ≡ Ok (content_in (kind_in trip bs) (length_in bs) bs)
read_whole trip start bs a b d h = cond-false _ _ _ (le-ltb _ _ a) ∙ cond-false _ _ _ (le-ltb _ _ b) ∙ cond-false _ _ _ (le-ltb _ _ d) ∙ cond-true _ _ _ h

-- a packet says what the bits say that it is the front of
content_front : (k : Option Kind) (n : ℕ) (bs : List ℕ) → may_have k n ≡ true → content_in k n (take n bs) ≡ content_in k n bs
content_front (Some kind.Version) n bs m = let e = eqb-true n 37 m in λ i. version (part_value bs 0 n 21 8 (omega arith) i) (part_value bs 0 n 29 8 (omega arith) i)
content_front (Some kind.Status) n bs m = let e = eqb-true n 28 m in λ i. status (part_value bs 0 n 21 3 (omega arith) i) (part_value bs 0 n 24 4 (omega arith) i)
content_front (Some kind.Request) n bs m = let e = eqb-true n 25 m in ap request (part_value bs 0 n 21 4 (omega arith))
content_front (Some kind.Order) n bs m = let e = eqb-true n 25 m in ap order (part_value bs 0 n 21 4 (omega arith))
content_front (Some kind.Report) n bs m = let e = eqb-true n 25 m in ap report (part_value bs 0 n 21 4 (omega arith))
content_front (Some kind.TripNotice) n bs m = refl
content_front None n bs m = ap other (take-take n n bs (le_refl n))

-- what a packet says that is read
pub whole_answer : (trip start : ℕ) (bs ps : List ℕ) (number n t : ℕ) (k : Option Kind) (p : Packet) → Headed bs number n → 21 ≤ n → n ≤ length bs → ps ≡ take n bs → t ≡ trip →
    k ≡ case_of (kind_number t) kinds number → true ≡ may_have k n → content p ≡ content_in k (length ps) ps → Ok (content p) ≡ read_packet trip start bs
whole_answer trip start bs ps number n t k p h least within e f g m q =
    let kind_is : k ≡ kind_in trip bs = g ∙ (λ i. case_of (kind_number (f i)) kinds (h.number_is i)) in
    let long : length ps ≡ n = ap length e ∙ length-take-le n bs within in
    let may : may_have (kind_in trip bs) (length_in bs) ≡ true = (λ i. may_have (sym kind_is i) (sym h.size_is i)) ∙ sym m in
    ap Ok (q ∙ (λ i. content_in k (long i) (e i)) ∙ content_front k n bs (sym m) ∙ (λ i. content_in (kind_is i) (h.size_is i) bs))
    ∙ sym (read_whole trip start bs h.enough (omega (arith, h.size_is)) (omega (arith, h.size_is)) may)
