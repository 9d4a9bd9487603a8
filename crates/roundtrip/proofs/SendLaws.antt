-- When a message is written, and what then stands in the buffer.
use Rattle.std.proofs.Common.{◌≡◌, ℕ, zero, suc, ◌+◌, ◌-◌, ◌*◌, ◌/◌, ◌<◌, ◌≤◌, min, Bool, true, false, cond, not, ◌&&◌, eqb, leb, List, [], ◌∷◌, ◌++◌, length, take, drop, replicate, is_ok, Ok, Err, Result, sym, refl, ap, ◌∙◌, append_assoc, append-nil, add-zero, arith, length-append, length-drop, length-take, drop_at}
use Rattle.std.proofs.lemmas.Bool.{cond-true, cond-false, and_parts, and_from, and_right, le-leb, lt-leb, leb-true, leb-false, ne_eqb}
use Rattle.vocabulary.specs.Refusals.{fault_at}
use Rattle.vocabulary.specs.declared.fault.Fault.{Fault}
use Rattle.vocabulary.specs.declared.fault.Layer.TheVariants as layer
use Rattle.vocabulary.specs.declared.fault.Refusal.TheVariants as refusal
use Rattle.wire.specs.Messages.{wrong_length}
use Rattle.wire.specs.Packets.{Content}
use Rattle.writer.specs.Encoding.{encode, writable}
use Rattle.writer.specs.Drafts.{Draft, octets_in, whole, padded, placed, extended, room, has_room, add_answer, added, message_of, finish_answer}
use Rattle.writer.proofs.WriterLaws.{further}
use Rattle.roundtrip.specs.Sending.{Sent, unless_refused, sent}
use Rattle.roundtrip.specs.RoundTrips.{body_of, all_writable}

-- an answer decided by two tests
decided_no : (a b : Bool) (f g e : Fault) (x y : Draft) → ◌≡◌ {A = Result (Unit {0}) Fault} (Err e) (cond a (cond b (Ok tt) (Err f)) (Err g)) → cond (a && b) x y ≡ y
decided_no true true f g e x y q = cc
decided_no true false f g e x y q = refl
decided_no false b f g e x y q = refl

-- one packet of several is taken, or refused
module _ (p : Content) (ps : List Content) (d : Draft) where
  pub takes : (u : Unit {0}) → Ok u ≡ add_answer p d → sent (p ∷ ps) d ≡ sent ps (added p d)
  takes u e = ap (λ r. unless_refused r d.buffer (sent ps (added p d))) (sym e)

  pub refuses : (e : Fault) → Err e ≡ add_answer p d → sent (p ∷ ps) d ≡ record { answer = Err e; buffer = (added p d).buffer }
  refuses e q =
      ap (λ r. unless_refused r d.buffer (sent ps (added p d))) (sym q)
      ∙ ap (λ (x : Draft). record { answer = Err e; buffer = x.buffer }) (sym (decided_no (writable d.trip p) (has_room p d) _ _ e (extended d (encode d.trip p)) d q))

pub length_octets_in : (n : ℕ) (bs : List ℕ) → length (octets_in n bs) ≡ n
length_octets_in zero bs = refl
length_octets_in (suc n) bs = ap suc (length_octets_in n (drop 8 bs))

-- octets that find room leave the buffer as long as it was, and what stands behind them as it was
module _ (s os : List ℕ) (h : length os ≤ length s - 2) where
  pub length_placed : length (placed s os) ≡ length s
  length_placed =
      length-append (take 2 s) (os ++ drop (2 + length os) s)
      ∙ omega (arith, length-take 2 s, length-append os (drop (2 + length os) s), length-drop (2 + length os) s)

  pub room_placed : room (placed s os) ≡ room s
  room_placed = ap (λ n. min n 255 - 2) length_placed

  pub drop_placed : (k : ℕ) → 2 ≤ length s → 2 + length os ≤ k → drop k (placed s os) ≡ drop k s
  drop_placed k two l =
      let front : length (take 2 s ++ os) ≡ 2 + length os = length-append (take 2 s) os ∙ omega (arith, length-take 2 s) in
      further (2 + length os) k (placed s os) s l
      (ap (drop (2 + length os)) (sym (append_assoc (take 2 s) os (drop (2 + length os) s))) ∙ drop_at (take 2 s ++ os) (drop (2 + length os) s) (2 + length os) front)

-- how many bits there are in the end
abbrev pub total : List Content → Draft → ℕ
total ps d = length d.bits + length (body_of d.trip ps)

-- after a packet that is taken
module _ (p : Content) (ps : List Content) (d : Draft) where
  pub total_next : total ps (extended d (encode d.trip p)) ≡ total (p ∷ ps) d
  total_next = omega (arith, length-append d.bits (encode d.trip p), length-append (encode d.trip p) (body_of d.trip ps))

  module _ (h : length d.bits + length (encode d.trip p) ≤ 8 * room d.buffer) where
    few : length (whole (d.bits ++ encode d.trip p)) ≤ length d.buffer - 2
    few = omega (arith, length_octets_in (length (d.bits ++ encode d.trip p) / 8) (d.bits ++ encode d.trip p), length-append d.bits (encode d.trip p))

    pub room_next : room (extended d (encode d.trip p)).buffer ≡ room d.buffer
    room_next = room_placed d.buffer (whole (d.bits ++ encode d.trip p)) few

    pub held_next : length (extended d (encode d.trip p)).bits ≤ 8 * room (extended d (encode d.trip p)).buffer
    held_next = omega (arith, room_next, length-append d.bits (encode d.trip p))

    pub drop_next : (k : ℕ) → 2 ≤ length d.buffer → 2 + (length d.bits + length (encode d.trip p)) / 8 ≤ k → drop k (extended d (encode d.trip p)).buffer ≡ drop k d.buffer
    drop_next k two l =
        drop_placed d.buffer (whole (d.bits ++ encode d.trip p)) few k two
        (omega (arith, length_octets_in (length (d.bits ++ encode d.trip p) / 8) (d.bits ++ encode d.trip p), length-append d.bits (encode d.trip p)))

-- a message is written exactly if every packet can be, there is room, and there are bits
abbrev pub allowed : List Content → Draft → Bool
allowed ps d = all_writable d.trip ps && (leb (total ps d) (8 * room d.buffer) && not (eqb (total ps d) 0))

ends : (d : Draft) → length d.bits ≤ 8 * room d.buffer → is_ok (finish_answer d) ≡ (leb (length d.bits) (8 * room d.buffer) && not (eqb (length d.bits) 0))
ends d h =
    elim (eqb (length d.bits) 0) as (λ b. is_ok {T = ℕ} {E = Fault} (cond b (Err (wrong_length 0)) (Ok (length (message_of d)))) ≡ not b) [ true ↦ refl | false ↦ refl ]
    ∙ sym (ap (λ x. x && not (eqb (length d.bits) 0)) (le-leb (length d.bits) (8 * room d.buffer) h))

granted_step : (f g : Fault) (p : Content) (ps : List Content) (d : Draft) → ((d' : Draft) → length d'.bits ≤ 8 * room d'.buffer → is_ok (sent ps d').answer ≡ allowed ps d') →
    (a b : Bool) → writable d.trip p ≡ a → has_room p d ≡ b →
    is_ok (unless_refused (cond a (cond b (Ok tt) (Err f)) (Err g)) d.buffer (sent ps (cond (a && b) (extended d (encode d.trip p)) d))).answer
    ≡ ((a && all_writable d.trip ps) && (leb (total (p ∷ ps) d) (8 * room d.buffer) && not (eqb (total (p ∷ ps) d) 0)))
granted_step f g p ps d ih true true w r =
    let fits = leb-true (length d.bits + length (encode d.trip p)) (8 * room d.buffer) r in
    ih (extended d (encode d.trip p)) (held_next p ps d fits)
    ∙ (λ i. all_writable d.trip ps && (leb (total_next p ps d i) (8 * room_next p ps d fits i) && not (eqb (total_next p ps d i) 0)))
granted_step f g p ps d ih true false w r =
    let over = leb-false (length d.bits + length (encode d.trip p)) (8 * room d.buffer) r in
    let more = length-append (encode d.trip p) (body_of d.trip ps) in
    sym (and_right (all_writable d.trip ps) _ (ap (λ x. x && not (eqb (total (p ∷ ps) d) 0)) (lt-leb (total (p ∷ ps) d) (8 * room d.buffer) (omega arith))))
granted_step f g p ps d ih false b w r = refl

pub granted_is : (ps : List Content) (d : Draft) → length d.bits ≤ 8 * room d.buffer → is_ok (sent ps d).answer ≡ allowed ps d
granted_is [] d h = ends d h ∙ ap (λ n. leb n (8 * room d.buffer) && not (eqb n 0)) (sym (add-zero (length d.bits)))
granted_is (p ∷ ps) d h = granted_step (fault_at refusal.Full 0 layer.Message) (fault_at refusal.Misfit 0 layer.Packet) p ps d (granted_is ps) (writable d.trip p) (has_room p d) refl refl

-- a message of these bits
abbrev pub message : ℕ → List ℕ → List ℕ
message sender bs = sender ∷ ((2 + length (padded bs)) ∷ padded bs)

pub length_message : (sender : ℕ) (bs : List ℕ) → length (message sender bs) ≡ 2 + (length bs + 7) / 8
length_message sender bs = omega (arith, length_octets_in ((length bs + 7) / 8) (bs ++ replicate 7 0))

abbrev pub wrote : ℕ → List ℕ → List ℕ → Sent
wrote sender bs s = record { answer = Ok (length (message sender bs)); buffer = message sender bs ++ drop (length (message sender bs)) s }

-- what stands in the buffer then
pub final_is : (ps : List Content) (d : Draft) → all_writable d.trip ps ≡ true → total ps d ≤ 8 * room d.buffer → 0 < total ps d → sent ps d ≡ wrote d.sender (d.bits ++ body_of d.trip ps) d.buffer
final_is [] d w h some =
    let e : eqb (length d.bits) 0 ≡ false = ne_eqb (length d.bits) 0 (λ z. omega arith) in
    (λ i. record { answer = cond-false _ (Err (wrong_length 0)) (Ok (length (message_of d))) e i; buffer = (cond-false _ d (record { sender = d.sender; trip = d.trip; bits = d.bits; buffer = message_of d ++ drop (length (message_of d)) d.buffer }) e i).buffer })
    ∙ ap (λ bs. wrote d.sender bs d.buffer) (sym (append-nil d.bits))
final_is (p ∷ ps) d w h some =
    let can = and_parts (writable d.trip p) (all_writable d.trip ps) w in
    let all = length-append (encode d.trip p) (body_of d.trip ps) in
    let fits : length d.bits + length (encode d.trip p) ≤ 8 * room d.buffer = omega arith in
    let has : has_room p d ≡ true = le-leb (length d.bits + length (encode d.trip p)) (8 * room d.buffer) fits in
    let d₁ = extended d (encode d.trip p) in
    let t = total_next p ps d in
    let bs = d.bits ++ body_of d.trip (p ∷ ps) in
    let same : d₁.bits ++ body_of d.trip ps ≡ bs = append_assoc d.bits (encode d.trip p) (body_of d.trip ps) in
    let answer : add_answer p d ≡ Ok tt = cond-true _ _ _ can.0 ∙ cond-true _ _ _ has in
    let next : added p d ≡ d₁ = cond-true _ _ _ (and_from _ _ can.0 has) in
    let long : 2 + (length d.bits + length (encode d.trip p)) / 8 ≤ length (message d.sender bs) =
    omega (arith, length_message d.sender bs, length-append d.bits (body_of d.trip (p ∷ ps))) in
    (λ i. unless_refused (answer i) d.buffer (sent ps (next i)))
    ∙ final_is ps d₁ can.1 (omega (arith, room_next p ps d fits)) (omega arith)
    ∙ ap (λ l. wrote d.sender l d₁.buffer) same
    ∙ ap (λ x. record { answer = Ok (length (message d.sender bs)); buffer = message d.sender bs ++ x }) (drop_next p ps d fits (length (message d.sender bs)) (omega arith) long)
