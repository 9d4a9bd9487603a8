-- What a writer's calls leave, octet by octet.
use Rattle.std.proofs.Common.{◌≡◌, ℕ, ◌+◌, ◌-◌, ◌*◌, ◌/◌, ◌^◌, ◌<◌, ◌≤◌, min, true, List, [], ◌∷◌, ◌++◌, length, take, drop, set, replicate, Ok, sym, refl, ap, ◌∙◌, append_assoc, arith, length-drop, length-take-le, drop-drop}
use Rattle.std.proofs.lemmas.List.{take-append-drop}
use Rattle.std.proofs.lemmas.Bool.{cond-true, le-leb, and_from}
use Rattle.vocabulary.specs.Settings.{trip_of}
use Rattle.bits.specs.Bits.{field, bits_of}
use Rattle.wire.specs.Packets.{Content}
use Rattle.writer.specs.Encoding.{encode, writable}
use Rattle.writer.specs.Drafts.{Draft, octets_in, whole, padded, placed, extended, room, has_room, add_answer, added}
use Rattle.writer.specs.Writers.{written, draft, Adds, Pads}
use Rattle.writer.specs.declared.writer.Writer.{Writer}
use Rattle.writer.proofs.OctetLaws.{octets_all, octets_back, octets_filled}
use Rattle.writer.proofs.WriterLaws.{length_written, before_set, with_set}

-- the whole octets of a writer's bits stand in its buffer
pub whole_written : (w : Writer) → whole (written w) ≡ take w.full (drop 2 w.octets.now)
whole_written w =
    let m = take w.full (drop 2 w.octets.now) in
    let l : length m ≡ w.full = length-take-le w.full (drop 2 w.octets.now) (omega (arith, w.lies, length-drop 2 w.octets.now)) in
    let n : length (written w) / 8 ≡ length m = omega (arith, length_written w, w.few) in
    ap (λ k. octets_in k (written w)) n ∙ octets_back m (field w.count w.waiting) (octets_all m w.octal)

-- a buffer in its three parts
parts : (n : ℕ) (s : List ℕ) → s ≡ take 2 s ++ (take n (drop 2 s) ++ drop (2 + n) s)
parts n s = sym (take-append-drop 2 s) ∙ ap (λ l. take 2 s ++ l) (sym (take-append-drop n (drop 2 s)) ∙ ap (λ l. take n (drop 2 s) ++ l) (drop-drop n 2 s))

module _ (w : Writer) (bs : List ℕ) (w' : Writer) (a : Adds w bs w') where
  buffer_is : w'.octets.now ≡ placed w.octets.now (whole (written w ++ bs))
  buffer_is =
      let s' = w'.octets.now in
      let m = take w'.full (drop 2 s') in
      let l : length m ≡ w'.full = length-take-le w'.full (drop 2 s') (omega (arith, w'.lies, length-drop 2 s')) in
      let e : m ≡ whole (written w ++ bs) = sym (whole_written w') ∙ ap whole a.bits in
      parts w'.full s'
      ∙ (λ i. a.front i ++ (m ++ a.behind i))
      ∙ ap (λ k. take 2 w.octets.now ++ (m ++ drop (2 + k) w.octets.now)) (sym l)
      ∙ ap (placed w.octets.now) e

  pub adds_draft : draft w' ≡ extended (draft w) bs
  adds_draft = λ i. record { sender = a.sender i; trip = trip_of (a.trip i); bits = a.bits i; buffer = buffer_is i }

-- a packet that is added
module _ (p : Content) (d : Draft) (can : true ≡ writable d.trip p) (fits : length d.bits + length (encode d.trip p) ≤ 8 * room d.buffer) where
  has_room_lem : has_room p d ≡ true
  has_room_lem = le-leb (length d.bits + length (encode d.trip p)) (8 * room d.buffer) fits

  pub granted : Ok tt ≡ add_answer p d
  granted = sym (cond-true _ _ _ (sym can) ∙ cond-true _ _ _ has_room_lem)

  pub granted_draft : extended d (encode d.trip p) ≡ added p d
  granted_draft = sym (cond-true _ _ _ (and_from _ _ (sym can) has_room_lem))

-- the octets of a writer's bits, the last filled up
module _ (w : Writer) (some : 0 < length (written w)) where
  long : length (take w.full (drop 2 w.octets.now)) ≡ w.full
  long = length-take-le w.full (drop 2 w.octets.now) (omega (arith, w.lies, length-drop 2 w.octets.now))

  all_bits : written w ++ replicate 7 0 ≡ bits_of (take w.full (drop 2 w.octets.now)) ++ (field w.count w.waiting ++ replicate 7 0)
  all_bits = append_assoc (bits_of (take w.full (drop 2 w.octets.now))) (field w.count w.waiting) (replicate 7 0)

  padded_is : (n : ℕ) → (length (written w) + 7) / 8 ≡ n → padded (written w) ≡ octets_in n (bits_of (take w.full (drop 2 w.octets.now)) ++ (field w.count w.waiting ++ replicate 7 0))
  padded_is n e = λ i. octets_in (e i) (all_bits i)

  -- no bit waits
  pub pads_none : w.count ≡ 0 → Pads w w.full w
  pads_none z =
      let m = take w.full (drop 2 w.octets.now) in
      let l = length_written w in
      record {
        sender = refl;
        trip = refl;
        bits = refl;
        octets = sym (padded_is (length m) (omega (arith, long)) ∙ octets_back m _ (octets_all m w.octal));
        within = omega (arith, w.lies);
        size = refl;
        lender = refl;
        behind = refl;
      }

  -- the octet with the waiting bits is put down
  module _ (c : 1 ≤ w.count) (o : ℕ) (e : o ≡ w.waiting * 2 ^ (8 - w.count)) where
    pub room_for : 2 + w.full < min (length w.octets.now) 255
    room_for = omega (arith, w.lies)

    pub filled_octets : take (w.full + 1) (drop 2 (set w.octets.now (2 + w.full) o)) ≡ padded (written w)
    filled_octets =
        let m = take w.full (drop 2 w.octets.now) in
        let r = room_for in
        with_set w.octets.now w.full o (omega arith)
        ∙ ap (λ x. m ++ x ∷ []) e
        ∙ sym (padded_is (length m + 1) (omega (arith, long, length_written w, w.few)) ∙ octets_filled w.count w.waiting c w.few w.fits m (octets_all m w.octal))

    pub filled_bits_same : bits_of (take w.full (drop 2 (set w.octets.now (2 + w.full) o))) ++ field w.count w.waiting ≡ written w
    filled_bits_same = ap (λ l. bits_of l ++ field w.count w.waiting) (before_set w.octets.now w.full o)
