-- Both round trips.
use Rattle.std.proofs.Common.{◌≡◌, ℕ, zero, suc, ◌+◌, ◌-◌, ◌*◌, ◌/◌, ◌<◌, ◌≤◌, Bool, true, false, not, ◌&&◌, eqb, leb, List, [], ◌∷◌, ◌++◌, map, length, get_or, take, drop, replicate, is_ok, Some, None, Ok, Option, Result, sym, refl, ap, ◌∙◌, subst, append_assoc, zero-add, arith, length-append, length-drop, length-take-le, take_at, take-add, drop_at, w8, Fits}
use lib.ListN.{length-replicate}
use Rattle.std.specs.Int.Digits.{AllBelowBase}
use Rattle.std.specs.List.{AllByRecursion}
use Rattle.std.proofs.ByRecursion.{All-append, All-take, All-drop, All-from_get_or}
use Rattle.std.proofs.lemmas.List.{take-replicate, replicate-append-replicate}
use Rattle.std.proofs.lemmas.Bool.{cond-true, cond-false, and_parts, and_right, le-ltb, eq-eqb, ne_eqb, leb-true, false≢true}
use Rattle.vocabulary.specs.Trips.{taken}
use Rattle.vocabulary.specs.declared.fault.Fault.{Fault}
use Rattle.bits.specs.Bits.{field, bits_of}
use Rattle.bits.proofs.BitLaws.{field_number, under_field, under_bits_of, under_lying, length_bits_of, bits_of_drop}
use Rattle.wire.specs.Packets.{Content, content}
use Rattle.wire.specs.Messages.{Reading, walked, body_bits, size_fault, unless, read_message}
use Rattle.wire.specs.declared.packet.Packet.{Packet}
use Rattle.wire.specs.declared.packet.Packet.TheVariants as packet
use Rattle.wire.proofs.WalkLaws.{same_ok, not_read}
use Rattle.wire.proofs.MessageLaws.{Sized, sized}
use Rattle.writer.specs.Encoding.{encode}
use Rattle.writer.specs.Drafts.{octets_in, padded, room, started}
use Rattle.writer.proofs.OctetLaws.{Octets, octets_back}
use Rattle.roundtrip.specs.Sending.{written, again, rewritten}
use Rattle.roundtrip.specs.RoundTrips.{body_of, some_packet, all_writable, acceptable, ReadBack, ZeroPadded, Rewritten}
use Rattle.roundtrip.proofs.AgainLaws.{Unread, unread}
use Rattle.roundtrip.proofs.BackLaws.{all_back, some_bits}
use Rattle.roundtrip.proofs.SendLaws.{granted_is, final_is, message, length_message, wrote}

-- the bits of the octets that bits fill
bits_of_octets_in : (n : ℕ) (bs : List ℕ) → AllBelowBase 2 bs → 8 * n ≤ length bs → bits_of (octets_in n bs) ≡ take (8 * n) bs
bits_of_octets_in zero bs u h = refl
bits_of_octets_in (suc n) bs u h =
    let e : 8 + 8 * n ≡ 8 * suc n = omega arith in
    (λ i. field_number 8 (take 8 bs) (All-take _ 8 bs u) (length-take-le 8 bs (omega arith)) i ++ bits_of_octets_in n (drop 8 bs) (All-drop _ 8 bs u) (omega (arith, length-drop 8 bs)) i)
    ∙ sym (take-add 8 (8 * n) bs) ∙ ap (λ k. take k bs) e

under_zeros : (n : ℕ) → AllBelowBase 2 (replicate n 0)
under_zeros zero = tt
under_zeros (suc n) = (omega arith, under_zeros n)

-- so many zeros fill the last octet
abbrev gap : List ℕ → ℕ
gap bs = 8 * ((length bs + 7) / 8) - length bs

padded_bits : (bs : List ℕ) → AllBelowBase 2 bs → bits_of (padded bs) ≡ bs ++ replicate (gap bs) 0
padded_bits bs u =
    let zs = bs ++ replicate 7 0 in
    let e : length bs + gap bs ≡ 8 * ((length bs + 7) / 8) = omega arith in
    let l = length-append bs (replicate 7 0) in
    bits_of_octets_in ((length bs + 7) / 8) zs (All-append (λ d. d < 2) bs (replicate 7 0) u (under_zeros 7)) (omega arith)
    ∙ ap (λ j. take j zs) (sym e)
    ∙ take-add (length bs) (gap bs) zs
    ∙ (λ i. take_at bs (replicate 7 0) (length bs) refl i ++ take (gap bs) (drop_at bs (replicate 7 0) (length bs) refl i))
    ∙ ap (λ l. bs ++ l) (take-replicate (gap bs) 7 0 (omega arith))

-- packets have bits
under_packed : (n l : ℕ) (values : List ℕ) → AllBelowBase 2 values → AllBelowBase 2 (field 8 n ++ (field 13 l ++ values))
under_packed n l values u = All-append (λ d. d < 2) (field 8 n) (field 13 l ++ values) (under_field 8 n) (All-append (λ d. d < 2) (field 13 l) values (under_field 13 l) u)

under_encode : (trip : ℕ) (p : Packet) → AllBelowBase 2 (encode trip (content p))
under_encode trip (packet.Version a b) = under_packed 1 37 (field 8 a ++ field 8 b) (All-append (λ d. d < 2) (field 8 a) (field 8 b) (under_field 8 a) (under_field 8 b))
under_encode trip (packet.Status a b) = under_packed 5 28 (field 3 a ++ field 4 b) (All-append (λ d. d < 2) (field 3 a) (field 4 b) (under_field 3 a) (under_field 4 b))
under_encode trip (packet.Request a) = under_packed 13 25 (field 4 a) (under_field 4 a)
under_encode trip (packet.Order a) = under_packed 14 25 (field 4 a) (under_field 4 a)
under_encode trip (packet.Report a) = under_packed 15 25 (field 4 a) (under_field 4 a)
under_encode trip packet.TripNotice = under_packed trip 21 [] tt
under_encode trip (packet.Other os s b) = under_lying b.octets.now b.offset b.len b.lies

pub under_body : (trip : ℕ) (ps : List Packet) → AllBelowBase 2 (body_of trip (map content ps))
under_body trip [] = tt
under_body trip (p ∷ ps) = All-append (λ d. d < 2) (encode trip (content p)) (body_of trip (map content ps)) (under_encode trip p) (under_body trip ps)

module _ (trip : ℕ) (octet : trip < 256) (free : taken trip ≡ false) where
  -- what is written is read as itself
  read_message_lem : (sender : ℕ) (ps : List Content) → all_writable trip ps ≡ true → AllBelowBase 2 (body_of trip ps) → 21 ≤ length (body_of trip ps) → length (body_of trip ps) ≤ 8 * 253 →
      read_message trip (message sender (body_of trip ps)) ≡ Ok (record { sender = sender; packets = ps })
  read_message_lem sender ps w u least most =
      let body = body_of trip ps in
      let m = message sender body in
      let l = length_message sender body in
      let size : size_fault m ≡ None = cond-false _ _ _ (le-ltb (length m) 5 (omega arith)) ∙ cond-false _ _ _ (le-ltb 255 (length m) (omega arith)) ∙ cond-true _ _ _ (eq-eqb (2 + length (padded body)) (length m) (omega arith)) in
      let walk : walked trip 16 (body_bits m) ≡ record { packets = ps; stop = None } =
      ap (walked trip 16) (padded_bits body u) ∙ all_back trip octet free ps w 16 (replicate (gap body) 0) (omega (arith, length-replicate {A = ℕ} (gap body) 0)) in
      λ i. unless (size i) (unless (walk i).stop (Ok (record { sender = sender; packets = (walk i).packets })))

  and_true : (a : Bool) → (a && true) ≡ a
  and_true true = refl
  and_true false = refl

  -- no refusal applies
  acceptable_is : (ps : List Content) (s : List ℕ) → (all_writable trip ps && (leb (length (body_of trip ps)) (8 * room s) && not (eqb (length (body_of trip ps)) 0))) ≡ acceptable trip ps s
  acceptable_is [] s = and_right (leb 0 (8 * room s)) false refl
  acceptable_is (p ∷ ps) s =
      let n = length (body_of trip (p ∷ ps)) in
      let go : (a : Bool) → all_writable trip (p ∷ ps) ≡ a → (a && (leb n (8 * room s) && not (eqb n 0))) ≡ (a && leb n (8 * room s)) = λ a.
      elim a as (λ b. all_writable trip (p ∷ ps) ≡ b → (b && (leb n (8 * room s) && not (eqb n 0))) ≡ (b && leb n (8 * room s))) [
        | true ↦ (λ w. ap (λ x. leb n (8 * room s) && not x) (ne_eqb n 0 (λ z. omega (arith, some_bits trip octet free p ps w))) ∙ and_true (leb n (8 * room s)))
        | false ↦ (λ _. refl)
      ] in
      go (all_writable trip (p ∷ ps)) refl

  -- packets that are written are read back
  module _ (sender : ℕ) (ps : List Content) (u : AllBelowBase 2 (body_of trip ps)) (s : List ℕ) (r : Result ℕ Fault) (s' : List ℕ) (e : r ≡ (written sender trip ps s).answer) (f : s' ≡ (written sender trip ps s).buffer) where
    granted : is_ok r ≡ acceptable trip ps s
    granted =
        ap is_ok e ∙ granted_is ps (started sender trip s) (omega arith)
        ∙ ap (λ n. all_writable trip ps && (leb n (8 * room s) && not (eqb n 0))) (zero-add (length (body_of trip ps)))
        ∙ acceptable_is ps s

    some_least : (qs : List Content) → some_packet qs ≡ true → all_writable trip qs ≡ true → 21 ≤ length (body_of trip qs)
    some_least [] h w = absurd (false≢true h)
    some_least (q ∷ qs) h w = some_bits trip octet free q qs w

    module _ (n : ℕ) (q : r ≡ Ok n) where
      parts : (some_packet ps ≡ true) × ((all_writable trip ps && leb (length (body_of trip ps)) (8 * room s)) ≡ true)
      parts = and_parts _ _ (sym granted ∙ ap is_ok q)

      can : all_writable trip ps ≡ true
      can = (and_parts _ _ parts.1).0

      least : 21 ≤ length (body_of trip ps)
      least = some_least ps parts.0 can

      fits : length (body_of trip ps) ≤ 8 * room s
      fits = leb-true (length (body_of trip ps)) (8 * room s) (and_parts (all_writable trip ps) _ parts.1).1

      final : written sender trip ps s ≡ wrote sender (body_of trip ps) s
      final = let a = least in let b = fits in final_is ps (started sender trip s) can (omega arith) (omega arith)

      count : n ≡ length (message sender (body_of trip ps))
      count = same_ok _ _ (sym q ∙ e ∙ ap (λ x. x.answer) final)

      holds : s' ≡ message sender (body_of trip ps) ++ drop (length (message sender (body_of trip ps))) s
      holds = f ∙ ap (λ x. x.buffer) final

      read : read_message trip (take n s') ≡ Ok (record { sender = sender; packets = ps })
      read =
          let m = message sender (body_of trip ps) in
          let b = fits in
          ap (read_message trip) ((λ i. take (count i) (holds i)) ∙ take_at m (drop (length m) s) (length m) refl)
          ∙ read_message_lem sender ps can u least (omega arith)

      behind : drop n s' ≡ drop n s
      behind =
          let m = message sender (body_of trip ps) in
          (λ i. drop (count i) (holds i)) ∙ drop_at m (drop (length m) s) (length m) refl ∙ ap (λ k. drop k s) (sym count)

    pub read_back : ReadBack trip sender ps s r s'
    read_back = record { granted = granted; back = read; behind = behind }

unless_ok : {X : Type 0} (f : Option Fault) (r : Result X Fault) (x : X) → unless f r ≡ Ok x → (f ≡ None) × (r ≡ Ok x)
unless_ok None r x h = (refl, h)
unless_ok (Some e) r x h = absurd (not_read e x h)

zero_list : (bs : List ℕ) → AllByRecursion (λ b. b ≡ 0) bs → bs ≡ replicate (length bs) 0
zero_list [] a = refl
zero_list (b ∷ bs) a = λ i. a.0 i ∷ zero_list bs a.1 i

rebuild : (m os : List ℕ) → 2 ≤ length m → get_or m 1 0 ≡ length m → os ≡ drop 2 m → get_or m 0 0 ∷ ((2 + length os) ∷ os) ≡ m
rebuild [] os h e f = absurd (omega arith)
rebuild (a ∷ []) os h e f = absurd (omega arith)
rebuild (a ∷ (b ∷ r)) os h e f =
    let n : 2 + length os ≡ b = omega (arith, ap length f) in
    λ i. a ∷ (n i ∷ f i)

pub fit_octets : (xs : List ℕ) → ((i : ℕ) → Fits w8 (get_or xs i 0)) → Octets xs
fit_octets xs f = All-from_get_or (λ x. x < 256) xs 0 (λ i _. (f i).fits)

-- a message that is read is written again
module _ (trip : ℕ) (m s : List ℕ) (o : Octets m) (x : Reading) (q : read_message trip m ≡ Ok x) (h : length m ≤ length s) where
  checks : (size_fault m ≡ None) × (unless (walked trip 16 (body_bits m)).stop (Ok (record { sender = get_or m 0 0; packets = (walked trip 16 (body_bits m)).packets })) ≡ Ok x)
  checks = unless_ok (size_fault m) _ x q

  size : Sized m
  size = sized m checks.0

  right : ((walked trip 16 (body_bits m)).stop ≡ None) × (◌≡◌ {A = Result Reading Fault} (Ok (record { sender = get_or m 0 0; packets = (walked trip 16 (body_bits m)).packets })) (Ok x))
  right = unless_ok (walked trip 16 (body_bits m)).stop _ x checks.1

  reading_is : ◌≡◌ {A = Reading} (record { sender = get_or m 0 0; packets = (walked trip 16 (body_bits m)).packets }) x
  reading_is = same_ok _ _ right.1

  was : Unread trip (walked trip 16 (body_bits m)).packets (body_bits m)
  was = unread trip (length (body_bits m)) 16 (body_bits m) (All-drop (λ d. d < 2) 16 (bits_of m) (under_bits_of m)) (omega arith) right.0

  long : length (body_of trip (walked trip 16 (body_bits m)).packets) + length was.pad ≡ 8 * length m - 16
  long =
      sym (length-append (body_of trip (walked trip 16 (body_bits m)).packets) was.pad) ∙ ap length was.same
      ∙ length-drop 16 (bits_of m) ∙ ap (λ k. k - 16) (length_bits_of m)

  count_is : length (message (get_or m 0 0) (body_of trip (walked trip 16 (body_bits m)).packets)) ≡ length m
  count_is = length_message (get_or m 0 0) (body_of trip (walked trip 16 (body_bits m)).packets) ∙ omega (arith, long, was.short, size.least)

  pub final_again : rewritten trip m s ≡ wrote (get_or m 0 0) (body_of trip (walked trip 16 (body_bits m)).packets) s
  final_again =
      let l = long in
      let a = size.least in
      let b = size.most in
      let c = was.short in
      ap (λ y. again trip y s) (q ∙ sym right.1)
      ∙ final_is (walked trip 16 (body_bits m)).packets (started (get_or m 0 0) trip s) was.can (omega arith) (omega arith)

  pub answer_again : (rewritten trip m s).answer ≡ Ok (length m)
  answer_again = ap (λ y. y.answer) final_again ∙ ap Ok count_is

  pub same_again : ZeroPadded trip m x → (rewritten trip m s).buffer ≡ m ++ drop (length m) s
  same_again z =
      let b = body_of trip (walked trip 16 (body_bits m)).packets in
      let pad = was.pad in
      let zs : AllByRecursion (λ d. d ≡ 0) pad =
      subst (AllByRecursion (λ d. d ≡ 0)) ((λ i. drop (length (body_of trip (sym reading_is i).packets)) (sym was.same i)) ∙ drop_at b pad (length b) refl) z in
      let seven : length pad + (7 - length pad) ≡ 7 = omega (arith, was.short) in
      let rest : List ℕ = replicate (7 - length pad) 0 in
      let bits : b ++ replicate 7 0 ≡ bits_of (drop 2 m) ++ rest =
      ap (λ l. b ++ l) (ap (λ k. replicate k 0) (sym seven) ∙ sym (replicate-append-replicate (length pad) (7 - length pad) 0) ∙ ap (λ l. l ++ rest) (sym (zero_list pad zs)))
      ∙ sym (append_assoc b pad rest) ∙ ap (λ l. l ++ rest) (was.same ∙ sym (bits_of_drop 2 m)) in
      let count : (length b + 7) / 8 ≡ length (drop 2 m) = omega (arith, long, was.short, size.least, length-drop 2 m) in
      let octets : padded b ≡ drop 2 m = (λ i. octets_in (count i) (bits i)) ∙ octets_back (drop 2 m) rest (All-drop _ 2 m o) in
      let same : message (get_or m 0 0) b ≡ m = rebuild m (padded b) (omega (arith, size.least)) size.stated octets in
      ap (λ y. y.buffer) final_again ∙ ap (λ l. l ++ drop (length l) s) same

pub rewritten_law : (trip : ℕ) (m s : List ℕ) → Octets m → (r : Result ℕ Fault) (s' : List ℕ) → r ≡ (rewritten trip m s).answer → s' ≡ (rewritten trip m s).buffer → Rewritten trip m s r s'
rewritten_law trip m s o r s' e f = record {
  granted = λ x q h. e ∙ answer_again trip m s o x q h;
  same = λ x q h z. f ∙ same_again trip m s o x q h z;
}

-- the laws, by what was answered and what the buffer then holds
pub write_law : (trip : ℕ) → trip < 256 → taken trip ≡ false → (sender : ℕ) (ps : List Packet) (s : List ℕ) (r : Result ℕ Fault) (s' : List ℕ) →
    r ≡ (written sender trip (map content ps) s).answer → s' ≡ (written sender trip (map content ps) s).buffer → ReadBack trip sender (map content ps) s r s'
write_law trip octet free sender ps s r s' e f = read_back trip octet free sender (map content ps) (under_body trip ps) s r s' e f

pub rewrite_law : (trip : ℕ) (m s : List ℕ) → ((i : ℕ) → Fits w8 (get_or m i 0)) → (r : Result ℕ Fault) (s' : List ℕ) →
    r ≡ (rewritten trip m s).answer → s' ≡ (rewritten trip m s).buffer → Rewritten trip m s r s'
rewrite_law trip m s o r s' e f = rewritten_law trip m s (fit_octets m o) r s' e f

pub through : (x y z : List ℕ) → x ≡ y → y ≡ z → x ≡ z
through x y z a b = a ∙ b
