-- The walk over packets, one step and its end.
use Rattle.std.proofs.Common.{◌≡◌, ℕ, zero, suc, ◌+◌, ◌<◌, ◌≤◌, true, cond, List, [], length, drop, Some, None, Option, Ok, Err, Result, sym, refl, ap, ◌∙◌, le_refl, arith, length-drop}
use Rattle.std.proofs.lemmas.Bool.{cond-true, cond-false, cond_both, lt-ltb, le-ltb, ltb-false}
use Rattle.vocabulary.specs.declared.fault.Fault.{Fault}
use Rattle.wire.specs.Packets.{Content, content, kind_in, may_have, content_in, length_in, read_packet, told, HandsOn, StartsAt}
use Rattle.wire.specs.Messages.{Walk, ended, before, walk, walked}
use Rattle.std.specs.Iterator.{MakesProgress, item_count}
use Rattle.std.specs.Result.{IfOk, MatchResult, result_ok}
use Rattle.wire.specs.Readers.{left, Past}
use Rattle.wire.specs.Walkers.{Step, ahead, walk_octets}
use Rattle.wire.specs.declared.packet.Packet.{Packet}
use Rattle.wire.specs.declared.message.Packets.{Packets}
use Rattle.vocabulary.specs.Settings.{trip_of}

pub not_read : {X : Type 0} (e : Fault) (p : X) → ◌≡◌ {A = Result X Fault} (Err e) (Ok p) → ⊥
not_read e p h = cc

pub same_ok : {X : Type 0} (p q : X) → ◌≡◌ {A = Result X Fault} (Ok p) (Ok q) → p ≡ q
same_ok p q h = cc

-- bits that are read as a packet
pub record WasRead (trip : ℕ) (bs : List ℕ) (p : Content) : Type 0 where
  pub enough : 21 ≤ length bs
  pub least : 21 ≤ length_in bs
  pub within : length_in bs ≤ length bs
  pub own : may_have (kind_in trip bs) (length_in bs) ≡ true
  pub is : content_in (kind_in trip bs) (length_in bs) bs ≡ p

pub was_read : (trip start : ℕ) (bs : List ℕ) (p : Content) → read_packet trip start bs ≡ Ok p → WasRead trip bs p
was_read trip start bs p =
    cond_both _ _ _ (λ r. r ≡ Ok p → WasRead trip bs p) (λ _ h. cc)
    (λ a. cond_both _ _ _ (λ r. r ≡ Ok p → WasRead trip bs p) (λ _ h. cc)
    (λ b. cond_both _ _ _ (λ r. r ≡ Ok p → WasRead trip bs p) (λ _ h. cc)
    (λ d. cond_both _ _ _ (λ r. r ≡ Ok p → WasRead trip bs p)
    (λ f h. record { enough = ltb-false _ _ a; least = ltb-false _ _ b; within = ltb-false _ _ d; own = f; is = same_ok _ _ h })
    (λ _ h. cc))))

pub walk_end : (trip turns start : ℕ) (bs : List ℕ) → length bs < 8 → walk trip turns start bs ≡ ended
walk_end trip zero start bs h = refl
walk_end trip (suc t) start bs h = cond-true _ _ _ (lt-ltb _ _ h)

-- the rest counts only behind a packet that is read
step : (x : Result Content Fault) (a b : Walk) → ((p : Content) → x ≡ Ok p → a ≡ b) → before x a ≡ before x b
step (Ok p) a b h = ap (before (Ok p)) (h p refl)
step (Err e) a b h = refl

-- turns that suffice make the same walk
pub walk_turns : (trip t u start : ℕ) (bs : List ℕ) → length bs ≤ t → length bs ≤ u → walk trip t start bs ≡ walk trip u start bs
walk_turns trip zero u start bs h k = sym (walk_end trip u start bs (omega arith))
walk_turns trip (suc t) zero start bs h k = walk_end trip (suc t) start bs (omega arith)
walk_turns trip (suc t) (suc u) start bs h k =
    ap (cond _ ended) (step (read_packet trip start bs) _ _ (λ p e.
    let r = was_read trip start bs p e in
    let l = length-drop (length_in bs) bs in
    walk_turns trip t u (start + length_in bs) (drop (length_in bs) bs) (omega (arith, r.least, r.within)) (omega (arith, r.least, r.within))))

pub walked_end : (trip start : ℕ) (bs : List ℕ) → length bs < 8 → walked trip start bs ≡ ended
walked_end trip start bs h = walk_end trip (length bs) start bs h

walk_more : (trip t start : ℕ) (bs : List ℕ) → 8 ≤ length bs → walk trip (suc t) start bs ≡ before (read_packet trip start bs) (walk trip t (start + length_in bs) (drop (length_in bs) bs))
walk_more trip t start bs h = cond-false _ _ _ (le-ltb _ _ h)

-- one step
module _ (trip start : ℕ) (bs : List ℕ) (h : 8 ≤ length bs) where
  walked_step : walked trip start bs ≡ before (read_packet trip start bs) (walk trip (length bs) (start + length_in bs) (drop (length_in bs) bs))
  walked_step = walk_turns trip (length bs) (suc (length bs)) start bs (le_refl _) (omega arith) ∙ walk_more trip (length bs) start bs h

  pub walked_more : (p : Content) → read_packet trip start bs ≡ Ok p → walked trip start bs ≡ before (Ok p) (walked trip (start + length_in bs) (drop (length_in bs) bs))
  walked_more p e =
      let rest = drop (length_in bs) bs in
      let l : length rest ≤ length bs = omega (arith, length-drop (length_in bs) bs) in
      walked_step ∙ (λ i. before (e i) (walk_turns trip (length bs) (length rest) (start + length_in bs) rest l (le_refl _) i))

  pub walked_wrong : (e : Fault) → read_packet trip start bs ≡ Err e → walked trip start bs ≡ record { packets = []; stop = Some e }
  walked_wrong e q = walked_step ∙ ap (λ x. before x (walk trip (length bs) (start + length_in bs) (drop (length_in bs) bs))) q

-- what a walk has before it, one packet on
pub past_walk : (w w' : Packets) (p : Content) → 8 ≤ length (left w) → read_packet (trip_of w.trip) w.at (left w) ≡ Ok p → Past w w' →
    walked (trip_of w.trip) w.at (left w) ≡ before (Ok p) (walked (trip_of w'.trip) w'.at (left w'))
past_walk w w' p h e q =
    walked_more (trip_of w.trip) w.at (left w) h p e ∙ (λ i. before (Ok p) (walked (trip_of (sym q.trip i)) (sym q.at i) (sym q.rest i)))

-- and if there is no packet, nothing
pub no_walk : (w : Packets) (e : Fault) → 8 ≤ length (left w) → read_packet (trip_of w.trip) w.at (left w) ≡ Err e → (walked (trip_of w.trip) w.at (left w)).packets ≡ []
no_walk w e h q = ap (λ x. x.packets) (walked_wrong (trip_of w.trip) w.at (left w) h e q)

-- one call of `next` behind the padding's test
pub next_gives : (w w' : Packets) (r : Result Packet Fault) → 8 ≤ length (left w) → told r ≡ read_packet (trip_of w.trip) w.at (left w) → MatchResult r (λ _. Past w w') (λ _. w' ≡ w) →
    IfOk r (StartsAt w.at) → IfOk r (HandsOn (walk_octets w)) → walk_octets w' ≡ walk_octets w → Step w (result_ok r) w'
next_gives w w' (Ok p) h q e s u o = record { first = ap (λ x. x.packets) (past_walk w w' (content p) h (sym q) e); unread = (s, u); octets = o; past = e }
next_gives w w' (Err f) h q e s u o = let none = no_walk w f h (sym q) in record { first = (none, ap ahead e ∙ none); unread = tt; octets = o; past = tt }

-- and what is left grows less by what comes
pub next_goes : (w w' : Packets) (r : Option Packet) → Step w r w' → MakesProgress (λ _. Unit {0}) (item_count ahead) w r w'
next_goes w w' (Some p) s = record { on = λ f. (tt, f, omega (arith, ap length s.first)); keeps = tt; rests = λ _. tt }
next_goes w w' None s = record { on = λ _. tt; keeps = tt; rests = λ f. f }
