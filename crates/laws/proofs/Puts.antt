-- A row's step and its puts together; and at most one at DA and at HS through a settling.
use Rattle.std.proofs.Common.{◌≡◌, ℕ, zero, suc, ◌+◌, ◌-◌, ◌≤◌, Bool, true, false, cond, ◌||◌, ltb, List, [], ◌∷◌, ◌++◌, length, take, Some, sum_by, Option, sym, refl, ap, ◌∙◌, subst, arith}
use Rattle.std.proofs.lemmas.List.Sums.{sum_by-cons, sum_by_push}
use Rattle.vocabulary.specs.States.{state_number, target_of}
use Rattle.vocabulary.specs.declared.cause.Cause.{Cause}
use Rattle.vocabulary.specs.declared.order.Order.{Order}
use Rattle.vocabulary.specs.declared.state.State.{State}
use Rattle.steps.specs.Rows.{same_state, is_failure, is_checked, order_in, aims_at, at_state, some_at}
use Rattle.steps.specs.Setups.{Setup, number_at}
use Rattle.steps.specs.Views.{view_of}
use Rattle.steps.specs.Puts.{Put, reply, status, failure, ordered, replies, orders, wanted, took_all, takes, takes_all, follows, follows_all}
use Rattle.steps.specs.Puts as puts
use Rattle.steps.specs.Settling.{wanted_at, Settled, ended, settled_row, settle}
use Rattle.steps.specs.declared.row.Row.{Row}
use Rattle.steps.specs.declared.surroundings.Surroundings.{Surroundings}
use Rattle.laws.specs.Events.{Event, Happening, fell}
use Rattle.laws.specs.OpenOrders.{Open, open_from, along, taken, answered, followed, failed, voided}
use Rattle.laws.specs.Lawful.{is_off, is_failure_order}
use Rattle.laws.proofs.Lists.{Timely, open_append, along_append, timely_append}
use Rattle.laws.proofs.Rows.{bit, bit_one, opens, Sound, Kept}
use Rattle.laws.proofs.Places.{or_l, or_r}
use Rattle.laws.proofs.Frames.{put_events}
use Rattle.std.proofs.lemmas.Bool.{cond_both}
use Rattle.laws.proofs.Settles.{events_of, Fit, Fits}

-- Failure orders since the latest power-off
abbrev pub sent_from : ℕ → List Event → ℕ
sent_from n [] = n
sent_from n (e ∷ es) = sent_from (cond (is_off e.what) 0 n + is_failure_order e.what) es

abbrev pub SentAll : ℕ → List Event → Type 0
SentAll n [] = Unit {0}
SentAll n (e ∷ es) = (cond (is_off e.what) 0 n + is_failure_order e.what ≤ 1) × SentAll (cond (is_off e.what) 0 n + is_failure_order e.what) es

abbrev pub ev : Happening → Option Cause → Event
ev w f = record { what = w; fails = f }

-- one row over some events, with its five counts
pub record Both (lim : Order → ℕ) (r t : Row) (es : List Event) (tk ans fo lst vd : ℕ) : Type 0 where
  pub moves : opens t.open ≡ open_from (opens r.open) es
  pub sound : Sound lim t
  pub sent : (n : ℕ) → n + bit r.failure_due ≤ bit (is_failure r.held) → sent_from n es + bit t.failure_due ≤ bit (is_failure t.held)
  pub few : (n : ℕ) → n + bit r.failure_due ≤ bit (is_failure r.held) → SentAll n es
  pub time : Timely lim (opens r.open) es
  pub takes : tk ≡ along taken (opens r.open) es
  pub answers : ans ≡ along answered (opens r.open) es
  pub follows : fo ≡ along followed (opens r.open) es
  pub fails : lst ≡ along failed (opens r.open) es
  pub voids : vd ≡ along voided (opens r.open) es

pub sent_append : (n : ℕ) (es fs : List Event) → sent_from n (es ++ fs) ≡ sent_from (sent_from n es) fs
sent_append n [] fs = refl
sent_append n (e ∷ es) fs = sent_append (cond (is_off e.what) 0 n + is_failure_order e.what) es fs

pub sentall_append : (n : ℕ) (es fs : List Event) → SentAll n es → SentAll (sent_from n es) fs → SentAll n (es ++ fs)
sentall_append n [] fs a b = b
sentall_append n (e ∷ es) fs a b = (a.0, sentall_append (cond (is_off e.what) 0 n + is_failure_order e.what) es fs a.1 b)

both_append : (lim : Order → ℕ) (r t u : Row) (es fs : List Event) (a1 a2 a3 a4 a5 b1 b2 b3 b4 b5 : ℕ) → Both lim r t es a1 a2 a3 a4 a5 → Both lim t u fs b1 b2 b3 b4 b5 →
    Both lim r u (es ++ fs) (a1 + b1) (a2 + b2) (a3 + b3) (a4 + b4) (a5 + b5)
both_append lim r t u es fs a1 a2 a3 a4 a5 b1 b2 b3 b4 b5 x y =
    let m = x.moves in
    let al : (f : Option Open → Event → ℕ) → along f (opens r.open) (es ++ fs) ≡ along f (opens r.open) es + along f (opens t.open) fs = λ f. along_append f (opens r.open) es fs ∙ ap (λ s. along f (opens r.open) es + along f s fs) (sym m) in
    record {
      moves = y.moves ∙ ap (λ s. open_from s fs) m ∙ sym (open_append (opens r.open) es fs);
      sound = y.sound;
      sent = λ n h. subst (λ k. k + bit u.failure_due ≤ bit (is_failure u.held)) (sym (sent_append n es fs)) (y.sent (sent_from n es) (x.sent n h));
      few = λ n h. sentall_append n es fs (x.few n h) (y.few (sent_from n es) (x.sent n h));
      time = timely_append lim (opens r.open) es fs x.time (subst (λ s. Timely lim s fs) m y.time);
      takes = omega (arith, al taken, x.takes, y.takes);
      answers = omega (arith, al answered, x.answers, y.answers);
      follows = omega (arith, al followed, x.follows, y.follows);
      fails = omega (arith, al failed, x.fails, y.fails);
      voids = omega (arith, al voided, x.voids, y.voids);
    }

module _ (lim : Order → ℕ) (low : (o : Order) → 1 ≤ lim o) where
  put_row : (r : Row) (q : Put) → Sound lim r → Fit q r → Both lim r (puts.took q r) (put_events q) (takes q) 0 (follows q r) 0 0
  put_row r (reply m) so fit = grind arith
  put_row r status so fit = grind arith
  put_row r (ordered o) so fit = grind arith
  put_row r failure so fit = grind arith

  put_rows : (r : Row) (qs : List Put) → Sound lim r → Fits qs r → Both lim r (took_all qs r) (events_of qs) (takes_all qs) 0 (follows_all qs r) 0 0
  put_rows r [] so fit = grind arith
  put_rows r (q ∷ qs) so fit =
      let x = put_row r q so fit.0 in
      both_append lim r (puts.took q r) (took_all qs (puts.took q r)) (put_events q) (events_of qs) (takes q) 0 (follows q r) 0 0 (takes_all qs) 0 (follows_all qs (puts.took q r)) 0 0 x (put_rows (puts.took q r) qs x.sound fit.1)

  kept_both : (r t : Row) (w : Happening) (f : Option Cause) (ans lst vd : ℕ) → is_failure_order w ≡ 0 → Kept lim r t w f ans lst vd → Both lim r t (ev w f ∷ []) 0 ans 0 lst vd
  kept_both r t w f ans lst vd nof k = grind arith

  pub both : (r t : Row) (w : Happening) (f : Option Cause) (ans lst vd : ℕ) (p : List Put) → is_failure_order w ≡ 0 → Kept lim r t w f ans lst vd → Fits p t →
      Both lim r (took_all p t) (ev w f ∷ events_of p) (0 + takes_all p) (ans + 0) (0 + follows_all p t) (lst + 0) (vd + 0)
  both r t w f ans lst vd p nof k fit =
      both_append lim r t (took_all p t) (ev w f ∷ []) (events_of p) 0 ans 0 lst vd (takes_all p) 0 (follows_all p t) 0 0 (kept_both r t w f ans lst vd nof k) (put_rows t p k.sound fit)

-- puts alter neither the held state nor the cause
pub took_held : (p : List Put) (r : Row) → (took_all p r).held ≡ r.held
took_held [] r = refl
took_held (q ∷ qs) r = let ih = took_held qs (puts.took q r) in grind arith

took_cause : (p : List Put) (r : Row) → (took_all p r).cause ≡ r.cause
took_cause [] r = refl
took_cause (q ∷ qs) r = let ih = took_cause qs (puts.took q r) in grind arith

pub fell_took : (p : List Put) (q r : Row) → fell q (took_all p r) ≡ fell q r
fell_took p q r = let h = took_held p r in let c = took_cause p r in grind arith

-- DA and HS
few_or : (h a b x : Bool) → x ≡ false → bit (h || (x || a)) ≤ bit (h || (a || b))
few_or h a b x e = grind arith

module _ (t : State) where
  abbrev pub here : Row → ℕ
  here r = bit (at_state t r)

  none_at : (xs : List Row) → some_at t xs ≡ false → sum_by here xs ≡ 0
  none_at [] e = refl
  none_at (x ∷ xs) e =
      let a : here x ≡ 0 = ap bit (or_l (at_state t x) (some_at t xs) e) in
      let b = none_at xs (or_r (at_state t x) (some_at t xs) e) in
      sum_by-cons here x xs ∙ omega (arith, a, b)

  -- an order to t only where no other is at t
  abbrev pub Free : List Row → List Row → Put → Type 0
  Free pre rest (ordered o) = same_state (target_of o) t ≡ true → (some_at t pre || some_at t rest) ≡ false
  Free pre rest q = Unit {0}

  abbrev pub FreeAll : List Row → List Row → List Put → Type 0
  FreeAll pre rest [] = Unit {0}
  FreeAll pre rest (q ∷ qs) = Free pre rest q × FreeAll pre rest qs

  free_take : (pre rest : List Row) (n : ℕ) (qs : List Put) → FreeAll pre rest qs → FreeAll pre rest (take n qs)
  free_take pre rest zero qs h = tt
  free_take pre rest (suc n) [] h = tt
  free_take pre rest (suc n) (q ∷ qs) h = (h.0, free_take pre rest n qs h.1)

  ordered_few : (r : Row) (o : Order) → same_state (target_of o) t ≡ false → here (puts.took (ordered o) r) ≤ here r
  ordered_few r o e = few_or (same_state r.held t) (aims_at (order_in r.open) (state_number t)) (aims_at r.earlier (state_number t)) (same_state (target_of o) t) e

  gives : (pre : List Row) (r : Row) (rest : List Row) (q : Put) → Free pre rest q → sum_by here pre + (here r + sum_by here rest) ≤ 1 → sum_by here pre + (here (puts.took q r) + sum_by here rest) ≤ 1
  gives pre r rest (ordered o) ok h = at (same_state (target_of o) t) refl
    where
      at : (b : Bool) → same_state (target_of o) t ≡ b → sum_by here pre + (here (puts.took (ordered o) r) + sum_by here rest) ≤ 1
      at true e =
          let k = ok e in
          omega (arith, none_at pre (or_l _ _ k), none_at rest (or_r (some_at t pre) (some_at t rest) k), bit_one (at_state t (puts.took (ordered o) r)))
      at false e = omega (arith, ordered_few r o e)
  gives pre r rest q ok h = h

  walk : (pre : List Row) (r : Row) (rest : List Row) (qs : List Put) → FreeAll pre rest qs → sum_by here pre + (here r + sum_by here rest) ≤ 1 → sum_by here pre + (here (took_all qs r) + sum_by here rest) ≤ 1
  walk pre r rest [] ok h = h
  walk pre r rest (q ∷ qs) ok h = walk pre (puts.took q r) rest qs ok.1 (gives pre r rest q ok.0 h)

  -- what a row would put, by the book's answer
  free_puts : (pre rest : List Row) (checked due down f : Bool) (v : Option ℕ) (x : Option Order) → ((o : Order) → x ≡ Some o → Free pre rest (ordered o)) →
      FreeAll pre rest (cond checked (replies v ++ (cond due (status ∷ []) [] ++ (cond down (failure ∷ []) [] ++ cond f [] (orders x)))) [])
  free_puts pre rest checked due down f v x ok = grind arith

  wanted_free : (pre : List Row) (r : Row) (rest : List Row) (answer : Option Order) → ((o : Order) → answer ≡ Some o → Free pre rest (ordered o)) → FreeAll pre rest (wanted answer r)
  wanted_free pre r rest answer ok = free_puts pre rest (is_checked r.link) r.status_due r.failure_due (is_failure r.held) r.reply answer ok

  module _ (c : Setup) (s : Surroundings) (ok : (n : ℕ) (pre : List Row) (r : Row) (rest : List Row) (o : Order) → c.answers (view_of s n pre r rest) ≡ Some o → same_state (target_of o) t ≡ true → (some_at t pre || some_at t rest) ≡ false) where
    pub settle_few : (pre rest : List Row) (free : ℕ) → sum_by here pre + sum_by here rest ≤ 1 → sum_by here pre + sum_by here (settle c s pre rest free).rows ≤ 1
    settle_few pre [] free h = h
    settle_few pre (r ∷ rest) free h =
        let w = wanted_at c s pre r rest in
        let n = number_at c.settings (length pre) in
        let can = wanted_free pre r rest (c.answers (view_of s n pre r rest)) (λ o e. ok n pre r rest o e) in
        let after = pre ++ (took_all w r ∷ []) in
        let left = free - length w in
        let all : sum_by here pre + (here r + sum_by here rest) ≤ 1 = omega (arith, sum_by-cons here r rest) in
        let g = walk pre r rest w can all in
        let g2 = walk pre r rest (take free w) (free_take pre rest free w can) all in
        let push = sum_by_push here pre (took_all w r) in
        cond_both (ltb free (length w)) (settled_row c s (length pre) (take free w) r (ended rest)) (settled_row c s (length pre) w r (settle c s after rest left)) (λ (x : Settled). sum_by here pre + sum_by here x.rows ≤ 1)
        (λ _. omega (arith, sum_by-cons here (took_all (take free w) r) rest))
        (λ _. let ih = settle_few after rest left (omega arith) in omega (arith, sum_by-cons here (took_all w r) (settle c s after rest left).rows))
