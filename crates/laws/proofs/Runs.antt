-- Whole histories.
use Rattle.std.proofs.Common.{◌≡◌, ℕ, zero, suc, ◌+◌, ◌-◌, ◌<◌, ◌≤◌, Bool, true, List, [], ◌∷◌, ◌++◌, length, replicate, Some, None, Ok, Err, sum_by, Option, Result, sym, refl, ap, ◌∙◌, subst, append_assoc, append-nil, arith}
use Rattle.std.specs.List.{AllByRecursion}
use Rattle.std.proofs.ByRecursion.{All-append}
use Rattle.std.proofs.lemmas.List.{length-replicate, get_or-replicate}
use Rattle.vocabulary.specs.Rules.{wrong_number}
use Rattle.vocabulary.specs.Settings.{Agreed}
use Rattle.vocabulary.specs.declared.fault.Fault.{Fault}
use Rattle.vocabulary.specs.declared.order.Order.{Order}
use Rattle.vocabulary.specs.declared.state.State.{State}
use Rattle.vocabulary.specs.declared.state.State.TheVariants.{HotStandby, DataAvailable}
use Rattle.book.specs.Laws.{Laws}
use Rattle.book.specs.declared.view.View.{View}
use Rattle.steps.specs.Rows.{fresh_row, is_failure, order_in}
use Rattle.steps.specs.Setups.{Setup, setup, fresh_rows, fresh_surroundings}
use Rattle.steps.specs.Calls.{Call, Step, steps_of}
use Rattle.steps.specs.Moments.{Moment, surroundings_by, moment_of, moments_of}
use Rattle.steps.specs.Exchanges.{Exchange, exchange, exchange_by, counts_in, rows_behind, Leads, FromFresh}
use Rattle.steps.specs.declared.counts.Counts.{Counts}
use Rattle.steps.specs.declared.row.OpenOrder.{OpenOrder}
use Rattle.steps.specs.declared.row.Row.{Row}
use Rattle.steps.specs.declared.surroundings.Surroundings.{Surroundings}
use Rattle.laws.specs.Events.{Event, row_at, events, events_over, orders_put}
use Rattle.laws.specs.OpenOrders.{Open, Waits, open_order, along, is_open}
use Rattle.laws.specs.OpenOrders as orders
use Rattle.laws.specs.Lawful.{moments_in, rows_after, steps_in, Granted, Told, Alone, Due, total, sum_over, counts_of, Counted, holds_failure, Stays, Reasoned, ForUnit, EveryRunLawful}
use Rattle.laws.proofs.Lists.{Timely, open_append, timely_append, timely_at, total_same, total_none, each_once}
use Rattle.laws.proofs.Waiting.{waits}
use Rattle.laws.proofs.Rows.{bit, opens, Sound}
use Rattle.laws.proofs.Places.{Distinct, distinct}
use Rattle.laws.proofs.Puts.{sent_from, SentAll, sent_append, sentall_append, here}
use Rattle.laws.proofs.Moments.{Good}
use Rattle.laws.proofs.Histories.{Tracks, Held, held_none, moments_held, moments_places, steps_valid, tracks_past, at_most_one, sent_since}

-- each exchange of a history
abbrev AllTold : Agreed → List Row → List Exchange → Type 0
AllTold a rows [] = Unit {0}
AllTold a rows (x ∷ h) = (Told a rows x × AllByRecursion (ForUnit a) x.added) × AllTold a x.rows h

told_at : (a : Agreed) (rows : List Row) (h later : List Exchange) (x : Exchange) → AllTold a rows (h ++ (x ∷ later)) → Told a (rows_after rows h) x × AllByRecursion (ForUnit a) x.added
told_at a rows [] later x t = t.0
told_at a rows (y ∷ h) later x t = told_at a y.rows h later x t.1

abbrev AllCounted : Agreed → (ℕ → List Event) → List Row → List Exchange → Type 0
AllCounted a past rows [] = Unit {0}
AllCounted a past rows (x ∷ h) = Counted (length a.numbers) a.trip past (λ i. events a i rows x.moments) x.added (counts_of x.answer) × AllCounted a (λ i. past i ++ events a i rows x.moments) x.rows h

record Over (a : Agreed) (lim : Order → ℕ) (rows : List Row) (past : ℕ → List Event) (h : List Exchange) : Type 0 where
  tracks : Tracks (length a.numbers) lim (rows_after rows h) (λ i. past i ++ events_over a i rows h)
  timely : (i : ℕ) → i < length a.numbers → Timely lim (open_order (past i)) (events_over a i rows h)
  counted : AllCounted a past rows h
  told : AllTold a rows h
  stays : (i : ℕ) → i < length a.numbers → Stays i rows (moments_in h)
  alone : AllByRecursion (λ (m : Moment). Alone m.rows) (moments_in h)
  few : (i : ℕ) → i < length a.numbers → SentAll (sent_from 0 (past i)) (events_over a i rows h)
  reasoned : (i : ℕ) → i < length a.numbers → Reasoned a i rows (moments_in h)

steps_are : (c : Setup) (s : Surroundings) (ws : List Step) (rows : List Row) (free : ℕ) → steps_in (moments_of c s ws rows free) ≡ ws
steps_are c s [] rows free = refl
steps_are c s (w ∷ ws) rows free = ap (λ x. w ∷ x) (steps_are c (surroundings_by w s) ws (moment_of c s w rows free).rows (free - length (moment_of c s w rows free).added))

stays_append : (i : ℕ) (rows : List Row) (ms ns : List Moment) → Stays i rows ms → Stays i (rows_behind rows ms) ns → Stays i rows (ms ++ ns)
stays_append i rows [] ns a b = b
stays_append i rows (m ∷ ms) ns a b = (a.0, stays_append i m.rows ms ns a.1 b)

reasoned_append : (a : Agreed) (i : ℕ) (rows : List Row) (ms ns : List Moment) → Reasoned a i rows ms → Reasoned a i (rows_behind rows ms) ns → Reasoned a i rows (ms ++ ns)
reasoned_append a i rows [] ns x y = y
reasoned_append a i rows (m ∷ ms) ns x y = (x.0, reasoned_append a i m.rows ms ns x.1 y)

-- what holds of one exchange
record One (a : Agreed) (lim : Order → ℕ) (rows : List Row) (past : ℕ → List Event) (x : Exchange) : Type 0 where
  held : Held a lim rows past x.moments
  told : Told a rows x
  counts : counts_of x.answer ≡ counts_in x.moments

module _ (c : Setup) (good : Good c) (dist : Distinct c.settings.numbers) where
  abbrev a : Agreed
  a = c.settings

  abbrev n : ℕ
  n = length c.settings.numbers

  one_by : (s : Surroundings) (rows : List Row) (call : Call) (found : ℕ) (past : ℕ → List Event) → Tracks n c.limits rows past → (r : Result (List Step) Fault) → steps_of a rows call ≡ r →
      One a c.limits rows past (exchange_by c s rows call found r)
  one_by s rows call found past t (Ok ws) e =
      let ms = moments_of c s ws rows found in
      record {
        held = moments_held c good dist ws s rows found past (steps_valid a rows call ws e) t;
        told = record {
          steps = subst (λ r. Granted (Ok (counts_in ms)) r ms) (sym e) (steps_are c s ws rows found);
          added = refl;
          left = omega (arith, moments_places c s ws rows found);
          behind = refl;
        };
        counts = refl;
      }
  one_by s rows call found past t (Err f) e = record {
    held = held_none a c.limits rows past t;
    told = record { steps = subst (λ r. Granted (Err f) r []) (sym e) (refl, refl); added = refl; left = omega arith; behind = refl };
    counts = refl;
  }

  one : (s : Surroundings) (rows : List Row) (call : Call) (found : ℕ) (past : ℕ → List Event) → Tracks n c.limits rows past → One a c.limits rows past (exchange c s rows call found)
  unfolding exchange
  one s rows call found past t = one_by s rows call found past t (steps_of a rows call) refl

  over : (h : List Exchange) (s : Surroundings) (rows : List Row) (past : ℕ → List Event) → Tracks n c.limits rows past → Leads c s rows h → Over a c.limits rows past h
  over [] s rows past t l = record {
    tracks = tracks_past n c.limits rows past (λ i. past i ++ []) (λ i. sym (append-nil (past i))) t;
    timely = λ i h. tt;
    counted = tt;
    told = tt;
    stays = λ i h. tt;
    alone = tt;
    few = λ i h. tt;
    reasoned = λ i h. tt;
  }
  over (x ∷ h) s rows past t l =
      let y : One a c.limits rows past x = subst (λ (z : Exchange). One a c.limits rows past z) (sym l.0) (one s rows x.call x.found past t) in
      let he = y.held in
      let to = y.told in
      let next : ℕ → List Event = λ i. past i ++ events a i rows x.moments in
      let tr : Tracks n c.limits x.rows next = subst (λ (rs : List Row). Tracks n c.limits rs next) (sym to.behind) he.tracks in
      let o = over h x.surroundings x.rows next tr l.1 in
      record {
        tracks = tracks_past n c.limits (rows_after x.rows h) (λ i. (past i ++ events a i rows x.moments) ++ events_over a i x.rows h) (λ i. past i ++ (events a i rows x.moments ++ events_over a i x.rows h)) (λ i. append_assoc (past i) (events a i rows x.moments) (events_over a i x.rows h)) o.tracks;
        timely = λ i k. timely_append c.limits (open_order (past i)) (events a i rows x.moments) (events_over a i x.rows h) (he.timely i k) (subst (λ z. Timely c.limits z (events_over a i x.rows h)) (open_append None (past i) (events a i rows x.moments)) (o.timely i k));
        counted = (subst (λ k. Counted n a.trip past (λ i. events a i rows x.moments) x.added k) (sym y.counts) (subst (λ fs. Counted n a.trip past (λ i. events a i rows x.moments) fs (counts_in x.moments)) (sym to.added) he.counted), o.counted);
        told = ((to, subst (λ fs. AllByRecursion (ForUnit a) fs) (sym to.added) he.for_units), o.told);
        stays = λ i k. stays_append i rows x.moments (moments_in h) (he.stays i k) (subst (λ (rs : List Row). Stays i rs (moments_in h)) to.behind (o.stays i k));
        alone = All-append (λ (m : Moment). Alone m.rows) x.moments (moments_in h) he.alone o.alone;
        few = λ i k. sentall_append (sent_from 0 (past i)) (events a i rows x.moments) (events_over a i x.rows h) (he.few i k) (subst (λ z. SentAll z (events_over a i x.rows h)) (sent_append 0 (past i) (events a i rows x.moments)) (o.few i k));
        reasoned = λ i k. reasoned_append a i rows x.moments (moments_in h) (he.reasoned i k) (subst (λ (rs : List Row). Reasoned a i rs (moments_in h)) to.behind (o.reasoned i k));
      }

-- the beginning of a history is one
pub leads_front : (c : Setup) (s : Surroundings) (rows : List Row) (h later : List Exchange) → Leads c s rows (h ++ later) → Leads c s rows h
leads_front c s rows [] later l = tt
leads_front c s rows (x ∷ h) later l = (l.0, leads_front c x.surroundings x.rows h later l.1)

-- counts
counted_past : (n trip : ℕ) (a b c : ℕ → List Event) (fs : List (List ℕ)) (k : Counts) → ((i : ℕ) → a i ≡ b i) → Counted n trip a c fs k → Counted n trip b c fs k
counted_past n trip a b c fs k e h = grind arith

counted_at : (a : Agreed) (past : ℕ → List Event) (rows : List Row) (h later : List Exchange) (x : Exchange) → AllCounted a past rows (h ++ (x ∷ later)) →
    Counted (length a.numbers) a.trip (λ i. past i ++ events_over a i rows h) (λ i. events a i (rows_after rows h) x.moments) x.added (counts_of x.answer)
counted_at a past rows [] later x t = counted_past (length a.numbers) a.trip past (λ i. past i ++ []) (λ i. events a i rows x.moments) x.added (counts_of x.answer) (λ i. sym (append-nil (past i))) t.0
counted_at a past rows (y ∷ h) later x t =
    counted_past (length a.numbers) a.trip (λ i. (past i ++ events a i rows y.moments) ++ events_over a i y.rows h) (λ i. past i ++ (events a i rows y.moments ++ events_over a i y.rows h)) (λ i. events a i (rows_after y.rows h) x.moments) x.added (counts_of x.answer)
    (λ i. append_assoc (past i) (events a i rows y.moments) (events_over a i y.rows h))
    (counted_at a (λ i. past i ++ events a i rows y.moments) y.rows h later x t.1)

opens_total : (n : ℕ) (past now : ℕ → List Event) →
    total n (λ i. along orders.taken (open_order (past i)) (now i)) + total n (λ i. is_open (open_order (past i))) ≡
    (((total n (λ i. along orders.answered (open_order (past i)) (now i)) + total n (λ i. along orders.followed (open_order (past i)) (now i))) + total n (λ i. along orders.failed (open_order (past i)) (now i))) + total n (λ i. along orders.voided (open_order (past i)) (now i)))
    + total n (λ i. is_open (open_order (past i ++ now i)))
opens_total zero past now = refl
opens_total (suc n) past now =
    omega (arith, each_once (open_order (past 0)) (now 0), ap is_open (open_append None (past 0) (now 0)), opens_total n (λ i. past (suc i)) (λ i. now (suc i)))

balanced : (a : Agreed) (past : ℕ → List Event) (rows : List Row) (h : List Exchange) → AllCounted a past rows h →
    sum_over (λ x. orders_put a.trip x.added) h + total (length a.numbers) (λ i. is_open (open_order (past i))) ≡
    (((sum_over (λ x. (counts_of x.answer).answered) h + sum_over (λ x. (counts_of x.answer).followed) h) + sum_over (λ x. (counts_of x.answer).failed) h) + sum_over (λ x. (counts_of x.answer).voided) h)
    + total (length a.numbers) (λ i. is_open (open_order (past i ++ events_over a i rows h)))
balanced a past rows [] t = omega (arith, total_same (length a.numbers) (λ i. is_open (open_order (past i ++ []))) (λ i. is_open (open_order (past i))) (λ i h. ap (λ es. is_open (open_order es)) (append-nil (past i))))
balanced a past rows (x ∷ h) t =
    let n = length a.numbers in
    let k = t.0 in
    let ot = opens_total n past (λ i. events a i rows x.moments) in
    let ih = balanced a (λ i. past i ++ events a i rows x.moments) x.rows h t.1 in
    let both = total_same n (λ i. is_open (open_order ((past i ++ events a i rows x.moments) ++ events_over a i x.rows h))) (λ i. is_open (open_order (past i ++ (events a i rows x.moments ++ events_over a i x.rows h))))
    (λ i q. ap (λ es. is_open (open_order es)) (append_assoc (past i) (events a i rows x.moments) (events_over a i x.rows h))) in
    omega (arith, k.put, k.taken, k.answered, k.followed, k.failed, k.voided, ot, ih, both)

-- due, and waiting
due_waits : (lim : Order → ℕ) (es : List Event) (s : Option Open) → open_order es ≡ s → Due lim s → (w : Open) × Waits w es × (w.ticks + 1 ≡ lim w.order)
due_waits lim es None e d = absurd d
due_waits lim es (Some w) e d = (w, (waits es w).0 e, d)

waits_due : (lim : Order → ℕ) (es : List Event) → ((w : Open) × Waits w es × (w.ticks + 1 ≡ lim w.order)) → Due lim (open_order es)
waits_due lim es t = subst (λ s. Due lim s) (sym ((waits es t.0).1 t.1)) t.2

-- the order that a row shows
some_order : (o p : Order) → Some o ≡ Some p → o ≡ p
some_order o p e = grind arith

shown_waits : (es : List Event) (g : Option OpenOrder) (o : Order) → opens g ≡ open_order es → order_in g ≡ Some o → (w : Open) × Waits w es × (w.order ≡ o)
shown_waits es None o e q = grind arith
shown_waits es (Some v) o e q = (record { order = v.order; ticks = v.age }, (waits es (record { order = v.order; ticks = v.age })).0 (sym e), some_order v.order o q)

open_order_lem : (w v : Open) → Some w ≡ Some v → w.order ≡ v.order
open_order_lem w v e = grind arith

waits_shown : (es : List Event) (g : Option OpenOrder) (o : Order) → opens g ≡ open_order es → ((w : Open) × Waits w es × (w.order ≡ o)) → order_in g ≡ Some o
waits_shown es None o e t = let q = e ∙ (waits es t.0).1 t.1 in let z : ◌≡◌ {A = ℕ} 0 1 = cc in absurd (let y : ⊥ = omega arith in y)
waits_shown es (Some v) o e t = ap Some (open_order_lem (record { order = v.order; ticks = v.age }) t.0 (e ∙ (waits es t.0).1 t.1) ∙ t.2)

-- a failed unit, by its bit
bit_true : (b : Bool) → 1 ≤ bit b → b ≡ true
bit_true b h = grind arith

-- a new control
few_fresh : (t : State) (n : ℕ) → here t fresh_row ≡ 0 → sum_by (here t) (replicate n fresh_row) ≡ 0
few_fresh t zero e = refl
few_fresh t (suc n) e = let ih = few_fresh t n e in grind arith

fresh_tracks : (n : ℕ) (lim : Order → ℕ) → Tracks n lim (replicate n fresh_row) (λ i. [])
fresh_tracks n lim =
    let at : (i : ℕ) → i < n → row_at i (replicate n fresh_row) ≡ fresh_row = λ i h. get_or-replicate n i fresh_row fresh_row h in
    record {
      long = length-replicate n fresh_row;
      sound = λ i h. subst (λ (r : Row). Sound lim r) (sym (at i h)) (record { rest = λ e. refl; young = tt });
      same = λ i h. ap (λ (r : Row). opens r.open) (at i h);
      sent = λ i h. subst (λ (r : Row). 0 + bit r.failure_due ≤ bit (is_failure r.held)) (sym (at i h)) (omega arith);
      alone = (omega (arith, few_fresh DataAvailable n refl), omega (arith, few_fresh HotStandby n refl));
    }

module _ (c : Setup) (good : Good c) (dist : Distinct c.settings.numbers) where
  from_fresh : (h : List Exchange) → FromFresh c h → Over c.settings c.limits (fresh_rows c.settings) (λ i. []) h
  from_fresh h l = over c good dist h fresh_surroundings (fresh_rows c.settings) (λ i. []) (fresh_tracks (length c.settings.numbers) c.limits) l

  front : (h past later : List Exchange) → FromFresh c h → h ≡ past ++ later → Over c.settings c.limits (fresh_rows c.settings) (λ i. []) past
  front h past later l e = from_fresh past (leads_front c fresh_surroundings (fresh_rows c.settings) past later (subst (λ (g : List Exchange). FromFresh c g) e l))

  pub lawful : EveryRunLawful c
  lawful h l =
      let a = c.settings in
      let lim = c.limits in
      let n = length a.numbers in
      let o = from_fresh h l in
      let to : (past later : List Exchange) (x : Exchange) → h ≡ past ++ (x ∷ later) → Told a (rows_after (fresh_rows a) past) x × AllByRecursion (ForUnit a) x.added = λ past later x q. told_at a (fresh_rows a) past later x (subst (λ (g : List Exchange). AllTold a (fresh_rows a) g) q o.told) in
      record {
        told = λ past later x q. (to past later x q).0;
        alone = λ past later q. (front h past later l q).tracks.alone;
        alone_within = o.alone;
        timely = λ i k before later e q.
            let t = timely_at lim None before later e (subst (λ es. Timely lim None es) q (o.timely i k)) in
            ((λ f. ((t.0 f).0, due_waits lim before (open_order before) refl (t.0 f).1)), (λ d. t.1 (d.0, waits_due lim before d.1)));
        opens = waits;
        shows = λ past later q i k p.
            let s = (front h past later l q).tracks.same i k in
            (shown_waits (events_over a i (fresh_rows a) past) (row_at i (rows_after (fresh_rows a) past)).open p s, waits_shown (events_over a i (fresh_rows a) past) (row_at i (rows_after (fresh_rows a) past)).open p s);
        counted = λ past later x q. counted_at a (λ i. []) (fresh_rows a) past later x (subst (λ (g : List Exchange). AllCounted a (λ i. []) (fresh_rows a) g) q o.counted);
        balance = (let b = balanced a (λ i. []) (fresh_rows a) h o.counted in omega (arith, total_none n (λ i. is_open (open_order [])) (λ i k. refl)));
        for_units = λ past later x q. (to past later x q).1;
        stays = o.stays;
        once = λ i k x y z e nof. at_most_one (events_over a i (fresh_rows a) h) x y z (o.few i k) e nof;
        only_failed = λ past later q i k x y e nof some.
            bit_true (holds_failure i (rows_after (fresh_rows a) past)) (omega (arith, (front h past later l q).tracks.sent i k, sent_since (events_over a i (fresh_rows a) past) x y e nof));
        reasoned = o.reasoned;
      }

-- with a book that keeps its laws, and settings whose numbers are not wrong
pub every_run_lawful : {B : Type 0} (answer : B → View → Option Order) (limit : B → Order → ℕ) → Laws answer limit → (a : Agreed) → wrong_number a.numbers ≡ None → (b : B) → EveryRunLawful (setup answer limit a b)
every_run_lawful answer limit laws a right b =
    lawful (setup answer limit a b) (record { low = λ o. (laws.limited b o).0; da = λ v. (laws.alone b v).1; hs = λ v. (laws.alone b v).0 }) (distinct a.numbers right)
