-- Moments one behind the other.
use Rattle.std.proofs.Common.{◌≡◌, ℕ, zero, suc, ◌+◌, ◌-◌, ◌<◌, ◌≤◌, Bool, true, false, cond, List, [], ◌∷◌, ◌++◌, map, length, drop, replicate, None, Ok, Err, Option, Result, sym, refl, ap, ◌∙◌, subst, append_assoc, append-nil, arith, length-append}
use Rattle.std.specs.List.{AllByRecursion}
use Rattle.std.proofs.ByRecursion.{All-append}
use Rattle.vocabulary.specs.Levels.{level_number, levels, mode_number, modes}
use Rattle.vocabulary.specs.Numbers.{case_of}
use Rattle.vocabulary.specs.Rules.{among}
use Rattle.vocabulary.specs.Settings.{Agreed}
use Rattle.vocabulary.specs.declared.fault.Fault.{Fault}
use Rattle.vocabulary.specs.declared.fault.Refusal.{Refusal}
use Rattle.vocabulary.specs.declared.fault.Refusal.TheVariants as refusal
use Rattle.vocabulary.specs.declared.level.Level.{Level}
use Rattle.vocabulary.specs.declared.mode.Mode.{Mode}
use Rattle.vocabulary.specs.declared.order.Order.{Order}
use Rattle.wire.specs.Messages.{Reading, read_message, unless}
use Rattle.wire.specs.Packets.{Content}
use Rattle.steps.specs.Rows.{is_failure}
use Rattle.steps.specs.Setups.{Setup, number_at}
use Rattle.steps.specs.Settling.{Settled, ended, settle}
use Rattle.steps.specs.Calls.{Call, connect, message, lost, status, announce, train_data, tick, run, power_off, Step, heard_from, tick_passed, settled, first_of, is_unknown, message_checks, message_steps, is_national, status_steps, steps_of}
use Rattle.steps.specs.Moments.{Moment, acted, surroundings_by, ends_settling, moment_of, moments_of}
use Rattle.steps.specs.Exchanges.{plus_counts, counts_in, added_in, rows_behind}
use Rattle.steps.specs.declared.counts.Counts.{Counts}
use Rattle.steps.specs.declared.row.Row.{Row}
use Rattle.steps.specs.declared.surroundings.Surroundings.{Surroundings}
use Rattle.laws.specs.Events.{Event, row_at, events_at, events, happening}
use Rattle.laws.specs.OpenOrders.{Open, open_from, open_order, along}
use Rattle.laws.specs.OpenOrders as orders
use Rattle.laws.specs.Lawful.{Alone, total, Counted, holds_failure, is_power_off, Stays, is_off, is_failure_order, failure_orders, NoOff, Reasoned, ForUnit}
use Rattle.laws.proofs.Lists.{Timely, open_append, along_append, timely_append, total_same, total_plus, total_none}
use Rattle.laws.proofs.Rows.{bit, opens, Sound}
use Rattle.laws.proofs.Whys.{Why}
use Rattle.laws.proofs.Places.{Distinct}
use Rattle.std.proofs.lemmas.Bool.{cond_both}
use Rattle.laws.proofs.Settles.{puts_append, settle_places}
use Rattle.laws.proofs.Puts.{sent_from, SentAll, sent_append, sentall_append}
use Rattle.laws.proofs.Moments.{Valid, Good}
use Rattle.laws.proofs.Moments

-- Failure orders between power-offs
sentall_drop : (n : ℕ) (es fs : List Event) → n ≤ 1 → SentAll n (es ++ fs) → (sent_from n es ≤ 1) × SentAll (sent_from n es) fs
sentall_drop n [] fs h a = (h, a)
sentall_drop n (e ∷ es) fs h a = sentall_drop (cond (is_off e.what) 0 n + is_failure_order e.what) es fs a.0 a.1

sentall_between : (n : ℕ) (es fs : List Event) → n ≤ 1 → SentAll n (es ++ fs) → NoOff es → n + failure_orders es ≤ 1
sentall_between n [] fs h a k = omega arith
sentall_between n (e ∷ es) fs h a k = let ih = sentall_between (cond (is_off e.what) 0 n + is_failure_order e.what) es fs a.0 a.1 k.1 in grind arith

pub at_most_one : (es a b c : List Event) → SentAll 0 es → es ≡ a ++ (b ++ c) → NoOff b → failure_orders b ≤ 1
at_most_one es a b c s e k =
    let d = sentall_drop 0 a (b ++ c) (omega arith) (subst (λ x. SentAll 0 x) e s) in
    omega (arith, sentall_between (sent_from 0 a) b c d.0 d.1 k)

sent_between : (n : ℕ) (es : List Event) → NoOff es → sent_from n es ≡ n + failure_orders es
sent_between n [] k = omega arith
sent_between n (e ∷ es) k = let ih = sent_between (cond (is_off e.what) 0 n + is_failure_order e.what) es k.1 in grind arith

pub sent_since : (es a b : List Event) → es ≡ a ++ b → NoOff b → failure_orders b ≤ sent_from 0 es
sent_since es a b e k = omega (arith, ap (sent_from 0) e, sent_append 0 a b, sent_between (sent_from 0 a) b k)

-- THE INVARIANT: each row says what the events of its unit say
pub record Tracks (n : ℕ) (lim : Order → ℕ) (rows : List Row) (past : ℕ → List Event) : Type 0 where
  pub long : length rows ≡ n
  pub sound : (i : ℕ) → i < n → Sound lim (row_at i rows)
  pub same : (i : ℕ) → i < n → opens (row_at i rows).open ≡ open_order (past i)
  pub sent : (i : ℕ) → i < n → sent_from 0 (past i) + bit (row_at i rows).failure_due ≤ bit (is_failure (row_at i rows).held)
  pub alone : Alone rows

-- what holds of a part of a history
pub record Held (a : Agreed) (lim : Order → ℕ) (rows : List Row) (past : ℕ → List Event) (ms : List Moment) : Type 0 where
  pub tracks : Tracks (length a.numbers) lim (rows_behind rows ms) (λ i. past i ++ events a i rows ms)
  pub timely : (i : ℕ) → i < length a.numbers → Timely lim (open_order (past i)) (events a i rows ms)
  pub counted : Counted (length a.numbers) a.trip past (λ i. events a i rows ms) (added_in ms) (counts_in ms)
  pub stays : (i : ℕ) → i < length a.numbers → Stays i rows ms
  pub alone : AllByRecursion (λ (m : Moment). Alone m.rows) ms
  pub few : (i : ℕ) → i < length a.numbers → SentAll (sent_from 0 (past i)) (events a i rows ms)
  pub reasoned : (i : ℕ) → i < length a.numbers → Reasoned a i rows ms
  pub for_units : AllByRecursion (ForUnit a) (added_in ms)

abbrev AllValid : List ℕ → List Step → Type 0
AllValid ns [] = Unit {0}
AllValid ns (w ∷ ws) = Valid ns w × AllValid ns ws

pub tracks_past : (n : ℕ) (lim : Order → ℕ) (rows : List Row) (past now : ℕ → List Event) → ((i : ℕ) → past i ≡ now i) → Tracks n lim rows past → Tracks n lim rows now
tracks_past n lim rows past now e t = grind arith

-- nothing happens
pub held_none : (a : Agreed) (lim : Order → ℕ) (rows : List Row) (past : ℕ → List Event) → Tracks (length a.numbers) lim rows past → Held a lim rows past []
held_none a lim rows past t = record {
  tracks = tracks_past (length a.numbers) lim rows past (λ i. past i ++ []) (λ i. sym (append-nil (past i))) t;
  timely = λ i h. tt;
  counted = record { put = refl; taken = zeros; answered = zeros; followed = zeros; failed = zeros; voided = zeros };
  stays = λ i h. tt;
  alone = tt;
  few = λ i h. tt;
  reasoned = λ i h. tt;
  for_units = tt;
}
  where
    zeros : 0 ≡ total (length a.numbers) (λ i. 0)
    zeros = sym (total_none (length a.numbers) (λ i. 0) (λ i h. refl))

total_append : (n : ℕ) (f : Option Open → Event → ℕ) (past a b : ℕ → List Event) →
    total n (λ i. along f (open_order (past i)) (a i ++ b i)) ≡ total n (λ i. along f (open_order (past i)) (a i)) + total n (λ i. along f (open_order (past i ++ a i)) (b i))
total_append n f past a b =
    total_same n (λ i. along f (open_order (past i)) (a i ++ b i)) (λ i. along f (open_order (past i)) (a i) + along f (open_order (past i ++ a i)) (b i))
    (λ i h. along_append f (open_order (past i)) (a i) (b i) ∙ ap (λ s. along f (open_order (past i)) (a i) + along f s (b i)) (sym (open_append None (past i) (a i))))
    ∙ total_plus n (λ i. along f (open_order (past i)) (a i)) (λ i. along f (open_order (past i ++ a i)) (b i))

pub counted_append : (n trip : ℕ) (past a b : ℕ → List Event) (fs gs : List (List ℕ)) (c d : Counts) → Counted n trip past a fs c → Counted n trip (λ i. past i ++ a i) b gs d → Counted n trip past (λ i. a i ++ b i) (fs ++ gs) (plus_counts c d)
counted_append n trip past a b fs gs c d x y = record {
  put = omega (arith, puts_append trip fs gs, x.put, y.put);
  taken = omega (arith, total_append n orders.taken past a b, x.taken, y.taken);
  answered = omega (arith, total_append n orders.answered past a b, x.answered, y.answered);
  followed = omega (arith, total_append n orders.followed past a b, x.followed, y.followed);
  failed = omega (arith, total_append n orders.failed past a b, x.failed, y.failed);
  voided = omega (arith, total_append n orders.voided past a b, x.voided, y.voided);
}

-- what holds of one moment
record First (a : Agreed) (lim : Order → ℕ) (rows : List Row) (past : ℕ → List Event) (m : Moment) : Type 0 where
  timely : (i : ℕ) → i < length a.numbers → Timely lim (open_order (past i)) (events_at a i rows m)
  counted : Counted (length a.numbers) a.trip past (λ i. events_at a i rows m) m.added m.counts
  stays : (i : ℕ) → i < length a.numbers → is_power_off m.step ≡ false → holds_failure i rows ≡ true → holds_failure i m.rows ≡ true
  alone : Alone m.rows
  few : (i : ℕ) → i < length a.numbers → SentAll (sent_from 0 (past i)) (events_at a i rows m)
  reasoned : (i : ℕ) → i < length a.numbers → Why a.versions (row_at i rows) (row_at i m.rows) (happening (number_at a i) m.step)
  for_units : AllByRecursion (ForUnit a) m.added

-- the first moment, and the others
held_cons : (a : Agreed) (lim : Order → ℕ) (rows : List Row) (past : ℕ → List Event) (m : Moment) (ms : List Moment) → First a lim rows past m →
    Held a lim m.rows (λ i. past i ++ events_at a i rows m) ms → Held a lim rows past (m ∷ ms)
held_cons a lim rows past m ms f h = record {
  tracks = tracks_past (length a.numbers) lim (rows_behind m.rows ms) (λ i. (past i ++ events_at a i rows m) ++ events a i m.rows ms) (λ i. past i ++ (events_at a i rows m ++ events a i m.rows ms)) (λ i. append_assoc (past i) (events_at a i rows m) (events a i m.rows ms)) h.tracks;
  timely = λ i k. timely_append lim (open_order (past i)) (events_at a i rows m) (events a i m.rows ms) (f.timely i k) (subst (λ s. Timely lim s (events a i m.rows ms)) (open_append None (past i) (events_at a i rows m)) (h.timely i k));
  counted = counted_append (length a.numbers) a.trip past (λ i. events_at a i rows m) (λ i. events a i m.rows ms) m.added (added_in ms) m.counts (counts_in ms) f.counted h.counted;
  stays = λ i k. (f.stays i k, h.stays i k);
  alone = (f.alone, h.alone);
  few = λ i k. sentall_append (sent_from 0 (past i)) (events_at a i rows m) (events a i m.rows ms) (f.few i k) (subst (λ x. SentAll x (events a i m.rows ms)) (sent_append 0 (past i) (events_at a i rows m)) (h.few i k));
  reasoned = λ i k. (f.reasoned i k, h.reasoned i k);
  for_units = All-append (ForUnit a) m.added (added_in ms) f.for_units h.for_units;
}

module _ (c : Setup) (good : Good c) (dist : Distinct c.settings.numbers) where
  abbrev a : Agreed
  a = c.settings

  abbrev n : ℕ
  n = length c.settings.numbers

  moment_held : (w : Step) (s : Surroundings) (rows : List Row) (free : ℕ) (past : ℕ → List Event) (ms : List Moment) → Valid a.numbers w → Tracks n c.limits rows past →
      (Tracks n c.limits (moment_of c s w rows free).rows (λ i. past i ++ events_at a i rows (moment_of c s w rows free)) → Held a c.limits (moment_of c s w rows free).rows (λ i. past i ++ events_at a i rows (moment_of c s w rows free)) ms) →
      Held a c.limits rows past (moment_of c s w rows free ∷ ms)
  moment_held w s rows free past ms v t more =
      let m = moment_of c s w rows free in
      let ln = t.long in
      let within : (i : ℕ) → i < n → i < length rows = λ i h. omega arith in
      let out : (i : ℕ) → i < length rows → i < n = λ i h. omega arith in
      let so : (i : ℕ) → i < length rows → Sound c.limits (row_at i rows) = λ i h. t.sound i (out i h) in
      let both = Moments.at c good dist w s rows free ln v so in
      let al = Moments.alone c good dist w s rows free ln v so t.alone in
      let tr : Tracks n c.limits m.rows (λ i. past i ++ events_at a i rows m) = record {
        long = Moments.after_length c good dist w s rows free ln v so ∙ ln;
        sound = λ i h. (both i (within i h)).sound;
        same = λ i h. (both i (within i h)).moves ∙ ap (λ z. open_from z (events_at a i rows m)) (t.same i h) ∙ sym (open_append None (past i) (events_at a i rows m));
        sent = λ i h. subst (λ k. k + bit (row_at i m.rows).failure_due ≤ bit (is_failure (row_at i m.rows).held)) (sym (sent_append 0 (past i) (events_at a i rows m))) ((both i (within i h)).sent (sent_from 0 (past i)) (t.sent i h));
        alone = al;
      } in
      held_cons a c.limits rows past m ms (record {
        timely = λ i h. subst (λ z. Timely c.limits z (events_at a i rows m)) (t.same i h) (both i (within i h)).time;
        counted = subst (λ k. Counted k a.trip past (λ i. events_at a i rows m) m.added m.counts) ln (Moments.counted c good dist w s rows free ln v so past (λ i h. t.same i (out i h)));
        stays = λ i h. Moments.stays c good dist w s rows free ln v so i (within i h);
        alone = al;
        few = λ i h. (both i (within i h)).few (sent_from 0 (past i)) (t.sent i h);
        reasoned = λ i h. Moments.reasoned c good dist w s rows free ln v so i (within i h);
        for_units = Moments.for_all c good dist w s rows free ln v so;
      }) (more tr)

  pub moments_held : (ws : List Step) (s : Surroundings) (rows : List Row) (free : ℕ) (past : ℕ → List Event) → AllValid a.numbers ws → Tracks n c.limits rows past → Held a c.limits rows past (moments_of c s ws rows free)
  moments_held [] s rows free past v t = held_none a c.limits rows past t
  moments_held (w ∷ ws) s rows free past v t =
      let m = moment_of c s w rows free in
      moment_held w s rows free past (moments_of c (surroundings_by w s) ws m.rows (free - length m.added)) v.0 t
      (λ tr. moments_held ws (surroundings_by w s) m.rows (free - length m.added) (λ i. past i ++ events_at a i rows m) v.1 tr)

-- no more frames than places
moment_places : (c : Setup) (s : Surroundings) (w : Step) (rows : List Row) (free : ℕ) → length (moment_of c s w rows free).added ≤ free
moment_places c s w rows free = cond_both (ends_settling w) (settle c (surroundings_by w s) [] (acted c s w rows) free) (ended (acted c s w rows)) (λ (t : Settled). length t.added ≤ free)
    (λ _. settle_places c (surroundings_by w s) [] (acted c s w rows) free) (λ _. omega arith)

pub moments_places : (c : Setup) (s : Surroundings) (ws : List Step) (rows : List Row) (free : ℕ) → length (added_in (moments_of c s ws rows free)) ≤ free
moments_places c s [] rows free = omega arith
moments_places c s (w ∷ ws) rows free =
    let m = moment_of c s w rows free in
    let rest = moments_of c (surroundings_by w s) ws m.rows (free - length m.added) in
    omega (arith, length-append m.added (added_in rest), moment_places c s w rows free, moments_places c (surroundings_by w s) ws m.rows (free - length m.added))

-- granted calls are of units of the settings
err_ok : {X : Type 0} (f : Fault) (x : X) → ◌≡◌ {A = Result X Fault} (Err f) (Ok x) → ⊥
err_ok f x e = grind arith

same_ok : {X : Type 0} (x y : X) → ◌≡◌ {A = Result X Fault} (Ok x) (Ok y) → x ≡ y
same_ok x y e = grind arith

known : (a : Agreed) (n : ℕ) (why : Refusal) (checks : List (Bool × Refusal)) (k ws : List Step) → unless (first_of ((is_unknown a n, why) ∷ checks)) (Ok k) ≡ Ok ws → (among n a.numbers ≡ true) × (k ≡ ws)
known a n why checks k ws e = grind arith

valid_to : (ns : List ℕ) (k ws : List Step) → k ≡ ws → AllValid ns k → AllValid ns ws
valid_to ns k ws e v = grind arith

heard_valid : (ns : List ℕ) (n : ℕ) (ps : List Content) → among n ns ≡ true → AllValid ns (map (heard_from n) ps ++ (settled ∷ []))
heard_valid ns n [] h = (tt, tt)
heard_valid ns n (p ∷ ps) h = (h, heard_valid ns n ps h)

run_valid : (ns : List ℕ) (k : ℕ) → AllValid ns (replicate k tick_passed)
run_valid ns zero = tt
run_valid ns (suc k) = (tt, run_valid ns k)

message_valid : (a : Agreed) (rows : List Row) (r : Result Reading Fault) (ws : List Step) → message_steps a rows r ≡ Ok ws → AllValid a.numbers ws
message_valid a rows (Err f) ws e = absurd (err_ok f ws e)
message_valid a rows (Ok m) ws e =
    let k = map (heard_from m.sender) m.packets ++ (settled ∷ []) in
    let q = known a m.sender refusal.UnknownStm (drop 1 (message_checks a rows m)) k ws e in
    valid_to a.numbers k ws q.1 (heard_valid a.numbers m.sender m.packets q.0)

status_valid : (ns : List ℕ) (l : Option Level) (m : Option Mode) (b : Bool) (n : ℕ) (ws : List Step) → status_steps l m b n ≡ Ok ws → AllValid ns ws
status_valid ns l m b n ws e = grind arith

pub steps_valid : (a : Agreed) (rows : List Row) (call : Call) (ws : List Step) → steps_of a rows call ≡ Ok ws → AllValid a.numbers ws
steps_valid a rows (connect n) ws e = grind arith
steps_valid a rows (message octets) ws e = message_valid a rows (read_message a.trip octets) ws e
steps_valid a rows (lost n final) ws e = grind arith
steps_valid a rows (status l n m) ws e = status_valid a.numbers (case_of level_number levels l) (case_of mode_number modes m) (is_national l n) n ws e
steps_valid a rows (announce n) ws e = grind arith
steps_valid a rows (train_data b) ws e = grind arith
steps_valid a rows tick ws e = grind arith
steps_valid a rows (run k) ws e = valid_to a.numbers (replicate k tick_passed) ws (same_ok (replicate k tick_passed) ws e) (run_valid a.numbers k)
steps_valid a rows power_off ws e = grind arith
