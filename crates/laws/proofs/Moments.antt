-- One smallest step: every row and the events of its unit.
use Rattle.std.proofs.Common.{◌≡◌, ℕ, ◌+◌, ◌<◌, ◌≤◌, Bool, true, false, cond, ◌||◌, eqb, List, [], ◌∷◌, length, get_or, set, Some, None, sum_by, Option, sym, refl, ap, ◌∙◌, subst, arith}
use Rattle.std.specs.List.{AllByRecursion}
use Rattle.std.proofs.lemmas.List.{get_or-set_same, get_or-set_other, length-set, length-map, length-replicate, get_or-replicate, get_or-map}
use Rattle.vocabulary.specs.Rules.{among}
use Rattle.vocabulary.specs.States.{target_of}
use Rattle.vocabulary.specs.declared.link.Link.TheVariants as link
use Rattle.vocabulary.specs.declared.order.Order.{Order}
use Rattle.vocabulary.specs.declared.order.Order.TheVariants.{ToHotStandby, ToDataAvailable}
use Rattle.vocabulary.specs.declared.state.State.{State}
use Rattle.vocabulary.specs.declared.state.State.TheVariants.{HotStandby, DataAvailable}
use Rattle.book.specs.declared.view.View.{View}
use Rattle.steps.specs.Rows.{fresh_row, is_failure, same_state, some_at, open_count, with_link}
use Rattle.steps.specs.Failing.{lost_by}
use Rattle.steps.specs.Packets.{heard, answered_in, lost_in}
use Rattle.steps.specs.Ticks.{lost_by_tick}
use Rattle.steps.specs.Ticks as ticks
use Rattle.steps.specs.Setups.{Setup, number_at, place_in, row_of}
use Rattle.steps.specs.Views.{view_of}
use Rattle.steps.specs.Puts.{Put, took_all, takes_all, follows_all}
use Rattle.steps.specs.Settling.{Settled, ended, settle}
use Rattle.steps.specs.Calls.{Step, connected, heard_from, lost_plainly, lost_finally, status_set, announcement_set, train_data_set, tick_passed, settled, powered_off}
use Rattle.steps.specs.Moments.{dropped, is_changed, marked, acted, surroundings_by, acted_answered, acted_failed, acted_voided, ends_settling, settled_by, moment_of}
use Rattle.steps.specs.Moments as steps
use Rattle.steps.specs.declared.row.Row.{Row}
use Rattle.steps.specs.declared.surroundings.Surroundings.{Surroundings}
use Rattle.laws.specs.Events.{Event, Happening, parted, elsewhere, said_by, happening, fell, row_at, events_at, orders_in, orders_put}
use Rattle.laws.specs.OpenOrders.{Open, open_order, along}
use Rattle.laws.specs.OpenOrders as orders
use Rattle.laws.specs.Lawful.{Alone, total, Counted, holds_failure, is_power_off, is_off, is_failure_order, ForUnit}
use Rattle.laws.proofs.Lists.{total_same, total_none, total_list, total_le, total_at}
use Rattle.laws.proofs.Rows.{opens, Sound, Kept, Top, kept_elsewhere, kept_heard, kept_ticked, kept_parted, kept_relinked, kept_marked, kept_off}
use Rattle.laws.proofs.Whys.{Why, why_heard, why_parted, why_ticked, why_off}
use Rattle.laws.proofs.Places.{Distinct, same_num, apart, placed, same_place}
use Rattle.std.proofs.lemmas.Bool.{cond_both}
use Rattle.laws.proofs.Settles.{events_of, Puts, nothing, settle_puts, each_at, each_length, fit_at, read_at, put_each, for_units_lem, takes_each, follows_each}
use Rattle.laws.proofs.Puts.{Both, both, ev, took_held, fell_took, here, settle_few}

-- a step of a unit of the settings
abbrev pub Valid : List ℕ → Step → Type 0
Valid ns (connected n) = among n ns ≡ true
Valid ns (heard_from n p) = among n ns ≡ true
Valid ns (lost_plainly n) = among n ns ≡ true
Valid ns (lost_finally n) = among n ns ≡ true
Valid ns w = Unit {0}

-- what a step closes in the row at a place
abbrev pub ans_at : Setup → Step → List Row → ℕ → ℕ
ans_at c (heard_from n p) rows i = cond (eqb n (number_at c.settings i)) (answered_in p (row_of c.settings rows n)) 0
ans_at c w rows i = 0

abbrev pub lost_at : Setup → Step → List Row → ℕ → ℕ
lost_at c (heard_from n p) rows i = cond (eqb n (number_at c.settings i)) (lost_in c.settings.versions p (row_of c.settings rows n)) 0
lost_at c (lost_finally n) rows i = cond (eqb n (number_at c.settings i)) (lost_by (row_of c.settings rows n)) 0
lost_at c tick_passed rows i = lost_by_tick c.limits (row_at i rows)
lost_at c w rows i = 0

abbrev opened : Row → ℕ
opened r = open_count r.open

abbrev pub void_at : Step → List Row → ℕ → ℕ
void_at powered_off rows i = opened (row_at i rows)
void_at w rows i = 0

acted_length : (c : Setup) (s : Surroundings) (w : Step) (rows : List Row) → length (acted c s w rows) ≡ length rows
acted_length c s (connected n) rows = length-set rows _ _
acted_length c s (heard_from n p) rows = length-set rows _ _
acted_length c s (lost_plainly n) rows = length-set rows _ _
acted_length c s (lost_finally n) rows = length-set rows _ _
acted_length c s (status_set l n m) rows = length-map rows _
acted_length c s (announcement_set n) rows = refl
acted_length c s (train_data_set b) rows = refl
acted_length c s tick_passed rows = length-map rows (ticks.ticked c.limits)
acted_length c s settled rows = refl
acted_length c s powered_off rows = length-replicate (length rows) fresh_row

-- one row is set: the row at its place is changed, and every other is as it was
at_set : (P : Bool → Row → Row → Type 0) (rows : List Row) (x i : ℕ) (f : Row → Row) → x < length rows → (b : Bool) → eqb x i ≡ b →
    P true (get_or rows i fresh_row) (f (get_or rows i fresh_row)) → P false (get_or rows x fresh_row) (get_or rows i fresh_row) →
    P b (get_or rows x fresh_row) (get_or (set rows x (f (get_or rows x fresh_row))) i fresh_row)
at_set P rows x i f hx true e moved left =
    let q = same_num x i e in
    subst (λ j. P true (get_or rows x fresh_row) (get_or (set rows x (f (get_or rows x fresh_row))) j fresh_row)) q
    (rw (get_or-set_same rows x (f (get_or rows x fresh_row)) fresh_row hx) (subst (λ j. P true (get_or rows j fresh_row) (f (get_or rows j fresh_row))) (sym q) moved))
at_set P rows x i f hx false e moved left = rw (get_or-set_other rows x i (f (get_or rows x fresh_row)) fresh_row (λ q. apart x i e (sym q))) left

module _ (c : Setup) (dist : Distinct c.settings.numbers) (s : Surroundings) (rows : List Row) (fit : length rows ≡ length c.settings.numbers) where
  abbrev ns : List ℕ
  ns = c.settings.numbers

  inside : (n : ℕ) → among n ns ≡ true → place_in ns n < length rows
  inside n v = omega (arith, (placed ns n v).inside)

  by_place : (n i : ℕ) → among n ns ≡ true → i < length rows → eqb (place_in ns n) i ≡ eqb n (number_at c.settings i)
  by_place n i v h = sym (same_place ns dist n i v (omega arith))

  -- all that is asked of a row's step, with its reasons
  abbrev Goes : Row → Row → Happening → ℕ → ℕ → ℕ → Type 0
  Goes r t w ans lst vd = Kept c.limits r t w (fell r t) ans lst vd × Why c.settings.versions r t w

  unmoved : (r t : Row) → Kept c.limits r t elsewhere (fell r t) 0 0 0 → is_failure t.held ≡ is_failure r.held → Goes r t elsewhere 0 0 0
  unmoved r t k e = grind arith

  act : (w : Step) (i : ℕ) → Valid ns w → i < length rows → Sound c.limits (row_at i rows) →
      Goes (row_at i rows) (row_at i (acted c s w rows)) (happening (number_at c.settings i) w) (ans_at c w rows i) (lost_at c w rows i) (void_at w rows i)
  act (connected n) i v h so =
      let r = row_at i rows in
      at_set (λ b u t. Goes r t elsewhere 0 0 0) rows (place_in ns n) i (with_link link.Open) (inside n v) (eqb (place_in ns n) i) refl
      (unmoved r (with_link link.Open r) (kept_relinked c.limits r link.Open r.reply r.status_due r.failure_due so (omega arith)) refl) (unmoved r r (kept_elsewhere c.limits r so) refl)
  act (heard_from n p) i v h so =
      let r = row_at i rows in
      at_set (λ b u t. Goes r t (cond b (said_by p) elsewhere) (cond b (answered_in p u) 0) (cond b (lost_in c.settings.versions p u) 0) 0) rows (place_in ns n) i (heard c.settings.versions p) (inside n v) (eqb n (number_at c.settings i)) (by_place n i v h)
      (kept_heard c.limits c.settings.versions r p so, why_heard c.settings.versions r p) (unmoved r r (kept_elsewhere c.limits r so) refl)
  act (lost_plainly n) i v h so =
      let r = row_at i rows in
      at_set (λ b u t. Goes r t elsewhere 0 0 0) rows (place_in ns n) i dropped (inside n v) (eqb (place_in ns n) i) refl
      (unmoved r (dropped r) (kept_relinked c.limits r link.Closed None false false so (omega arith)) refl) (unmoved r r (kept_elsewhere c.limits r so) refl)
  act (lost_finally n) i v h so =
      let r = row_at i rows in
      at_set (λ b u t. Goes r t (cond b parted elsewhere) 0 (cond b (lost_by u) 0) 0) rows (place_in ns n) i steps.parted (inside n v) (eqb n (number_at c.settings i)) (by_place n i v h)
      (kept_parted c.limits r so, why_parted c.settings.versions r) (unmoved r r (kept_elsewhere c.limits r so) refl)
  act (status_set l n m) i v h so =
      let r = row_at i rows in let b = is_changed s l m in
      rw (get_or-map (marked b) rows i fresh_row fresh_row h) (unmoved r (marked b r) (kept_marked c.limits r b so) refl)
  act (announcement_set n) i v h so = grind arith
  act (train_data_set b) i v h so = grind arith
  act tick_passed i v h so =
      let r = row_at i rows in
      rw (get_or-map (ticks.ticked c.limits) rows i fresh_row fresh_row h) (kept_ticked c.limits r so, why_ticked c.settings.versions c.limits r)
  act settled i v h so = grind arith
  act powered_off i v h so =
      let r = row_at i rows in
      rw (get_or-replicate (length rows) i fresh_row fresh_row h) (kept_off c.limits r so, why_off c.settings.versions r)

  -- the sums
  at_unit : (n k : ℕ) → among n ns ≡ true → total (length rows) (λ i. cond (eqb n (number_at c.settings i)) k 0) ≡ k
  at_unit n k v = total_same (length rows) (λ i. cond (eqb n (number_at c.settings i)) k 0) (λ i. cond (eqb (place_in ns n) i) k 0) (λ i h. ap (λ b. cond b k 0) (sym (by_place n i v h))) ∙ total_at (length rows) (place_in ns n) k (inside n v)

  none_total : 0 ≡ total (length rows) (λ i. 0)
  none_total = sym (total_none (length rows) (λ i. 0) (λ i h. refl))

  ans_total : (w : Step) → Valid ns w → acted_answered c w rows ≡ total (length rows) (ans_at c w rows)
  ans_total (connected n) v = none_total
  ans_total (heard_from n p) v = sym (at_unit n (answered_in p (row_of c.settings rows n)) v)
  ans_total (lost_plainly n) v = none_total
  ans_total (lost_finally n) v = none_total
  ans_total (status_set l n m) v = none_total
  ans_total (announcement_set n) v = none_total
  ans_total (train_data_set b) v = none_total
  ans_total tick_passed v = none_total
  ans_total settled v = none_total
  ans_total powered_off v = none_total

  lost_total : (w : Step) → Valid ns w → acted_failed c w rows ≡ total (length rows) (lost_at c w rows)
  lost_total (connected n) v = none_total
  lost_total (heard_from n p) v = sym (at_unit n (lost_in c.settings.versions p (row_of c.settings rows n)) v)
  lost_total (lost_plainly n) v = none_total
  lost_total (lost_finally n) v = sym (at_unit n (lost_by (row_of c.settings rows n)) v)
  lost_total (status_set l n m) v = none_total
  lost_total (announcement_set n) v = none_total
  lost_total (train_data_set b) v = none_total
  lost_total tick_passed v = sym (total_list (lost_by_tick c.limits) fresh_row rows)
  lost_total settled v = none_total
  lost_total powered_off v = none_total

  void_total : (w : Step) → acted_voided w rows ≡ total (length rows) (void_at w rows)
  void_total w = grind (arith, none_total, total_list opened fresh_row rows)

takes_total : (ps : List (List Put)) → takes_each ps ≡ total (length ps) (λ i. takes_all (get_or ps i []))
takes_total [] = refl
takes_total (p ∷ ps) = omega (arith, takes_total ps)

follows_total : (ps : List (List Put)) (rs : List Row) → length ps ≡ length rs → follows_each ps rs ≡ total (length ps) (λ i. follows_all (get_or ps i []) (get_or rs i fresh_row))
follows_total [] rs e = refl
follows_total (p ∷ ps) [] e = grind arith
follows_total (p ∷ ps) (r ∷ rs) e = omega (arith, follows_total ps rs (omega arith))

no_order : (x : ℕ) (w : Step) → is_failure_order (happening x w) ≡ 0
no_order x w = grind arith

off_step : (x : ℕ) (w : Step) → is_power_off w ≡ false → is_off (happening x w) ≡ false
off_step x w e = grind arith

-- what is asked of a book
pub record Good (c : Setup) : Type 0 where
  pub low : (o : Order) → 1 ≤ c.limits o
  pub da : (v : View) → c.answers v ≡ Some ToDataAvailable → v.other_at_da ≡ false
  pub hs : (v : View) → c.answers v ≡ Some ToHotStandby → v.other_at_hs ≡ false

module _ (c : Setup) (good : Good c) (dist : Distinct c.settings.numbers) (w : Step) (s : Surroundings) (rows : List Row) (free : ℕ) (fit : length rows ≡ length c.settings.numbers) (v : Valid c.settings.numbers w) (sound : (i : ℕ) → i < length rows → Sound c.limits (row_at i rows)) where
  pub puts_of : Puts c.settings (surroundings_by w s) 0 (acted c s w rows) (settled_by c s w rows free)
  puts_of = cond_both (ends_settling w) (settle c (surroundings_by w s) [] (acted c s w rows) free) (ended (acted c s w rows)) (λ t. Puts c.settings (surroundings_by w s) 0 (acted c s w rows) t)
      (λ _. settle_puts c (surroundings_by w s) [] (acted c s w rows) free 0 refl) (λ _. nothing c (surroundings_by w s) 0 (acted c s w rows))

  abbrev pub mid : ℕ → Row
  mid i = row_at i (acted c s w rows)

  abbrev pub put_at : ℕ → List Put
  put_at i = get_or puts_of.ps i []

  ps_long : length puts_of.ps ≡ length rows
  ps_long = puts_of.long ∙ acted_length c s w rows

  row_after : (i : ℕ) → row_at i (moment_of c s w rows free).rows ≡ took_all (put_at i) (mid i)
  row_after i = ap (λ rs. get_or rs i fresh_row) puts_of.rows ∙ each_at puts_of.ps (acted c s w rows) i puts_of.long

  pub after_length : length (moment_of c s w rows free).rows ≡ length rows
  after_length = ap length puts_of.rows ∙ each_length puts_of.ps (acted c s w rows) puts_of.long ∙ acted_length c s w rows

  fell_after : (i : ℕ) → fell (row_at i rows) (row_at i (moment_of c s w rows free).rows) ≡ fell (row_at i rows) (mid i)
  fell_after i = ap (λ (t : Row). fell (row_at i rows) t) (row_after i) ∙ fell_took (put_at i) (row_at i rows) (mid i)

  events_are : (i : ℕ) → i < length rows → events_at c.settings i rows (moment_of c s w rows free) ≡ ev (happening (number_at c.settings i) w) (fell (row_at i rows) (mid i)) ∷ events_of (put_at i)
  events_are i h =
      ap (λ f. ev (happening (number_at c.settings i) w) f ∷ orders_in c.settings.trip (number_at c.settings i) (settled_by c s w rows free).added) (fell_after i)
      ∙ ap (λ x. ev (happening (number_at c.settings i) w) (fell (row_at i rows) (mid i)) ∷ x) (ap (orders_in c.settings.trip (number_at c.settings i)) puts_of.added ∙ read_at c.settings (surroundings_by w s) dist 0 i i puts_of.ps (omega arith) (omega (arith, ps_long)) (omega (arith, ps_long)))

  pub kept_at : (i : ℕ) → i < length rows → Kept c.limits (row_at i rows) (mid i) (happening (number_at c.settings i) w) (fell (row_at i rows) (mid i)) (ans_at c w rows i) (lost_at c w rows i) (void_at w rows i)
  kept_at i h = (act c dist s rows fit w i v h (sound i h)).0

  pub at : (i : ℕ) → i < length rows → Both c.limits (row_at i rows) (row_at i (moment_of c s w rows free).rows) (events_at c.settings i rows (moment_of c s w rows free))
      (0 + takes_all (put_at i)) (ans_at c w rows i + 0) (0 + follows_all (put_at i) (mid i)) (lost_at c w rows i + 0) (void_at w rows i + 0)
  at i h =
      let b = both c.limits good.low (row_at i rows) (mid i) (happening (number_at c.settings i) w) (fell (row_at i rows) (mid i)) (ans_at c w rows i) (lost_at c w rows i) (void_at w rows i) (put_at i) (no_order (number_at c.settings i) w) (kept_at i h) (fit_at puts_of.ps (acted c s w rows) i puts_of.long puts_of.fits) in
      subst (λ (t : Row). Both c.limits (row_at i rows) t (events_at c.settings i rows (moment_of c s w rows free)) (0 + takes_all (put_at i)) (ans_at c w rows i + 0) (0 + follows_all (put_at i) (mid i)) (lost_at c w rows i + 0) (void_at w rows i + 0)) (sym (row_after i))
      (subst (λ es. Both c.limits (row_at i rows) (took_all (put_at i) (mid i)) es (0 + takes_all (put_at i)) (ans_at c w rows i + 0) (0 + follows_all (put_at i) (mid i)) (lost_at c w rows i + 0) (void_at w rows i + 0)) (sym (events_are i h)) b)

  pub counted : (past : ℕ → List Event) → ((i : ℕ) → i < length rows → opens (row_at i rows).open ≡ open_order (past i)) →
      Counted (length rows) c.settings.trip past (λ i. events_at c.settings i rows (moment_of c s w rows free)) (moment_of c s w rows free).added (moment_of c s w rows free).counts
  counted past same =
      let n = length rows in
      let es : ℕ → List Event = λ i. events_at c.settings i rows (moment_of c s w rows free) in
      let along_to : (f : Option Open → Event → ℕ) (i : ℕ) → i < n → along f (opens (row_at i rows).open) (es i) ≡ along f (open_order (past i)) (es i) = λ f i h. ap (λ z. along f z (es i)) (same i h) in
      record {
        put = puts_of.taken ∙ sym (put_each c.settings (surroundings_by w s) 0 puts_of.ps) ∙ ap (orders_put c.settings.trip) (sym puts_of.added);
        taken = puts_of.taken ∙ takes_total puts_of.ps ∙ ap (λ k. total k (λ i. takes_all (put_at i))) ps_long ∙ total_same n (λ i. takes_all (put_at i)) (λ i. along orders.taken (open_order (past i)) (es i)) (λ i h. omega arith ∙ (at i h).takes ∙ along_to orders.taken i h);
        answered = ans_total c dist s rows fit w v ∙ total_same n (ans_at c w rows) (λ i. along orders.answered (open_order (past i)) (es i)) (λ i h. omega arith ∙ (at i h).answers ∙ along_to orders.answered i h);
        followed = puts_of.followed ∙ follows_total puts_of.ps (acted c s w rows) puts_of.long ∙ ap (λ k. total k (λ i. follows_all (put_at i) (mid i))) ps_long ∙ total_same n (λ i. follows_all (put_at i) (mid i)) (λ i. along orders.followed (open_order (past i)) (es i)) (λ i h. omega arith ∙ (at i h).follows ∙ along_to orders.followed i h);
        failed = lost_total c dist s rows fit w v ∙ total_same n (lost_at c w rows) (λ i. along orders.failed (open_order (past i)) (es i)) (λ i h. omega arith ∙ (at i h).fails ∙ along_to orders.failed i h);
        voided = void_total c dist s rows fit w ∙ total_same n (void_at w rows) (λ i. along orders.voided (open_order (past i)) (es i)) (λ i h. omega arith ∙ (at i h).voids ∙ along_to orders.voided i h);
      }

  pub stays : (i : ℕ) → i < length rows → is_power_off w ≡ false → holds_failure i rows ≡ true → holds_failure i (moment_of c s w rows free).rows ≡ true
  stays i h e k = ap (λ (t : Row). is_failure t.held) (row_after i) ∙ ap is_failure (took_held (put_at i) (mid i)) ∙ (kept_at i h).stays (off_step (number_at c.settings i) w e) k

  pub reasoned : (i : ℕ) → i < length rows → Why c.settings.versions (row_at i rows) (row_at i (moment_of c s w rows free).rows) (happening (number_at c.settings i) w)
  reasoned i h k n =
      let y = (act c dist s rows fit w i v h (sound i h)).1 k n in
      ((λ e. y.0 (sym (fell_after i) ∙ e)), (λ e. fell_after i ∙ y.1 e))

  pub for_all : AllByRecursion (ForUnit c.settings) (moment_of c s w rows free).added
  for_all = subst (λ fs. AllByRecursion (ForUnit c.settings) fs) (sym puts_of.added) (for_units_lem c.settings (surroundings_by w s) 0 puts_of.ps (omega (arith, ps_long)))

  act_few : (t : State) → Top t → sum_by (here t) (acted c s w rows) ≤ sum_by (here t) rows
  act_few t top =
      let a = total_list (here t) fresh_row (acted c s w rows) in
      let b = total_list (here t) fresh_row rows in
      let k = ap (λ k. total k (λ i. here t (mid i))) (acted_length c s w rows) in
      omega (arith, total_le (length rows) (λ i. here t (mid i)) (λ i. here t (row_at i rows)) (λ i h. (kept_at i h).fewer t top))

  few : (t : State) → Top t → ((n : ℕ) (pre : List Row) (r : Row) (rest : List Row) (o : Order) → c.answers (view_of (surroundings_by w s) n pre r rest) ≡ Some o → same_state (target_of o) t ≡ true → (some_at t pre || some_at t rest) ≡ false) →
      sum_by (here t) rows ≤ 1 → sum_by (here t) (moment_of c s w rows free).rows ≤ 1
  few t top ok h =
      let k = act_few t top in
      cond_both (ends_settling w) (settle c (surroundings_by w s) [] (acted c s w rows) free) (ended (acted c s w rows)) (λ (z : Settled). sum_by (here t) z.rows ≤ 1)
      (λ _. let z = settle_few t c (surroundings_by w s) ok [] (acted c s w rows) free (omega arith) in omega arith) (λ _. omega arith)

  only_da : (n : ℕ) (pre : List Row) (r : Row) (rest : List Row) (o : Order) → c.answers (view_of (surroundings_by w s) n pre r rest) ≡ Some o → same_state (target_of o) DataAvailable ≡ true → (some_at DataAvailable pre || some_at DataAvailable rest) ≡ false
  only_da n pre r rest o e q = grind arith

  only_hs : (n : ℕ) (pre : List Row) (r : Row) (rest : List Row) (o : Order) → c.answers (view_of (surroundings_by w s) n pre r rest) ≡ Some o → same_state (target_of o) HotStandby ≡ true → (some_at HotStandby pre || some_at HotStandby rest) ≡ false
  only_hs n pre r rest o e q = grind arith

  pub alone : Alone rows → Alone (moment_of c s w rows free).rows
  alone h = (few DataAvailable (refl, refl, refl) only_da h.0, few HotStandby (refl, refl, refl) only_hs h.1)
