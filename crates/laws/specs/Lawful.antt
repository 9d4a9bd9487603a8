-- The laws of a history.
use Rattle.std.specs.Prelude.{◌≡◌, ℕ, zero, suc, ◌+◌, ◌<◌, ◌≤◌, Bool, true, false, ◌↔◌, List, [], ◌∷◌, ◌++◌, length, Some, None, Ok, Err, count_by, Option, Result}
use Rattle.std.specs.List.{AllByRecursion}
use Rattle.vocabulary.specs.Causes.{cause_number}
use Rattle.vocabulary.specs.Rules.{among}
use Rattle.vocabulary.specs.Settings.{Agreed}
use Rattle.vocabulary.specs.declared.cause.Cause.{Cause}
use Rattle.vocabulary.specs.declared.fault.Fault.{Fault}
use Rattle.vocabulary.specs.declared.order.Order.{Order}
use Rattle.vocabulary.specs.declared.state.State.TheVariants.{HotStandby, DataAvailable}
use Rattle.wire.specs.Messages.{Reading, read_message}
use Rattle.steps.specs.Rows.{is_failure, order_in, at_state}
use Rattle.steps.specs.Setups.{Setup, number_at, fresh_rows}
use Rattle.steps.specs.Calls.{Step, steps_of, connected, heard_from, lost_plainly, lost_finally, status_set, announcement_set, train_data_set, tick_passed, settled, powered_off}
use Rattle.steps.specs.Moments.{Moment}
use Rattle.steps.specs.Exchanges.{Exchange, no_counts, added_in, rows_behind, FromFresh}
use Rattle.steps.specs.declared.counts.Counts.{Counts}
use Rattle.steps.specs.declared.row.Row.{Row}
use Rattle.laws.specs.Events.{Event, Happening, took, took_failure, reported, asked, noticed, greeted, parted, ticked, off, elsewhere, happening, fell, row_at, events, events_over, orders_put}
use Rattle.laws.specs.OpenOrders as orders
use Rattle.laws.specs.OpenOrders.{Open, Waits, OpenOrderIs, open_order, is_tick, is_open, along}
use Rattle.laws.specs.Reasons.{Reason}

-- The moments of a history, one behind the other, and the rows at its end.
abbrev pub moments_in : List Exchange → List Moment
moments_in [] = []
moments_in (x ∷ h) = x.moments ++ moments_in h

abbrev pub rows_after : List Row → List Exchange → List Row
rows_after rows [] = rows
rows_after rows (x ∷ h) = rows_after x.rows h

-- An exchange is told by its moments: they are the steps of the call in their order, and no others; what
-- they added, taken together, is what the call added, and the places left are those found less these; the
-- last rows are those behind the call. A refused call has no moment.
abbrev pub steps_in : List Moment → List Step
steps_in [] = []
steps_in (m ∷ ms) = m.step ∷ steps_in ms

abbrev pub Granted : Result Counts Fault → Result (List Step) Fault → List Moment → Type 0
Granted (Ok c) (Ok ws) ms = steps_in ms ≡ ws
Granted (Err f) (Err g) ms = (f ≡ g) × (ms ≡ [])
Granted (Ok c) (Err g) ms = ⊥
Granted (Err f) (Ok ws) ms = ⊥

pub record Told (a : Agreed) (rows : List Row) (x : Exchange) : Type 0 where
  pub steps : Granted x.answer (steps_of a rows x.call) x.moments
  pub added : x.added ≡ added_in x.moments
  pub left : x.left + length x.added ≡ x.found
  pub behind : x.rows ≡ rows_behind rows x.moments

-- AT MOST ONE at DA, and at most one at HS.
abbrev pub Alone : List Row → Type 0
Alone rows = (count_by (at_state DataAvailable) rows ≤ 1) × (count_by (at_state HotStandby) rows ≤ 1)

-- TIME. Causes 3 to 6.
abbrev pub ForTime : Option Cause → Type 0
ForTime None = ⊥
ForTime (Some c) = (3 ≤ cause_number c) × (cause_number c ≤ 6)

-- A tick would be the limit-th of the open order.
abbrev pub Due : (Order → ℕ) → Option Open → Type 0
Due limits None = ⊥
Due limits (Some w) = w.ticks + 1 ≡ limits w.order

-- COUNTS. A sum over the units at the places 0 to n - 1, and over the exchanges of a history.
abbrev pub total : ℕ → (ℕ → ℕ) → ℕ
total zero f = 0
total (suc n) f = f 0 + total n (λ i. f (suc i))

abbrev pub sum_over : (Exchange → ℕ) → List Exchange → ℕ
sum_over f [] = 0
sum_over f (x ∷ h) = f x + sum_over f h

-- The counts that a call answers; a refused call counts nothing.
abbrev pub counts_of : Result Counts Fault → Counts
counts_of (Ok c) = c
counts_of (Err f) = no_counts

-- Five counts, against the events of each of n units before a call and in it, and the frames added.
pub record Counted (n : ℕ) (trip : ℕ) (past now : ℕ → List Event) (frames : List (List ℕ)) (c : Counts) : Type 0 where
  pub put : c.taken ≡ orders_put trip frames
  pub taken : c.taken ≡ total n (λ i. along orders.taken (open_order (past i)) (now i))
  pub answered : c.answered ≡ total n (λ i. along orders.answered (open_order (past i)) (now i))
  pub followed : c.followed ≡ total n (λ i. along orders.followed (open_order (past i)) (now i))
  pub failed : c.failed ≡ total n (λ i. along orders.failed (open_order (past i)) (now i))
  pub voided : c.voided ≡ total n (λ i. along orders.voided (open_order (past i)) (now i))

-- FAILED. Whether the unit at a place holds 8.
abbrev pub holds_failure : ℕ → List Row → Bool
holds_failure i rows = is_failure (row_at i rows).held

abbrev pub is_power_off : Step → Bool
is_power_off (connected n) = false
is_power_off (heard_from n p) = false
is_power_off (lost_plainly n) = false
is_power_off (lost_finally n) = false
is_power_off (status_set l n m) = false
is_power_off (announcement_set n) = false
is_power_off (train_data_set valid) = false
is_power_off tick_passed = false
is_power_off settled = false
is_power_off powered_off = true

abbrev pub Stays : ℕ → List Row → List Moment → Type 0
Stays i rows [] = Unit {0}
Stays i rows (m ∷ ms) = (is_power_off m.step ≡ false → holds_failure i rows ≡ true → holds_failure i m.rows ≡ true) × Stays i m.rows ms

-- Failure orders among events, and events without a power-off.
abbrev pub is_failure_order : Happening → ℕ
is_failure_order (took o) = 0
is_failure_order took_failure = 1
is_failure_order (reported s) = 0
is_failure_order (asked q) = 0
is_failure_order noticed = 0
is_failure_order (greeted major) = 0
is_failure_order parted = 0
is_failure_order ticked = 0
is_failure_order off = 0
is_failure_order elsewhere = 0

abbrev pub failure_orders : List Event → ℕ
failure_orders [] = 0
failure_orders (e ∷ es) = is_failure_order e.what + failure_orders es

abbrev pub is_off : Happening → Bool
is_off (took o) = false
is_off took_failure = false
is_off (reported s) = false
is_off (asked q) = false
is_off noticed = false
is_off (greeted major) = false
is_off parted = false
is_off ticked = false
is_off off = true
is_off elsewhere = false

abbrev pub NoOff : List Event → Type 0
NoOff [] = Unit {0}
NoOff (e ∷ es) = (is_off e.what ≡ false) × NoOff es

-- REASONS. At each moment, of each cause that is not for time: the unit fails by it exactly if it has not
-- failed yet and there is the reason.
abbrev pub Reasoned : Agreed → ℕ → List Row → List Moment → Type 0
Reasoned a i rows [] = Unit {0}
Reasoned a i rows (m ∷ ms) =
    ((c : Cause) → (ForTime (Some c) → ⊥) →
    (fell (row_at i rows) (row_at i m.rows) ≡ Some c) ↔ ((holds_failure i rows ≡ false) × Reason a.versions (row_at i rows) (happening (number_at a i) m.step) c))
    × Reasoned a i m.rows ms

-- FRAMES. A frame added is a message that reads, for a unit of the settings.
abbrev pub ForUnit : Agreed → List ℕ → Type 0
ForUnit a f = (m : Reading) × (read_message a.trip f ≡ Ok m) × (among m.sender a.numbers ≡ true)

-- THE LAWS of a history h from fresh, of a control with settings a and these limits.
pub record Lawful (a : Agreed) (limits : Order → ℕ) (h : List Exchange) : Type 0 where
  -- the moments that the laws speak of are those of the calls
  pub told : (past later : List Exchange) (x : Exchange) → h ≡ past ++ (x ∷ later) → Told a (rows_after (fresh_rows a) past) x
  -- at most one unit at DA, and at most one at HS: after every exchange, and after every moment, so after
  -- every tick of a run
  pub alone : (past later : List Exchange) → h ≡ past ++ later → Alone (rows_after (fresh_rows a) past)
  pub alone_within : AllByRecursion (λ (m : Moment). Alone m.rows) (moments_in h)
  -- a unit fails for time at an event exactly if it is a tick, the unit has an order open, and this tick
  -- is the limit-th since the order was taken or, if it is conditional, since the latest notice
  pub timely : (i : ℕ) → i < length a.numbers → (before later : List Event) (e : Event) → events_over a i (fresh_rows a) h ≡ before ++ (e ∷ later) →
      ForTime e.fails ↔ ((is_tick e.what ≡ true) × ((w : Open) × Waits w before × (w.ticks + 1 ≡ limits w.order)))
  -- the open order is what it should be, and it is the one that the row shows
  pub opens : OpenOrderIs
  pub shows : (past later : List Exchange) → h ≡ past ++ later → (i : ℕ) → i < length a.numbers → (o : Order) →
      (order_in (row_at i (rows_after (fresh_rows a) past)).open ≡ Some o) ↔ ((w : Open) × Waits w (events_over a i (fresh_rows a) past) × (w.order ≡ o))
  -- a call's five counts are the orders taken and closed in it; over all calls, the orders put are those
  -- answered, followed, failed and voided, and those still open
  pub counted : (past later : List Exchange) (x : Exchange) → h ≡ past ++ (x ∷ later) →
      Counted (length a.numbers) a.trip (λ i. events_over a i (fresh_rows a) past) (λ i. events a i (rows_after (fresh_rows a) past) x.moments) x.added (counts_of x.answer)
  pub balance : sum_over (λ x. orders_put a.trip x.added) h ≡
      (((sum_over (λ x. (counts_of x.answer).answered) h + sum_over (λ x. (counts_of x.answer).followed) h) + sum_over (λ x. (counts_of x.answer).failed) h) + sum_over (λ x. (counts_of x.answer).voided) h)
      + total (length a.numbers) (λ i. is_open (open_order (events_over a i (fresh_rows a) h)))
  -- every frame added is for a unit of the settings
  pub for_units : (past later : List Exchange) (x : Exchange) → h ≡ past ++ (x ∷ later) → AllByRecursion (ForUnit a) x.added
  -- a failed unit stays failed until power-off, and gets at most one Failure order till then, and only if
  -- it has failed
  pub stays : (i : ℕ) → i < length a.numbers → Stays i (fresh_rows a) (moments_in h)
  pub once : (i : ℕ) → i < length a.numbers → (before between later : List Event) → events_over a i (fresh_rows a) h ≡ before ++ (between ++ later) → NoOff between → failure_orders between ≤ 1
  pub only_failed : (past later : List Exchange) → h ≡ past ++ later → (i : ℕ) → i < length a.numbers → (before between : List Event) →
      events_over a i (fresh_rows a) past ≡ before ++ between → NoOff between → 1 ≤ failure_orders between → holds_failure i (rows_after (fresh_rows a) past) ≡ true
  -- every other failure has its reason, and where there is the reason, there is the failure
  pub reasoned : (i : ℕ) → i < length a.numbers → Reasoned a i (fresh_rows a) (moments_in h)

-- Every history that the steps make from fresh, of any calls and whatever places they find, is lawful.
abbrev pub EveryRunLawful : Setup → Type 0
EveryRunLawful c = (h : List Exchange) → FromFresh c h → Lawful c.settings c.limits h
