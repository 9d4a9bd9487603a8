-- Ticks.
use Rattle.std.specs.Prelude.{ℕ, ◌+◌, Bool, cond, Some, None, Option, nat_le}
use Rattle.vocabulary.specs.declared.cause.Cause.{Cause}
use Rattle.vocabulary.specs.declared.cause.Cause.TheVariants as cause
use Rattle.vocabulary.specs.declared.order.Order.{Order}
use Rattle.vocabulary.specs.declared.order.Order.TheVariants.{ToConfiguration, ToDataEntry, ToColdStandby, ToColdStandbyConditionally, ToHotStandby, ToDataAvailable}
use Rattle.steps.specs.Rows.{with_open}
use Rattle.steps.specs.Failing.{failed_by, lost_by}
use Rattle.steps.specs.declared.row.OpenOrder.{OpenOrder}
use Rattle.steps.specs.declared.row.Row.{Row}

-- The cause of failing for time: 4 on order 7; on order 5 it is 5, or 6 after a notice; 3 on every other.
abbrev pub time_cause : Order → Bool → Cause
time_cause ToConfiguration noted = cause.Time
time_cause ToDataEntry noted = cause.Time
time_cause ToColdStandby noted = cause.Time
time_cause ToColdStandbyConditionally noted = cond noted cause.TimeAfterNotice cause.TimeWithoutNotice
time_cause ToHotStandby noted = cause.Time
time_cause ToDataAvailable noted = cause.TimeToDataAvailable

-- One tick more would be the limit, or beyond it.
abbrev pub is_late : (Order → ℕ) → OpenOrder → Bool
is_late limits w = nat_le (limits w.order) (w.age + 1)

-- One tick older.
abbrev pub older : OpenOrder → OpenOrder
older w = record { order = w.order; age = w.age + 1; noted = w.noted }

-- A tick: the open order's age rises by one; at the limit the row fails.
abbrev pub ticked_with : (Order → ℕ) → Option OpenOrder → Row → Row
ticked_with limits None r = r
ticked_with limits (Some w) r = cond (is_late limits w) (failed_by (time_cause w.order w.noted) r) (with_open (Some (older w)) r)

abbrev pub ticked : (Order → ℕ) → Row → Row
ticked limits r = ticked_with limits r.open r

-- How many orders a tick closes as failed.
abbrev pub lost_by_tick_with : (Order → ℕ) → Option OpenOrder → Row → ℕ
lost_by_tick_with limits None r = 0
lost_by_tick_with limits (Some w) r = cond (is_late limits w) (lost_by r) 0

abbrev pub lost_by_tick : (Order → ℕ) → Row → ℕ
lost_by_tick limits r = lost_by_tick_with limits r.open r
