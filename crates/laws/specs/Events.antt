-- What befalls a unit over a history: told by the frames added, the packets of granted messages, ticks,
-- losses and power-offs, and by what the rows hold.
use Rattle.std.specs.Prelude.{ℕ, ◌+◌, cond, ◌&&◌, List, [], ◌∷◌, ◌++◌, Some, None, Ok, Err, Option, Result, ◌==◌, nat_le, slice_index_or}
use Rattle.vocabulary.specs.Numbers.{case_of}
use Rattle.vocabulary.specs.Settings.{Agreed}
use Rattle.vocabulary.specs.States.{order_number}
use Rattle.vocabulary.specs.States as numbers
use Rattle.vocabulary.specs.declared.cause.Cause.{Cause}
use Rattle.vocabulary.specs.declared.fault.Fault.{Fault}
use Rattle.vocabulary.specs.declared.order.Order.{Order}
use Rattle.wire.specs.Messages.{Reading, read_message}
use Rattle.wire.specs.Packets.{Content, version, status, request, order, report, notice, other}
use Rattle.steps.specs.Rows.{fresh_row, is_failure}
use Rattle.steps.specs.Setups.{number_at}
use Rattle.steps.specs.Calls.{Step, connected, heard_from, lost_plainly, lost_finally, status_set, announcement_set, train_data_set, tick_passed, settled, powered_off}
use Rattle.steps.specs.Moments.{Moment}
use Rattle.steps.specs.Exchanges.{Exchange}
use Rattle.steps.specs.declared.row.Row.{Row}

-- What may befall a unit: it takes an order; it takes a Failure order; it reports or asks for the state
-- with a number; it sends a trip notice; it greets with a major; it is lost for good; a tick; power-off;
-- anything else.
pub data Happening : Type 0 where
  took : Order → Happening
  took_failure : Happening
  reported : ℕ → Happening
  asked : ℕ → Happening
  noticed : Happening
  greeted : ℕ → Happening
  parted : Happening
  ticked : Happening
  off : Happening
  elsewhere : Happening

-- A happening, and the cause if the unit failed at it.
pub record Event : Type 0 where
  pub what : Happening
  pub fails : Option Cause

abbrev pub just : Happening → Event
just w = record { what = w; fails = None }

-- ORDERS, read from the frames. STM-14 with 2 to 7 is that order, with 8 the Failure order.
abbrev pub orders_of : ℕ → List Event
orders_of v = cond (v == 8) (just took_failure ∷ []) (elim (case_of order_number numbers.orders v) [ None ↦ [] | Some o ↦ just (took o) ∷ [] ])

abbrev pub orders_by : Content → List Event
orders_by (version major minor) = []
orders_by (status level mode) = []
orders_by (request q) = []
orders_by (order v) = orders_of v
orders_by (report s) = []
orders_by notice = []
orders_by (other bits) = []

abbrev pub orders_among : List Content → List Event
orders_among [] = []
orders_among (p ∷ ps) = orders_by p ++ orders_among ps

-- The orders to the unit with the number x in a message as it is read.
abbrev pub orders_for : ℕ → Result Reading Fault → List Event
orders_for x (Ok m) = cond (m.sender == x) (orders_among m.packets) []
orders_for x (Err f) = []

-- The orders to it among frames, in their order.
abbrev pub orders_in : ℕ → ℕ → List (List ℕ) → List Event
orders_in trip x [] = []
orders_in trip x (f ∷ fs) = orders_for x (read_message trip f) ++ orders_in trip x fs

-- How many orders frames hold, to whatever unit, Failure orders left aside: every STM-14 with 2 to 7.
abbrev pub is_order : Content → ℕ
is_order (version major minor) = 0
is_order (status level mode) = 0
is_order (request q) = 0
is_order (order v) = cond (nat_le 2 v && nat_le v 7) 1 0
is_order (report s) = 0
is_order notice = 0
is_order (other bits) = 0

abbrev pub order_count : List Content → ℕ
order_count [] = 0
order_count (p ∷ ps) = is_order p + order_count ps

abbrev pub orders_read : Result Reading Fault → ℕ
orders_read (Ok m) = order_count m.packets
orders_read (Err f) = 0

abbrev pub orders_put : ℕ → List (List ℕ) → ℕ
orders_put trip [] = 0
orders_put trip (f ∷ fs) = orders_read (read_message trip f) + orders_put trip fs

-- HAPPENINGS of the unit with the number x, from the steps that calls are made of.
abbrev pub said_by : Content → Happening
said_by (version major minor) = greeted major
said_by (status level mode) = elsewhere
said_by (request q) = asked q
said_by (order v) = elsewhere
said_by (report s) = reported s
said_by notice = noticed
said_by (other bits) = elsewhere

abbrev pub happening : ℕ → Step → Happening
happening x (connected n) = elsewhere
happening x (heard_from n p) = cond (n == x) (said_by p) elsewhere
happening x (lost_plainly n) = elsewhere
happening x (lost_finally n) = cond (n == x) parted elsewhere
happening x (status_set l n m) = elsewhere
happening x (announcement_set n) = elsewhere
happening x (train_data_set valid) = elsewhere
happening x tick_passed = ticked
happening x settled = elsewhere
happening x powered_off = off

-- To fail is to come to hold 8; the row then shows the cause.
abbrev pub fell : Row → Row → Option Cause
fell r t = cond (is_failure r.held) None (cond (is_failure t.held) t.cause None)

-- The row of the unit at a place of the settings.
abbrev pub row_at : ℕ → List Row → Row
row_at i rows = slice_index_or rows i fresh_row

-- The events of the unit at the place i of the settings in one moment: what happened, and then the
-- orders to it.
abbrev pub events_at : Agreed → ℕ → List Row → Moment → List Event
events_at a i rows m =
    record { what = happening (number_at a i) m.step; fails = fell (row_at i rows) (row_at i m.rows) }
    ∷ orders_in a.trip (number_at a i) m.added

-- In moments one behind the other, and in a whole history.
abbrev pub events : Agreed → ℕ → List Row → List Moment → List Event
events a i rows [] = []
events a i rows (m ∷ ms) = events_at a i rows m ++ events a i m.rows ms

abbrev pub events_over : Agreed → ℕ → List Row → List Exchange → List Event
events_over a i rows [] = []
events_over a i rows (x ∷ h) = events a i rows x.moments ++ events_over a i x.rows h
