-- Rows, and what is asked of them.
use Rattle.std.specs.Prelude.{ℕ, Bool, true, false, ◌||◌, List, [], ◌∷◌, Some, None, Option, ◌==◌}
use Rattle.vocabulary.specs.States.{state_number, order_number, target_of}
use Rattle.vocabulary.specs.declared.state.State.{State}
use Rattle.vocabulary.specs.declared.state.State.TheVariants as state
use Rattle.vocabulary.specs.declared.order.Order.{Order}
use Rattle.vocabulary.specs.declared.link.Link.{Link}
use Rattle.vocabulary.specs.declared.link.Link.TheVariants as link
use Rattle.steps.specs.declared.row.OpenOrder.{OpenOrder}
use Rattle.steps.specs.declared.row.Row.{Row}

-- A fresh row: NP, closed, and nothing else.
abbrev pub fresh_row : Row
fresh_row = record { held = state.NoPower; want = None; link = link.Closed; «open» = None; earlier = None; cause = None; reply = None; status_due = false; failure_due = false }

-- Two states are the same if their numbers are.
abbrev pub same_state : State → State → Bool
same_state s t = state_number s == state_number t

-- A unit has failed if it holds 8.
abbrev pub is_failure : State → Bool
is_failure s = state_number s == 8

-- The links.
abbrev pub is_closed : Link → Bool
is_closed link.Closed = true
is_closed link.Open = false
is_closed link.Checked = false
is_closed link.Final = false

abbrev pub is_checked : Link → Bool
is_checked link.Closed = false
is_checked link.Open = false
is_checked link.Checked = true
is_checked link.Final = false

abbrev pub is_final : Link → Bool
is_final link.Closed = false
is_final link.Open = false
is_final link.Checked = false
is_final link.Final = true

-- The conditional order is 5.
abbrev pub is_conditional : Order → Bool
is_conditional o = order_number o == 5

-- The order that is open, if one is.
abbrev pub order_in : Option OpenOrder → Option Order
order_in None = None
order_in (Some w) = Some w.order

-- How many orders are open: none or one.
abbrev pub open_count : Option OpenOrder → ℕ
open_count None = 0
open_count (Some w) = 1

-- Whether there is an order whose target has this number.
abbrev pub aims_at : Option Order → ℕ → Bool
aims_at None n = false
aims_at (Some o) n = state_number (target_of o) == n

-- A unit is at a state if it holds it, or its open or its earlier order has that target.
abbrev pub at_state : State → Row → Bool
at_state s r = same_state r.held s || (aims_at (order_in r.open) (state_number s) || aims_at r.earlier (state_number s))

-- Whether one of these units is at a state.
abbrev pub some_at : State → List Row → Bool
some_at s [] = false
some_at s (r ∷ rs) = at_state s r || some_at s rs

-- The same row with another link; or with another open order.
abbrev pub with_link : Link → Row → Row
with_link l r = record { held = r.held; want = r.want; link = l; «open» = r.open; earlier = r.earlier; cause = r.cause; reply = r.reply; status_due = r.status_due; failure_due = r.failure_due }

abbrev pub with_open : Option OpenOrder → Row → Row
with_open w r = record { held = r.held; want = r.want; link = r.link; «open» = w; earlier = r.earlier; cause = r.cause; reply = r.reply; status_due = r.status_due; failure_due = r.failure_due }

-- The same row with other frames due: the version reply, the status, the Failure order.
abbrev pub with_due : Option ℕ → Bool → Bool → Row → Row
with_due v s f r = record { held = r.held; want = r.want; link = r.link; «open» = r.open; earlier = r.earlier; cause = r.cause; reply = v; status_due = s; failure_due = f }
