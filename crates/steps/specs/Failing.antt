-- Failing.
use Rattle.std.specs.Prelude.{ℕ, Bool, cond, ◌||◌, Some, None, nat_lt}
use Rattle.vocabulary.specs.Causes.{cause_number}
use Rattle.vocabulary.specs.declared.cause.Cause.{Cause}
use Rattle.vocabulary.specs.declared.state.State.TheVariants as state
use Rattle.steps.specs.Rows.{is_failure, open_count}
use Rattle.steps.specs.declared.row.Row.{Row}

-- The unit is ordered to Failure except for the causes 7 and 8.
abbrev pub is_ordered : Cause → Bool
is_ordered c = nat_lt (cause_number c) 7

-- A row that goes to 8: want, open and earlier order go, the cause is kept, and the Failure order
-- becomes due if the unit is ordered to Failure. The link and the other due frames stay.
abbrev pub down : Cause → Row → Row
down c r = record { held = state.Failure; want = None; link = r.link; «open» = None; earlier = None; cause = Some c; reply = r.reply; status_due = r.status_due; failure_due = is_ordered c || r.failure_due }

-- To fail a row that holds 8 already alters nothing.
abbrev pub failed_by : Cause → Row → Row
failed_by c r = cond (is_failure r.held) r (down c r)

-- How many orders that closes as failed: the open one, if there is one.
abbrev pub lost_by : Row → ℕ
lost_by r = cond (is_failure r.held) 0 (open_count r.open)
