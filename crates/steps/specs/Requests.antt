-- Requests.
use Rattle.std.specs.Prelude.{ℕ, Bool, true, false, ◌||◌, ◌==◌}
use Rattle.vocabulary.specs.Numbers.{case_of}
use Rattle.vocabulary.specs.declared.cause.Cause.TheVariants as cause
use Rattle.vocabulary.specs.declared.state.State.{State}
use Rattle.vocabulary.specs.declared.state.State.TheVariants as state
use Rattle.book.specs.Views.{want_number, wants}
use Rattle.steps.specs.Rows.{is_failure, order_in, aims_at}
use Rattle.steps.specs.Failing.{failed_by, lost_by}
use Rattle.steps.specs.declared.row.Row.{Row}

-- Which numbers may be asked for: 2 in PO, 3 and 4 in CO, 4 in DE.
abbrev pub may_ask : State → ℕ → Bool
may_ask state.NoPower q = false
may_ask state.PowerOn q = q == 2
may_ask state.Configuration q = q == 3 || q == 4
may_ask state.DataEntry q = q == 4
may_ask state.ColdStandby q = false
may_ask state.HotStandby q = false
may_ask state.DataAvailable q = false
may_ask state.Failure q = false

-- What a request is to a row.
pub data Request : Type 0 where
  passed : Request
  allowed : Request
  denied : Request

-- The first that fits: the row holds 8, or the request is for the open order's target; it is allowed;
-- else it is denied.
abbrev pub sort_request : Bool → Bool → Bool → Request
sort_request true b c = passed
sort_request false true c = passed
sort_request false false true = allowed
sort_request false false false = denied

-- What a request for the state with the number q is to a row.
abbrev pub request_in : Row → ℕ → Request
request_in r q = sort_request (is_failure r.held) (aims_at (order_in r.open) q) (may_ask r.held q)

-- An allowed request becomes the want; a denied one fails the row by 1.
abbrev pub request_by : Request → ℕ → Row → Row
request_by passed q r = r
request_by allowed q r = record { held = r.held; want = case_of want_number wants q; link = r.link; «open» = r.open; earlier = r.earlier; cause = r.cause; reply = r.reply; status_due = r.status_due; failure_due = r.failure_due }
request_by denied q r = failed_by cause.Request r

abbrev pub requested : ℕ → Row → Row
requested q r = request_by (request_in r q) q r

-- How many orders a request closes as failed.
abbrev pub lost_by_request : Request → Row → ℕ
lost_by_request passed r = 0
lost_by_request allowed r = 0
lost_by_request denied r = lost_by r
