-- One row and the events of its unit, step by step.
use Rattle.std.proofs.Common.{◌≡◌, ℕ, ◌+◌, ◌<◌, ◌≤◌, Bool, true, false, cond, ◌&&◌, eqb, ◌↔◌, Some, None, Option, refl, arith}
use Rattle.vocabulary.specs.States.{state_number}
use Rattle.vocabulary.specs.declared.cause.Cause.{Cause}
use Rattle.vocabulary.specs.declared.cause.Cause.TheVariants as cause
use Rattle.vocabulary.specs.declared.link.Link.{Link}
use Rattle.vocabulary.specs.declared.link.Link.TheVariants as link
use Rattle.vocabulary.specs.declared.order.Order.{Order}
use Rattle.vocabulary.specs.declared.state.State.{State}
use Rattle.vocabulary.specs.declared.state.State.TheVariants as state
use Rattle.vocabulary.specs.declared.versions.Versions.{Versions}
use Rattle.wire.specs.Packets.{Content, version, status, request, order, report, notice, other}
use Rattle.steps.specs.Rows.{fresh_row, same_state, is_failure, order_in, open_count, aims_at, at_state, with_link, with_open, with_due}
use Rattle.steps.specs.Failing.{failed_by, lost_by}
use Rattle.steps.specs.Reports.{sort_report, report_by, answered_by, lost_by_report}
use Rattle.steps.specs.Requests.{may_ask, sort_request, request_by, lost_by_request}
use Rattle.steps.specs.Packets.{is_spoken, heard, answered_in, lost_in}
use Rattle.steps.specs.Ticks.{time_cause, is_late, older, ticked_with, lost_by_tick_with, lost_by_tick}
use Rattle.steps.specs.Ticks as ticks
use Rattle.steps.specs.Moments as moments
use Rattle.steps.specs.declared.row.OpenOrder.{OpenOrder}
use Rattle.steps.specs.declared.row.Row.{Row}
use Rattle.laws.specs.Events.{Happening, reported, asked, greeted, parted, ticked, off, elsewhere, said_by, fell}
use Rattle.laws.specs.OpenOrders.{Open, after, unless_failed, is_tick, is_taken, is_answered, is_followed, is_voided, is_failed}
use Rattle.laws.specs.Lawful.{ForTime, Due, is_off}

abbrev pub bit : Bool → ℕ
bit b = cond b 1 0

pub bit_one : (b : Bool) → bit b ≤ 1
bit_one b = grind arith

-- a row's open order, as events count it
abbrev pub opens : Option OpenOrder → Option Open
opens None = None
opens (Some w) = Some (record { order = w.order; ticks = w.age })

abbrev pub Young : (Order → ℕ) → Option OpenOrder → Type 0
Young lim None = Unit {0}
Young lim (Some w) = w.age < lim w.order

-- what every row keeps: a failed unit has no open order, and an open order is younger than its limit
pub record Sound (lim : Order → ℕ) (r : Row) : Type 0 where
  pub rest : is_failure r.held ≡ true → r.open ≡ None
  pub young : Young lim r.open

-- DA and HS
abbrev pub Top : State → Type 0
Top t = (same_state state.PowerOn t ≡ false) × (same_state state.Failure t ≡ false) × (same_state state.NoPower t ≡ false)

-- One step of a row, at which this happens to its unit, and of which it may fail; with the orders that
-- close as answered, failed and voided. This is all that the laws ask of a step of a row, but for reasons.
pub record Kept (lim : Order → ℕ) (r t : Row) (w : Happening) (f : Option Cause) (ans lst vd : ℕ) : Type 0 where
  pub moves : opens t.open ≡ unless_failed f (after w (opens r.open))
  pub sound : Sound lim t
  pub sent : (n : ℕ) → n + bit r.failure_due ≤ bit (is_failure r.held) → cond (is_off w) 0 n + bit t.failure_due ≤ bit (is_failure t.held)
  pub time : ForTime f ↔ ((is_tick w ≡ true) × Due lim (opens r.open))
  pub answers : ans ≡ is_answered (opens r.open) w
  pub fails : lst ≡ is_failed f (after w (opens r.open))
  pub voids : vd ≡ is_voided (opens r.open) w
  pub follows : 0 ≡ is_followed (opens r.open) w
  pub takes : 0 ≡ is_taken w
  pub stays : is_off w ≡ false → is_failure r.held ≡ true → is_failure t.held ≡ true
  pub fewer : (s : State) → Top s → bit (at_state s t) ≤ bit (at_state s r)

-- what alters the link and the due frames alone, but makes no Failure order due
pub kept_relinked : (lim : Order → ℕ) (r : Row) (l : Link) (v : Option ℕ) (s d : Bool) → Sound lim r → bit d ≤ bit r.failure_due →
    let t = with_due v s d (with_link l r) in Kept lim r t elsewhere (fell r t) 0 0 0
kept_relinked lim r l v s d so few = grind arith

pub kept_elsewhere : (lim : Order → ℕ) (r : Row) → Sound lim r → Kept lim r r elsewhere (fell r r) 0 0 0
kept_elsewhere lim r so = grind arith

-- a packet, by what it is to its row
kept_report : (lim : Order → ℕ) (r : Row) (s : ℕ) → Sound lim r → (b1 b2 b3 b4 b5 b6 : Bool) →
    is_failure r.held ≡ b1 → eqb s 8 ≡ b2 → aims_at (order_in r.open) s ≡ b3 → aims_at r.earlier s ≡ b4 →
    let x = sort_report b1 b2 b3 b4 b5 b6 in Kept lim r (report_by x r) (reported s) (fell r (report_by x r)) (answered_by x) (lost_by_report x r) 0
kept_report lim r s so true b2 b3 b4 b5 b6 e1 e2 e3 e4 = grind arith
kept_report lim r s so false true b3 b4 b5 b6 e1 e2 e3 e4 = grind arith
kept_report lim r s so false false true b4 b5 b6 e1 e2 e3 e4 = grind arith
kept_report lim r s so false false false true b5 b6 e1 e2 e3 e4 = grind arith
kept_report lim r s so false false false false true b6 e1 e2 e3 e4 = grind arith
kept_report lim r s so false false false false false true e1 e2 e3 e4 = grind arith
kept_report lim r s so false false false false false false e1 e2 e3 e4 = grind arith

kept_request : (lim : Order → ℕ) (r : Row) (q : ℕ) → Sound lim r → (b1 b2 b3 : Bool) → is_failure r.held ≡ b1 →
    let x = sort_request b1 b2 b3 in Kept lim r (request_by x q r) (asked q) (fell r (request_by x q r)) 0 (lost_by_request x r) 0
kept_request lim r q so b1 b2 b3 e = grind arith

kept_greeted : (lim : Order → ℕ) (r : Row) (major : ℕ) → Sound lim r → (b : Bool) →
    let t = cond b (with_due (Some major) true r.failure_due (with_link link.Checked r)) (failed_by cause.FinalDisconnection (with_link link.Final r)) in Kept lim r t (greeted major) (fell r t) 0 (cond b 0 (lost_by r)) 0
kept_greeted lim r major so b = grind arith

pub kept_heard : (lim : Order → ℕ) (v : Versions) (r : Row) (p : Content) → Sound lim r → Kept lim r (heard v p r) (said_by p) (fell r (heard v p r)) (answered_in p r) (lost_in v p r) 0
kept_heard lim v r (version a b) so = kept_greeted lim r a so (is_spoken v a)
kept_heard lim v r (status l m) so = grind arith
kept_heard lim v r (request q) so = kept_request lim r q so (is_failure r.held) (aims_at (order_in r.open) q) (may_ask r.held q) refl
kept_heard lim v r (order n) so = grind arith
kept_heard lim v r (report s) so =
    kept_report lim r s so (is_failure r.held) (eqb s 8) (aims_at (order_in r.open) s) (aims_at r.earlier s) (eqb (state_number r.held) s) (eqb (state_number r.held) 0 && eqb s 1) refl refl refl refl
kept_heard lim v r notice so = grind arith
kept_heard lim v r (other bs) so = grind arith

-- a tick
kept_aged : (lim : Order → ℕ) (r : Row) (w : OpenOrder) → let u = with_open (Some w) r in Sound lim u → (b : Bool) → is_late lim w ≡ b →
    let t = cond b (failed_by (time_cause w.order w.noted) u) (with_open (Some (older w)) u) in Kept lim u t ticked (fell u t) 0 (cond b (lost_by u) 0) 0
kept_aged lim r w so true e = grind arith
kept_aged lim r w so false e = grind arith

kept_tick : (lim : Order → ℕ) (r : Row) (g : Option OpenOrder) → let u = with_open g r in Sound lim u → Kept lim u (ticked_with lim g u) ticked (fell u (ticked_with lim g u)) 0 (lost_by_tick_with lim g u) 0
kept_tick lim r None so = grind arith
kept_tick lim r (Some w) so = kept_aged lim r w so (is_late lim w) refl

pub kept_ticked : (lim : Order → ℕ) (r : Row) → Sound lim r → Kept lim r (ticks.ticked lim r) ticked (fell r (ticks.ticked lim r)) 0 (lost_by_tick lim r) 0
kept_ticked lim r so = kept_tick lim r r.open so

-- a final loss; a changed level or mode; power-off
pub kept_parted : (lim : Order → ℕ) (r : Row) → Sound lim r → Kept lim r (moments.parted r) parted (fell r (moments.parted r)) 0 (lost_by r) 0
kept_parted lim r so = grind arith

pub kept_marked : (lim : Order → ℕ) (r : Row) (b : Bool) → Sound lim r → Kept lim r (moments.marked b r) elsewhere (fell r (moments.marked b r)) 0 0 0
kept_marked lim r b so = grind arith

pub kept_off : (lim : Order → ℕ) (r : Row) → Sound lim r → Kept lim r fresh_row off (fell r fresh_row) 0 0 (open_count r.open)
kept_off lim r so = grind arith
