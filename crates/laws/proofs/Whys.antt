-- Why a row fails, step by step.
use Rattle.std.proofs.Common.{◌≡◌, ℕ, Bool, true, false, ◌&&◌, eqb, ◌↔◌, Some, None, Option, refl, arith}
use Rattle.vocabulary.specs.States.{state_number}
use Rattle.vocabulary.specs.declared.cause.Cause.{Cause}
use Rattle.vocabulary.specs.declared.order.Order.{Order}
use Rattle.vocabulary.specs.declared.versions.Versions.{Versions}
use Rattle.wire.specs.Packets.{Content, version, status, request, order, report, notice, other}
use Rattle.steps.specs.Rows.{fresh_row, is_failure, order_in, aims_at}
use Rattle.steps.specs.Reports.{sort_report, report_by}
use Rattle.steps.specs.Packets.{heard}
use Rattle.steps.specs.Ticks.{ticked_with}
use Rattle.steps.specs.Ticks as ticks
use Rattle.steps.specs.Moments as moments
use Rattle.steps.specs.declared.row.OpenOrder.{OpenOrder}
use Rattle.steps.specs.declared.row.Row.{Row}
use Rattle.laws.specs.Events.{Happening, reported, asked, parted, ticked, off, said_by, fell}
use Rattle.steps.specs.Requests.{may_ask, sort_request, request_by}
use Rattle.laws.specs.Reasons.{Reason}
use Rattle.laws.specs.Lawful.{ForTime}

-- of each cause that is not for time: the row fails by it exactly if it has not failed yet and there is the reason
abbrev pub Why : Versions → Row → Row → Happening → Type 0
Why v r t w = (c : Cause) → (ForTime (Some c) → ⊥) → (fell r t ≡ Some c) ↔ ((is_failure r.held ≡ false) × Reason v r w c)

-- a packet, by what it is to its row
why_report : (v : Versions) (r : Row) (s : ℕ) (b1 b2 b3 b4 b5 b6 : Bool) →
    is_failure r.held ≡ b1 → eqb s 8 ≡ b2 → aims_at (order_in r.open) s ≡ b3 → aims_at r.earlier s ≡ b4 → eqb (state_number r.held) s ≡ b5 → (eqb (state_number r.held) 0 && eqb s 1) ≡ b6 →
    Why v r (report_by (sort_report b1 b2 b3 b4 b5 b6) r) (reported s)
why_report v r s true b2 b3 b4 b5 b6 e1 e2 e3 e4 e5 e6 c n = grind arith
why_report v r s false true b3 b4 b5 b6 e1 e2 e3 e4 e5 e6 c n = grind arith
why_report v r s false false true b4 b5 b6 e1 e2 e3 _ _ _ c n = grind arith
why_report v r s false false false true b5 b6 e1 e2 e3 e4 e5 e6 c n = grind arith
why_report v r s false false false false true b6 e1 e2 e3 e4 e5 e6 c n = grind arith
why_report v r s false false false false false true e1 e2 e3 e4 e5 e6 c n = grind arith
why_report v r s false false false false false false e1 e2 e3 e4 e5 e6 c n = grind arith

why_request : (v : Versions) (r : Row) (q : ℕ) (b1 b2 b3 : Bool) → is_failure r.held ≡ b1 → aims_at (order_in r.open) q ≡ b2 → may_ask r.held q ≡ b3 →
    Why v r (request_by (sort_request b1 b2 b3) q r) (asked q)
why_request v r q true b2 b3 e1 e2 e3 c n = grind arith
why_request v r q false true b3 e1 e2 e3 c n = grind arith
why_request v r q false false true e1 e2 e3 c n = grind arith
why_request v r q false false false e1 e2 e3 c n = grind arith

pub why_heard : (v : Versions) (r : Row) (p : Content) → Why v r (heard v p r) (said_by p)
why_heard v r (version a b) c n = grind arith
why_heard v r (status l m) c n = grind arith
why_heard v r (request q) c n = why_request v r q (is_failure r.held) (aims_at (order_in r.open) q) (may_ask r.held q) refl refl refl c n
why_heard v r (order k) c n = grind arith
why_heard v r (report s) c n =
    why_report v r s (is_failure r.held) (eqb s 8) (aims_at (order_in r.open) s) (aims_at r.earlier s) (eqb (state_number r.held) s) (eqb (state_number r.held) 0 && eqb s 1) refl refl refl refl refl refl c n
why_heard v r notice c n = grind arith
why_heard v r (other bs) c n = grind arith

-- a tick: only for time
why_tick : (v : Versions) (lim : Order → ℕ) (r : Row) (g : Option OpenOrder) → Why v r (ticked_with lim g r) ticked
why_tick v lim r None c n = grind arith
why_tick v lim r (Some w) c n = grind arith

pub why_ticked : (v : Versions) (lim : Order → ℕ) (r : Row) → Why v r (ticks.ticked lim r) ticked
why_ticked v lim r = why_tick v lim r r.open

-- a final loss; power-off
pub why_parted : (v : Versions) (r : Row) → Why v r (moments.parted r) parted
why_parted v r c n = grind arith

pub why_off : (v : Versions) (r : Row) → Why v r fresh_row off
why_off v r c n = grind arith
