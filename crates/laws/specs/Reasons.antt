-- Why a unit fails other than for time.
use Rattle.std.specs.Prelude.{◌≡◌, ℕ, ◌<◌, ◌⊎◌, Some, None, Option, ◌≢◌}
use Rattle.vocabulary.specs.States.{state_number, target_of}
use Rattle.vocabulary.specs.declared.cause.Cause.{Cause}
use Rattle.vocabulary.specs.declared.cause.Cause.TheVariants as cause
use Rattle.vocabulary.specs.declared.order.Order.{Order}
use Rattle.vocabulary.specs.declared.state.State.{State}
use Rattle.vocabulary.specs.declared.state.State.TheVariants.{NoPower, PowerOn, Configuration, DataEntry}
use Rattle.vocabulary.specs.declared.versions.Versions.{Versions}
use Rattle.steps.specs.Rows.{order_in}
use Rattle.steps.specs.declared.row.Row.{Row}
use Rattle.laws.specs.Events.{Happening, took, took_failure, reported, asked, noticed, greeted, parted, ticked, off, elsewhere}

-- There is an order, and its target has this number.
abbrev pub IsTarget : Option Order → ℕ → Type 0
IsTarget None n = ⊥
IsTarget (Some o) n = state_number (target_of o) ≡ n

-- A report that nothing called for: it is not 8, not the target of the open order nor of the earlier
-- one, not the held state, and not the first report, of PO, of a unit that holds NP.
pub record Uncalled (r : Row) (s : ℕ) : Type 0 where
  pub failure : s ≡ 8 → ⊥
  pub opened : IsTarget (order_in r.open) s → ⊥
  pub earlier : IsTarget r.earlier s → ⊥
  pub held : state_number r.held ≡ s → ⊥
  pub first : r.held ≡ NoPower → s ≢ 1

-- Requests that are allowed: 2 in PO, 3 and 4 in CO, 4 in DE.
abbrev pub MayAsk : State → ℕ → Type 0
MayAsk h q = ((h ≡ PowerOn) × (q ≡ 2)) ⊎ (((h ≡ Configuration) × ((q ≡ 3) ⊎ (q ≡ 4))) ⊎ ((h ≡ DataEntry) × (q ≡ 4)))

-- A request that is neither for the open order's target nor allowed.
pub record Barred (r : Row) (q : ℕ) : Type 0 where
  pub opened : IsTarget (order_in r.open) q → ⊥
  pub allowed : MayAsk r.held q → ⊥

-- A major outside the settings.
abbrev pub Foreign : Versions → ℕ → Type 0
Foreign v major = (major < v.lowest) ⊎ (v.highest < major)

-- The reason for a failure by a cause, from the unit's row before it. A report of 8: cause 8. A report
-- that nothing called for: 2. A request that is barred: 1. A greeting with a major outside the settings,
-- and a final loss: 7.
abbrev pub Reason : Versions → Row → Happening → Cause → Type 0
Reason v r (took o) c = ⊥
Reason v r took_failure c = ⊥
Reason v r (reported s) c = ((c ≡ cause.OwnReport) × (s ≡ 8)) ⊎ ((c ≡ cause.Report) × Uncalled r s)
Reason v r (asked q) c = (c ≡ cause.Request) × Barred r q
Reason v r noticed c = ⊥
Reason v r (greeted major) c = (c ≡ cause.FinalDisconnection) × Foreign v major
Reason v r parted c = c ≡ cause.FinalDisconnection
Reason v r ticked c = ⊥
Reason v r off c = ⊥
Reason v r elsewhere c = ⊥
