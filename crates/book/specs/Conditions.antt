-- When each condition calls for its order, in the words of SUBSET-035, and what it is to order exactly
-- then. STM X is the STM of the view, level NTC X the level that it serves. Nothing here says how a book
-- finds its answer.
use Rattle.std.specs.Prelude.{◌≡◌, true, false, ◌≢◌, ◌⊎◌, Some, None, Option}
use Rattle.vocabulary.specs.declared.state.State.{State}
use Rattle.vocabulary.specs.declared.state.State.TheVariants as state
use Rattle.vocabulary.specs.declared.order.Order.{Order}
use Rattle.vocabulary.specs.declared.order.Order.TheVariants.{ToConfiguration, ToDataEntry, ToColdStandby, ToColdStandbyConditionally, ToHotStandby, ToDataAvailable}
use Rattle.vocabulary.specs.declared.mode.Mode.TheVariants.{NationalSystem, Sleeping, NonLeading, Trip}
use Rattle.book.specs.declared.view.Want.{Want}
use Rattle.book.specs.declared.view.Want.TheVariants as want
use Rattle.book.specs.declared.view.LevelSeen.TheVariants.{NotNtc, Own, Anothers}
use Rattle.book.specs.declared.view.View.{View}
use Rattle.book.specs.declared.condition.Condition.{Condition}
use Rattle.book.specs.declared.condition.Condition.TheVariants.{ConfigurationRequested, DataEntryRequested, ColdStandbyRequested, LevelAnnounced, LevelInForce, StandbyNotNeeded, Tripped, LevelLeftForEtcs, LevelLeftForAnother}
use Rattle.book.specs.Orders.{follows}

-- STM X holds this state.
abbrev pub Holds : State → View → Type 0
Holds s v = v.held ≡ s

-- A request for this state was received from STM X.
abbrev pub Requested : Want → View → Type 0
Requested w v = v.want ≡ Some w

-- The mode is SN, SL or NL.
abbrev pub NationalMode : View → Type 0
NationalMode v = (v.mode ≡ NationalSystem) ⊎ ((v.mode ≡ Sleeping) ⊎ (v.mode ≡ NonLeading))

-- Calls v c o: in the state of affairs v, the condition c calls for the order o. Each condition stands
-- with its exclusions: no two hold at once, whatever order they are looked at in.
pub data Calls (v : View) : Condition → Order → Type 0 where
  -- A2: "Request CO state" received from STM X, in PO.
  configuration_requested : Holds state.PowerOn v
      → Requested want.Configuration v
      → Calls v ConfigurationRequested ToConfiguration
  -- A3: "Request DE state" received from STM X, in CO, and the train data is validated.
  data_entry_requested : Holds state.Configuration v
      → Requested want.DataEntry v
      → v.train_data ≡ true
      → Calls v DataEntryRequested ToDataEntry
  -- A4a: "Request CS state" received from STM X, in CO or in DE.
  cold_standby_requested : Holds state.Configuration v ⊎ Holds state.DataEntry v
      → Requested want.ColdStandby v
      → Calls v ColdStandbyRequested ToColdStandby
  -- A6: a transition to level NTC X is stored, STM X is in CS, and no other STM is at HS; but not where
  -- A9 calls for DA: the level is not NTC X, or the mode none of SN, SL and NL, or another STM is at DA.
  level_announced : Holds state.ColdStandby v
      → v.announced ≡ true
      → v.other_at_hs ≡ false
      → (v.level ≢ Own) ⊎ ((NationalMode v → ⊥) ⊎ (v.other_at_da ≡ true))
      → Calls v LevelAnnounced ToHotStandby
  -- A9: the level is NTC X, STM X is in CS or in HS, no other STM is at DA, and the mode is SN, SL or NL.
  level_in_force : Holds state.ColdStandby v ⊎ Holds state.HotStandby v
      → v.level ≡ Own
      → v.other_at_da ≡ false
      → NationalMode v
      → Calls v LevelInForce ToDataAvailable
  -- G4a, but for override, which is not seen: STM X is in HS, no transition to level NTC X is stored, and
  -- the level is not NTC X.
  standby_not_needed : Holds state.HotStandby v
      → v.announced ≡ false
      → v.level ≢ Own
      → Calls v StandbyNotNeeded ToColdStandby
  -- L4a: STM X is in DA, and the mode is TR.
  tripped : Holds state.DataAvailable v
      → v.mode ≡ Trip
      → Calls v Tripped ToColdStandby
  -- B4a, K4a: STM X is in DA, and the level is no longer NTC; but the mode is not TR.
  level_left_for_etcs : Holds state.DataAvailable v
      → v.level ≡ NotNtc
      → v.mode ≢ Trip
      → Calls v LevelLeftForEtcs ToColdStandby
  -- A4b, B4b: STM X is in DA, and the level is another STM's level NTC Y; but the mode is not TR.
  level_left_for_another : Holds state.DataAvailable v
      → v.level ≡ Anothers
      → v.mode ≢ Trip
      → Calls v LevelLeftForAnother ToColdStandbyConditionally

-- No open order forbids this order: if one is open, this one may follow it.
abbrev pub Permitted : View → Order → Type 0
Permitted v o = (before : Order) → v.open ≡ Some before → follows before o ≡ true

-- An answer to a view, and the condition named for it, are exactly what is called for.
pub record ExactlyWhen (v : View) (answer : Option Order) (named : Option Condition) : Type 0 where
  -- An order is answered only when a condition calls for it, the one named, and no open order forbids it.
  pub only_when : (o : Order) → answer ≡ Some o → (c : Condition) × ((named ≡ Some c) × Calls v c o × Permitted v o)
  -- Whenever a condition calls for an order, and no open order forbids it, the order is answered, and that
  -- condition named.
  pub whenever : (c : Condition) (o : Order) → Calls v c o → Permitted v o → (answer ≡ Some o) × (named ≡ Some c)
  -- At most one condition calls, and for one order.
  pub single : (c d : Condition) (o p : Order) → Calls v c o → Calls v d p → (c ≡ d) × (o ≡ p)
  -- Where no order is answered, no condition is named.
  pub unnamed : answer ≡ None → named ≡ None
