-- The standard book: its rules in their order.
use Rattle.std.specs.Prelude.{ℕ, Bool, true, false, cond, not, ◌&&◌, ◌||◌, List, Some, None, codes, Option, ◌==◌}
use Rattle.std.specs.Option.{option_map, option_or}
use Rattle.std.specs.Bool.{then_some}
use Rattle.vocabulary.specs.Levels.{mode_number}
use Rattle.vocabulary.specs.declared.state.State.{State}
use Rattle.vocabulary.specs.declared.state.State.TheVariants as state
use Rattle.vocabulary.specs.declared.order.Order.{Order}
use Rattle.vocabulary.specs.declared.order.Order.TheVariants.{ToConfiguration, ToDataEntry, ToColdStandby, ToColdStandbyConditionally, ToHotStandby, ToDataAvailable}
use Rattle.vocabulary.specs.declared.mode.Mode.{Mode}
use Rattle.book.specs.declared.view.Want.{Want}
use Rattle.book.specs.declared.view.Want.TheVariants as want
use Rattle.book.specs.declared.view.LevelSeen.{LevelSeen}
use Rattle.book.specs.declared.view.LevelSeen.TheVariants.{NotNtc, Own, Anothers}
use Rattle.book.specs.declared.view.View.{View}
use Rattle.book.specs.declared.condition.Condition.{Condition}
use Rattle.book.specs.declared.condition.Condition.TheVariants.{ConfigurationRequested, DataEntryRequested, ColdStandbyRequested, LevelAnnounced, LevelInForce, StandbyNotNeeded, Tripped, LevelLeftForEtcs, LevelLeftForAnother}
use Rattle.book.specs.Orders.{free, kept}

-- The order that a condition calls for.
abbrev pub called_order : Condition → Order
called_order ConfigurationRequested = ToConfiguration
called_order DataEntryRequested = ToDataEntry
called_order ColdStandbyRequested = ToColdStandby
called_order LevelAnnounced = ToHotStandby
called_order LevelInForce = ToDataAvailable
called_order StandbyNotNeeded = ToColdStandby
called_order Tripped = ToColdStandby
called_order LevelLeftForEtcs = ToColdStandby
called_order LevelLeftForAnother = ToColdStandbyConditionally

-- What a condition is called, with its label in SUBSET-035 where it is that condition alone.
abbrev pub condition_name : Condition → List ℕ
condition_name ConfigurationRequested = codes "A2 CO requested"
condition_name DataEntryRequested = codes "A3 DE requested"
condition_name ColdStandbyRequested = codes "A4a CS requested"
condition_name LevelAnnounced = codes "A6 announced"
condition_name LevelInForce = codes "A9 in force"
condition_name StandbyNotNeeded = codes "standby not needed"
condition_name Tripped = codes "L4a tripped"
condition_name LevelLeftForEtcs = codes "level left for ETCS"
condition_name LevelLeftForAnother = codes "level left for another"

-- A mode in which a national system may be in charge: SN 13, SL 5 or NL 11.
abbrev pub national : Mode → Bool
national m = mode_number m == 13 || (mode_number m == 5 || mode_number m == 11)

-- The mode TR 7.
abbrev pub trip : Mode → Bool
trip m = mode_number m == 7

-- Is the level this STM's?
abbrev pub own : LevelSeen → Bool
own NotNtc = false
own Own = true
own Anothers = false

-- PO: with the want CO, go there.
abbrev pub rule_in_po : Option Want → Option Condition
rule_in_po None = None
rule_in_po (Some want.Configuration) = Some ConfigurationRequested
rule_in_po (Some want.DataEntry) = None
rule_in_po (Some want.ColdStandby) = None

-- CO: with the want CS, go there; with the want DE, go there if the train data is valid.
abbrev pub rule_in_co : Option Want → Bool → Option Condition
rule_in_co None valid = None
rule_in_co (Some want.Configuration) valid = None
rule_in_co (Some want.DataEntry) valid = cond valid (Some DataEntryRequested) None
rule_in_co (Some want.ColdStandby) valid = Some ColdStandbyRequested

-- DE: with the want CS, go there.
abbrev pub rule_in_de : Option Want → Option Condition
rule_in_de None = None
rule_in_de (Some want.Configuration) = None
rule_in_de (Some want.DataEntry) = None
rule_in_de (Some want.ColdStandby) = Some ColdStandbyRequested

-- CS or HS, to DA: at this STM's level, in mode SN, SL or NL, with no other at DA.
abbrev pub in_force : View → Bool
in_force v = own v.level && (national v.mode && not v.other_at_da)

-- CS, to HS: announced, with no other at HS.
abbrev pub announced_alone : View → Bool
announced_alone v = v.announced && not v.other_at_hs

-- HS, to CS: neither announced nor at this STM's level.
abbrev pub not_needed : View → Bool
not_needed v = not v.announced && not (own v.level)

-- CS: to DA first, else to HS.
abbrev pub rule_in_cs : View → Option Condition
rule_in_cs v = option_or (then_some (in_force v) LevelInForce) (then_some (announced_alone v) LevelAnnounced)

-- HS: to DA first, else to CS.
abbrev pub rule_in_hs : View → Option Condition
rule_in_hs v = option_or (then_some (in_force v) LevelInForce) (then_some (not_needed v) StandbyNotNeeded)

-- DA at a level, in a mode other than TR: off level NTC to CS, at another's level to CS conditionally.
abbrev pub rule_at_level : LevelSeen → Option Condition
rule_at_level NotNtc = Some LevelLeftForEtcs
rule_at_level Own = None
rule_at_level Anothers = Some LevelLeftForAnother

-- DA: in mode TR to CS; else by the level.
abbrev pub rule_in_da : View → Option Condition
rule_in_da v = option_or (then_some (trip v.mode) Tripped) (rule_at_level v.level)

-- The rules for each held state.
abbrev pub rule_in : State → View → Option Condition
rule_in state.NoPower v = None
rule_in state.PowerOn v = rule_in_po v.want
rule_in state.Configuration v = rule_in_co v.want v.train_data
rule_in state.DataEntry v = rule_in_de v.want
rule_in state.ColdStandby v = rule_in_cs v
rule_in state.HotStandby v = rule_in_hs v
rule_in state.DataAvailable v = rule_in_da v
rule_in state.Failure v = None

-- The first rule that fits.
abbrev pub first_rule : View → Option Condition
first_rule v = rule_in v.held v

-- Why the standard book orders: the first rule that fits, unless an open order forbids its order.
unfoldable pub reason_for : View → Option Condition
reason_for v = kept (λ c. free v.open (called_order c)) (first_rule v)

-- The standard book's answer: the order of that rule's condition.
abbrev pub standard_answer : View → Option Order
standard_answer v = option_map called_order (reason_for v)
