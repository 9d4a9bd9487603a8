-- The bare book: no order to DE or HS, and no conditional one.
use Rattle.std.specs.Prelude.{Bool, false, not, ◌||◌, Some, None, Option, ◌==◌}
use Rattle.std.specs.Bool.{then_some}
use Rattle.vocabulary.specs.declared.state.State.{State}
use Rattle.vocabulary.specs.declared.state.State.TheVariants.{NoPower, PowerOn, Configuration, DataEntry, ColdStandby, HotStandby, DataAvailable, Failure}
use Rattle.vocabulary.specs.declared.order.Order.{Order}
use Rattle.vocabulary.specs.declared.order.Order.TheVariants.{ToConfiguration, ToColdStandby, ToDataAvailable}
use Rattle.book.specs.declared.view.Want.{Want}
use Rattle.book.specs.declared.view.Want.TheVariants as want
use Rattle.book.specs.declared.view.View.{View}
use Rattle.book.specs.Orders.{free, kept}
use Rattle.book.specs.Standard.{trip, own, in_force}
use Rattle.book.specs.Views.{want_number}

-- Is this what the STM asked for?
abbrev pub asked : Want → Option Want → Bool
asked w None = false
asked w (Some x) = want_number x == want_number w

-- The rules for each held state: to CO and to CS on request; from CS to DA as in the standard book;
-- from DA to CS in mode TR or at any level but this STM's.
abbrev pub bare_rule : State → View → Option Order
bare_rule NoPower v = None
bare_rule PowerOn v = then_some (asked want.Configuration v.want) ToConfiguration
bare_rule Configuration v = then_some (asked want.ColdStandby v.want) ToColdStandby
bare_rule DataEntry v = then_some (asked want.ColdStandby v.want) ToColdStandby
bare_rule ColdStandby v = then_some (in_force v) ToDataAvailable
bare_rule HotStandby v = None
bare_rule DataAvailable v = then_some (trip v.mode || not (own v.level)) ToColdStandby
bare_rule Failure v = None

-- The bare book's answer: the rule's order, unless an open order forbids it.
abbrev pub bare_answer : View → Option Order
bare_answer v = kept (free v.open) (bare_rule v.held v)
