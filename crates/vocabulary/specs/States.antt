-- States and orders: their numbers, and where an order leads.
use Rattle.std.specs.Prelude.{ℕ, List, [], ◌∷◌, codes}
use Rattle.vocabulary.specs.declared.state.State.{State}
use Rattle.vocabulary.specs.declared.state.State.TheVariants.{NoPower, PowerOn, Configuration, DataEntry, ColdStandby, HotStandby, DataAvailable, Failure}
use Rattle.vocabulary.specs.declared.order.Order.{Order}
use Rattle.vocabulary.specs.declared.order.Order.TheVariants.{ToConfiguration, ToDataEntry, ToColdStandby, ToColdStandbyConditionally, ToHotStandby, ToDataAvailable}

-- The number of a state: NP 0, PO 1, CO 2, DE 3, CS 4, HS 6, DA 7, FA 8.
abbrev pub state_number : State → ℕ
state_number NoPower = 0
state_number PowerOn = 1
state_number Configuration = 2
state_number DataEntry = 3
state_number ColdStandby = 4
state_number HotStandby = 6
state_number DataAvailable = 7
state_number Failure = 8

-- All states.
abbrev pub states : List State
states = NoPower ∷ (PowerOn ∷ (Configuration ∷ (DataEntry ∷ (ColdStandby ∷ (HotStandby ∷ (DataAvailable ∷ (Failure ∷ [])))))))

-- The letters by which the field calls a state.
abbrev pub state_name : State → List ℕ
state_name NoPower = codes "NP"
state_name PowerOn = codes "PO"
state_name Configuration = codes "CO"
state_name DataEntry = codes "DE"
state_name ColdStandby = codes "CS"
state_name HotStandby = codes "HS"
state_name DataAvailable = codes "DA"
state_name Failure = codes "FA"

-- The number of an order is that of its target, but there are two to CS: 4 the unconditional and
-- 5 the conditional one.
abbrev pub order_number : Order → ℕ
order_number ToConfiguration = 2
order_number ToDataEntry = 3
order_number ToColdStandby = 4
order_number ToColdStandbyConditionally = 5
order_number ToHotStandby = 6
order_number ToDataAvailable = 7

-- All orders.
abbrev pub orders : List Order
orders = ToConfiguration ∷ (ToDataEntry ∷ (ToColdStandby ∷ (ToColdStandbyConditionally ∷ (ToHotStandby ∷ (ToDataAvailable ∷ [])))))

-- The target of an order, the state whose report answers it.
abbrev pub target_of : Order → State
target_of ToConfiguration = Configuration
target_of ToDataEntry = DataEntry
target_of ToColdStandby = ColdStandby
target_of ToColdStandbyConditionally = ColdStandby
target_of ToHotStandby = HotStandby
target_of ToDataAvailable = DataAvailable
