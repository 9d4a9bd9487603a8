-- The standard book orders exactly when a condition calls.
use Rattle.std.specs.Prelude.{◌≡◌, Bool, true, false, not, ◌&&◌, ◌≢◌, ◌⊎◌, Some, None, Option, refl}
use Rattle.std.proofs.Common.{arith, sym, ◌∙◌, ap, subst, inl, inr}
use Rattle.std.specs.Bool.{then_some}
use Rattle.std.specs.Option.{option_map, option_or}
use Rattle.vocabulary.specs.declared.state.State.{State}
use Rattle.vocabulary.specs.declared.state.State.TheVariants as state
use Rattle.vocabulary.specs.declared.order.Order.{Order}
use Rattle.vocabulary.specs.declared.order.Order.TheVariants.{ToDataAvailable}
use Rattle.vocabulary.specs.declared.mode.Mode.{Mode}
use Rattle.vocabulary.specs.declared.mode.Mode.TheVariants as mode
use Rattle.book.specs.declared.view.Want.{Want}
use Rattle.book.specs.declared.view.LevelSeen.{LevelSeen}
use Rattle.book.specs.declared.view.LevelSeen.TheVariants.{Own}
use Rattle.book.specs.declared.view.View.{View}
use Rattle.book.specs.declared.condition.Condition.{Condition}
use Rattle.book.specs.declared.condition.Condition.TheVariants.{LevelAnnounced, LevelInForce, StandbyNotNeeded, Tripped}
use Rattle.book.specs.Orders.{free}
use Rattle.book.specs.Standard.{called_order, national, trip, own, in_force, rule_in_po, rule_in_co, rule_in_de, rule_in_cs, rule_in_hs, rule_in_da, rule_at_level, rule_in, first_rule, reason_for, standard_answer}
use Rattle.book.specs.Kept.{kept_some}
use Rattle.book.specs.Conditions.{Holds, NationalMode, Calls, configuration_requested, data_entry_requested, cold_standby_requested, level_announced, level_in_force, standby_not_needed, tripped, level_left_for_etcs, level_left_for_another, Permitted, ExactlyWhen}

-- what a condition calls for is its own order
its_order : {v : View} {c : Condition} {o : Order} → Calls v c o → o ≡ called_order c
its_order h = grind arith

-- what a test says
own_level : (l : LevelSeen) → own l ≡ true → l ≡ Own
own_level l e = grind arith

own_false : (l : LevelSeen) → own l ≡ false → l ≢ Own
own_false l e h = grind arith

not_own : (l : LevelSeen) → l ≢ Own → own l ≡ false
not_own l n = grind arith

is_national_lem : (m : Mode) → national m ≡ true → (m ≡ mode.NationalSystem) ⊎ ((m ≡ mode.Sleeping) ⊎ (m ≡ mode.NonLeading))
is_national_lem m e = grind arith

national_mode : (m : Mode) → (m ≡ mode.NationalSystem) ⊎ ((m ≡ mode.Sleeping) ⊎ (m ≡ mode.NonLeading)) → national m ≡ true
national_mode m e = grind arith

is_trip : (m : Mode) → trip m ≡ true → m ≡ mode.Trip
is_trip m e = grind arith

no_trip : (m : Mode) → trip m ≡ false → m ≢ mode.Trip
no_trip m e h = grind arith

-- A9 calls exactly when its test is true
not_in_force : (v : View) → (v.level ≢ Own) ⊎ ((NationalMode v → ⊥) ⊎ (v.other_at_da ≡ true)) → in_force v ≡ false
not_in_force v x = grind (arith, is_national_lem)

why_not_in_force : (v : View) → in_force v ≡ false → (v.level ≢ Own) ⊎ ((NationalMode v → ⊥) ⊎ (v.other_at_da ≡ true))
why_not_in_force v e = grind arith

why_in_force : (v : View) → Holds state.ColdStandby v ⊎ Holds state.HotStandby v → in_force v ≡ true → Calls v LevelInForce ToDataAvailable
why_in_force v h e = grind (arith, level_in_force, is_national_lem)

is_in_force : (v : View) → v.level ≡ Own → v.other_at_da ≡ false → NationalMode v → in_force v ≡ true
is_in_force v l n m = grind arith

-- the rules at what their tests say
cs_announced : (v : View) → in_force v ≡ false → v.announced ≡ true → v.other_at_hs ≡ false → rule_in_cs v ≡ Some LevelAnnounced
cs_announced v f a n = grind arith

hs_not_needed : (v : View) → v.announced ≡ false → own v.level ≡ false → rule_in_hs v ≡ Some StandbyNotNeeded
hs_not_needed v a l = grind arith

da_left : (v : View) (l : LevelSeen) → trip v.mode ≡ false → v.level ≡ l → rule_in_da v ≡ rule_at_level l
da_left v l t e = grind arith

-- whatever calls is the first rule that fits
first : {v : View} {c : Condition} {o : Order} → Calls v c o → first_rule v ≡ Some c
first {v = v} (configuration_requested h w) = grind arith
first {v = v} (data_entry_requested h w t) = grind arith
first {v = v} (cold_standby_requested h w) = grind arith
first {v = v} (level_announced h a n x) = let f = not_in_force v x in grind arith
first {v = v} (level_in_force h l n m) = grind arith
first {v = v} (standby_not_needed h a l) = grind arith
first {v = v} (tripped h m) = grind arith
first {v = v} (level_left_for_etcs h l m) = grind arith
first {v = v} (level_left_for_another h l m) = grind arith

-- the first rule that fits calls
it : {v : View} {c d : Condition} → ◌≡◌ {A = Option Condition} (Some c) (Some d) → Calls v c (called_order c) → Calls v d (called_order d)
it {v = v} {c = c} {d = d} k h = let e : c ≡ d = cc in subst (λ (x : Condition). Calls v x (called_order x)) e h

in_po : (v : View) → Holds state.PowerOn v → (w : Option Want) → v.want ≡ w → (c : Condition) → rule_in_po w ≡ Some c → Calls v c (called_order c)
in_po v h w e c k = grind (arith, configuration_requested)

in_co : (v : View) → Holds state.Configuration v → (w : Option Want) → v.want ≡ w → (t : Bool) → v.train_data ≡ t
    → (c : Condition) → rule_in_co w t ≡ Some c → Calls v c (called_order c)
in_co v h w e t d c k = grind (arith, data_entry_requested, cold_standby_requested)

in_de : (v : View) → Holds state.DataEntry v → (w : Option Want) → v.want ≡ w → (c : Condition) → rule_in_de w ≡ Some c → Calls v c (called_order c)
in_de v h w e c k = grind (arith, cold_standby_requested)

in_cs : (v : View) → Holds state.ColdStandby v → (f : Bool) → in_force v ≡ f → (a : Bool) → v.announced ≡ a → (n : Bool) → v.other_at_hs ≡ n
    → (c : Condition) → option_or (then_some f LevelInForce) (then_some (a && not n) LevelAnnounced) ≡ Some c → Calls v c (called_order c)
in_cs v h true e a ea n en c k = it k (why_in_force v (inl h) e)
in_cs v h false e a ea n en c k = let x = why_not_in_force v e in grind (arith, level_announced)

in_hs : (v : View) → Holds state.HotStandby v → (f : Bool) → in_force v ≡ f → (a : Bool) → v.announced ≡ a → (l : Bool) → own v.level ≡ l
    → (c : Condition) → option_or (then_some f LevelInForce) (then_some (not a && not l) StandbyNotNeeded) ≡ Some c → Calls v c (called_order c)
in_hs v h true e a ea l el c k = it k (why_in_force v (inr h) e)
in_hs v h false e a ea l el c k = grind (arith, standby_not_needed)

in_da : (v : View) → Holds state.DataAvailable v → (t : Bool) → trip v.mode ≡ t → (l : LevelSeen) → v.level ≡ l
    → (c : Condition) → option_or (then_some t Tripped) (rule_at_level l) ≡ Some c → Calls v c (called_order c)
in_da v h t e l el c k = grind (arith, tripped, level_left_for_etcs, level_left_for_another)

calls : (s : State) (v : View) → Holds s v → (c : Condition) → rule_in s v ≡ Some c → Calls v c (called_order c)
calls state.NoPower v h c k = grind arith
calls state.PowerOn v h c k = in_po v h v.want refl c k
calls state.Configuration v h c k = in_co v h v.want refl v.train_data refl c k
calls state.DataEntry v h c k = in_de v h v.want refl c k
calls state.ColdStandby v h c k = in_cs v h (in_force v) refl v.announced refl v.other_at_hs refl c k
calls state.HotStandby v h c k = in_hs v h (in_force v) refl v.announced refl (own v.level) refl c k
calls state.DataAvailable v h c k = in_da v h (trip v.mode) refl v.level refl c k
calls state.Failure v h c k = grind arith

-- no open order forbids
free_permits : (v : View) (o : Order) → free v.open o ≡ true → Permitted v o
free_permits v o f before e = grind arith

permits_free : (v : View) (o : Order) → Permitted v o → free v.open o ≡ true
permits_free v o h = grind arith

-- the reason is the condition that calls
pub reason_calls : (v : View) (c : Condition) → reason_for v ≡ Some c → Calls v c (called_order c) × Permitted v (called_order c)
unfolding reason_for
reason_calls v c e =
    let k = kept_some (λ d. free v.open (called_order d)) (first_rule v) c e in
    (calls v.held v refl c k.0, free_permits v (called_order c) k.1)

pub called_reason : (v : View) (c : Condition) (o : Order) → Calls v c o → Permitted v o → reason_for v ≡ Some c
unfolding reason_for
called_reason v c o h p = let f = first h in let q = its_order h in let k = permits_free v o p in grind arith

-- an answer has a reason
mapped_some : {X Y : Type 0} (f : X → Y) (r : Option X) (y : Y) → option_map f r ≡ Some y → (x : X) × ((r ≡ Some x) × (f x ≡ y))
mapped_some f r y e = grind arith

mapped_none : {X Y : Type 0} (f : X → Y) (r : Option X) → option_map f r ≡ None → r ≡ None
mapped_none f r e = grind arith

-- the standard book orders exactly when a condition calls, and its reason names the condition
pub exactly : (v : View) → ExactlyWhen v (standard_answer v) (reason_for v)
exactly v = record {
  only_when = λ o e. let m = mapped_some called_order (reason_for v) o e in
      let k = reason_calls v m.0 m.1.0 in
      (m.0, (m.1.0, subst (Calls v m.0) m.1.1 k.0, subst (Permitted v) m.1.1 k.1));
  whenever = λ c o h p. let r = called_reason v c o h p in
      (ap (option_map called_order) r ∙ ap Some (sym (its_order h)), r);
  single = λ c d o p h k. let f = first h in let g = first k in let i = its_order h in let j = its_order k in
      grind arith;
  unnamed = mapped_none called_order (reason_for v);
}

-- whatever is the reason explains the answer
pub explains : (v : View) (r : Option Condition) → r ≡ reason_for v → ExactlyWhen v (standard_answer v) r
explains v r e = subst (λ (x : Option Condition). ExactlyWhen v (standard_answer v) x) (sym e) (exactly v)
