-- The standard book keeps the laws, since the conditions do.
use Rattle.std.specs.Prelude.{◌≡◌, ◌≤◌, true, false, Some, refl}
use Rattle.std.proofs.Common.{arith}
use Rattle.vocabulary.specs.declared.order.Order.{Order}
use Rattle.vocabulary.specs.declared.order.Order.TheVariants.{ToHotStandby, ToDataAvailable}
use Rattle.book.specs.declared.view.View.{View}
use Rattle.book.specs.declared.condition.Condition.{Condition}
use Rattle.book.specs.Orders.{paired, follows, usual_limit}
use Rattle.book.specs.Standard.{standard_answer}
use Rattle.book.specs.Conditions.{Calls}
use Rattle.book.specs.Exactly.{exactly}
use Rattle.book.specs.Laws.{Laws}

-- a condition calls for an order of the held state, and for HS and DA only alone
calls_paired : {v : View} {c : Condition} {o : Order} → Calls v c o → paired v.held o ≡ true
unfolding paired
calls_paired h = grind arith

calls_alone : {v : View} {c : Condition} {o : Order} → Calls v c o → (o ≡ ToHotStandby → v.other_at_hs ≡ false) × (o ≡ ToDataAvailable → v.other_at_da ≡ false)
calls_alone h = (λ e. grind arith, λ e. grind arith)

calls_alone_hs : {v : View} {c : Condition} {o : Order} → Calls v c o → o ≡ ToHotStandby → v.other_at_hs ≡ false
calls_alone_hs h = (calls_alone h).0

calls_alone_da : {v : View} {c : Condition} {o : Order} → Calls v c o → o ≡ ToDataAvailable → v.other_at_da ≡ false
calls_alone_da h = (calls_alone h).1

pub standard_paired : (v : View) (o : Order) → standard_answer v ≡ Some o → paired v.held o ≡ true
standard_paired v o e = calls_paired ((exactly v).only_when o e).1.1

pub standard_over_lem : (v : View) (before o : Order) → v.open ≡ Some before → standard_answer v ≡ Some o → follows before o ≡ true
standard_over_lem v before o p e = ((exactly v).only_when o e).1.2 before p

pub standard_alone : (v : View)
    → (standard_answer v ≡ Some ToHotStandby → v.other_at_hs ≡ false) × (standard_answer v ≡ Some ToDataAvailable → v.other_at_da ≡ false)
standard_alone v =
    (λ e. calls_alone_hs ((exactly v).only_when ToHotStandby e).1.1 refl, λ e. calls_alone_da ((exactly v).only_when ToDataAvailable e).1.1 refl)

pub usual_limited : (o : Order) → (1 ≤ usual_limit o) × (usual_limit o ≤ 100)
usual_limited o = grind arith

pub standard_lawful : {B : Type 0} → Laws {B = B} (λ _ v. standard_answer v) (λ _ o. usual_limit o)
standard_lawful = record {
  held_order = λ b. standard_paired;
  over_open = λ b. standard_over_lem;
  alone = λ b. standard_alone;
  limited = λ b. usual_limited;
}
