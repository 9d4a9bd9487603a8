-- A book that withholds one order of another book.
use Rattle.std.specs.Prelude.{ℕ, not, Some, None, Ok, Err, Option, Result}
use Rattle.vocabulary.specs.Numbers.{case_of}
use Rattle.vocabulary.specs.States.{order_number, orders}
use Rattle.vocabulary.specs.Refusals.{fault_at}
use Rattle.vocabulary.specs.declared.fault.Layer.TheVariants as layer
use Rattle.vocabulary.specs.declared.fault.Refusal.TheVariants as refusal
use Rattle.vocabulary.specs.declared.order.Order.{Order}
use Rattle.book.specs.declared.withholding.Withholding.{Withholding}
use Rattle.book.specs.declared.withholding.NotWrapped.{NotWrapped}
use Rattle.book.specs.Orders.{kept, same}

-- An answer without one order: none in its place.
abbrev pub without : Order → Option Order → Option Order
without order answer = kept (λ o. not (same o order)) answer

-- A book wrapped so that it withholds an order, if there is such an order; else it comes back with the
-- refusal of a value outside its range, by the control, at place 0.
abbrev pub wrapped_by : {B : Type 0} → B → Option Order → Result (Withholding B) (NotWrapped B)
wrapped_by inner (Some order) = Ok (record { inner = inner; order = order })
wrapped_by inner None = Err (record { inner = inner; fault = fault_at refusal.Range 0 layer.Control })

-- A book wrapped so that it withholds the order with this number, 2 to 7.
abbrev pub wrapped : {B : Type 0} → B → ℕ → Result (Withholding B) (NotWrapped B)
wrapped inner number = wrapped_by inner (case_of order_number orders number)
