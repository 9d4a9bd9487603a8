-- What every book keeps.
use Rattle.std.specs.Prelude.{◌≡◌, ℕ, ◌≤◌, true, false, Some, Option}
use Rattle.vocabulary.specs.declared.order.Order.{Order}
use Rattle.vocabulary.specs.declared.order.Order.TheVariants.{ToHotStandby, ToDataAvailable}
use Rattle.book.specs.declared.view.View.{View}
use Rattle.book.specs.Orders.{paired, follows}

-- The laws of a book b with these answers and limits. That the same view always has the same
-- answer lies in the answer being a function of book and view.
pub record Laws {B : Type 0} (answer : B → View → Option Order) (limit : B → Order → ℕ) : Type 0 where
  -- The held state and an order answered are one of the ten pairs.
  pub held_order : (b : B) (v : View) (o : Order) → answer b v ≡ Some o → paired v.held o ≡ true
  -- Over an open order, an order is answered only if it may follow that one: 4 after 3, 7 after 6,
  -- 4 after 5.
  pub over_open : (b : B) (v : View) (before o : Order) → v.open ≡ Some before → answer b v ≡ Some o → follows before o ≡ true
  -- The order to HS is answered only if no other STM is at HS, the order to DA only if no other is
  -- at DA.
  pub alone : (b : B) (v : View) → (answer b v ≡ Some ToHotStandby → v.other_at_hs ≡ false) × (answer b v ≡ Some ToDataAvailable → v.other_at_da ≡ false)
  -- Each order's limit is 1 to 100 ticks.
  pub limited : (b : B) (o : Order) → (1 ≤ limit b o) × (limit b o ≤ 100)
