-- A withholding book keeps the laws, since its inner book does.
use Rattle.std.specs.Prelude.{◌≡◌, ℕ, Some, Option}
use Rattle.vocabulary.specs.declared.order.Order.{Order}
use Rattle.vocabulary.specs.declared.order.Order.TheVariants.{ToHotStandby, ToDataAvailable}
use Rattle.book.specs.declared.view.View.{View}
use Rattle.book.specs.declared.withholding.Withholding.{Withholding}
use Rattle.book.specs.Withheld.{without}
use Rattle.book.specs.Kept.{kept_some}
use Rattle.book.specs.Laws.{Laws}

-- what is not withheld is the inner book's answer
pub inner : (order : Order) (answer : Option Order) (o : Order) → without order answer ≡ Some o → answer ≡ Some o
inner order answer o e = (kept_some _ answer o e).0

pub withholding_lawful : {B : Type 0} (answer : B → View → Option Order) (limit : B → Order → ℕ) → Laws answer limit
    → Laws {B = Withholding B} (λ w v. without w.order (answer w.inner v)) (λ w o. limit w.inner o)
withholding_lawful answer limit laws = record {
  held_order = λ w v o e. laws.held_order w.inner v o (inner w.order (answer w.inner v) o e);
  over_open = λ w v before o p e. laws.over_open w.inner v before o p (inner w.order (answer w.inner v) o e);
  alone = λ w v. (
    λ e. (laws.alone w.inner v).0 (inner w.order (answer w.inner v) ToHotStandby e),
    λ e. (laws.alone w.inner v).1 (inner w.order (answer w.inner v) ToDataAvailable e),
  );
  limited = λ w o. laws.limited w.inner o;
}
