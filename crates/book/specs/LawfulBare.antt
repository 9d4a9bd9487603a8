-- The bare book keeps the laws.
use Rattle.std.proofs.Common.{arith}
use Rattle.std.specs.Prelude.{◌≡◌, true, false, Some}
use Rattle.vocabulary.specs.declared.state.State.{State}
use Rattle.vocabulary.specs.declared.order.Order.{Order}
use Rattle.vocabulary.specs.declared.order.Order.TheVariants.{ToHotStandby, ToDataAvailable}
use Rattle.book.specs.declared.view.View.{View}
use Rattle.book.specs.Orders.{paired, follows, free, usual_limit}
use Rattle.book.specs.Bare.{bare_rule, bare_answer}
use Rattle.book.specs.Kept.{kept_some}
use Rattle.book.specs.Laws.{Laws}
use Rattle.book.specs.Lawful.{usual_limited}

-- an answer is the rule's order, and no open order forbids it
answered : (v : View) (o : Order) → bare_answer v ≡ Some o → (bare_rule v.held v ≡ Some o) × (free v.open o ≡ true)
answered v o e = kept_some (free v.open) (bare_rule v.held v) o e

-- the rule of a state orders only what the state allows
rule_paired : (s : State) (v : View) (o : Order) → bare_rule s v ≡ Some o → paired s o ≡ true
unfolding paired
rule_paired s v o e = grind arith

-- and each of HS and DA only alone
rule_alone_hs : (s : State) (v : View) → bare_rule s v ≡ Some ToHotStandby → v.other_at_hs ≡ false
rule_alone_hs s v e = grind arith

rule_alone_da : (s : State) (v : View) → bare_rule s v ≡ Some ToDataAvailable → v.other_at_da ≡ false
rule_alone_da s v e = grind arith

pub bare_paired : (v : View) (o : Order) → bare_answer v ≡ Some o → paired v.held o ≡ true
bare_paired v o e = rule_paired v.held v o (answered v o e).0

pub bare_over : (v : View) (before o : Order) → v.open ≡ Some before → bare_answer v ≡ Some o → follows before o ≡ true
bare_over v before o p e = let f = (answered v o e).1 in grind arith

pub bare_alone : (v : View)
    → (bare_answer v ≡ Some ToHotStandby → v.other_at_hs ≡ false) × (bare_answer v ≡ Some ToDataAvailable → v.other_at_da ≡ false)
bare_alone v = (λ e. grind arith, λ e. grind arith)

pub bare_lawful : {B : Type 0} → Laws {B = B} (λ _ v. bare_answer v) (λ _ o. usual_limit o)
bare_lawful = record {
  held_order = λ b. bare_paired;
  over_open = λ b. bare_over;
  alone = λ b. bare_alone;
  limited = λ b. usual_limited;
}
