use Rattle.std.proofs.Common.{[], ◌∷◌, ◌++◌, length, get_or, take, sym, ap, ◌∙◌, append_assoc, arith, length-append}
use Rattle.intake.specs.Lines.{told}
use Rattle.intake.specs.Meaning.{heard, so_far}
use Rattle.intake.proofs.Taking.{told_more, left_more}
use Rattle.intake.proofs.intake.Intake.take_in.Goals as goal

pub loop-taken-preserved : goal.loop-taken-preserved
loop-taken-preserved c =
    let held = so_far c.args.self.now in
    let now = so_far c.loop-taken.self in
    let xs = c.args.octets.now in
    let i = c.loop-taken.taken in
    let before = c.loop-taken.invariant in
    let front = heard c.args.ahead.now in
    let old = told held (take i xs) in
    let new = told now (get_or xs i 0 ∷ []) in
    let more = told_more held now xs i c.loop-taken-test.true before.rest in
    record {
      waiting = c.take_octet.ensures.waiting ∙ ap (λ ys. ys ++ new) before.waiting ∙ append_assoc front old new ∙ ap (λ ys. front ++ ys) (sym more);
      rest = c.take_octet.ensures.rest ∙ sym (left_more held now xs i c.loop-taken-test.true before.rest);
      places = omega (arith, c.take_octet.ensures.places, before.places, ap length more, length-append old new);
      lender = c.take_octet.ensures.lender ∙ before.lender;
    }
