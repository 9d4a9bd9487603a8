use Rattle.std.proofs.Common.{◌∙◌, sym, rules}
use Rattle.std.proofs.lemmas.Iterator.{YieldsList-from_slice}
use Rattle.script.proofs.Reading.{digits_tried, number_some}
use Rattle.script.proofs.text.read_number.Goals as goal

pub returns : goal.returns
returns c =
    let text = c.args.text.now in
    let ran = c.try_fold.ensures.ran in
    digits_tried _ (λ p q x k. search rules) text (YieldsList-from_slice text cc) ran.0 ran.1 (tt, 0) (ran.2, ran.3) c.try_fold.new.self c.try_fold.result _ (λ x k. search rules) ran.4 ran.5 ran.6
    ∙ sym (number_some text c.if-is_empty.ensures)
