use Rattle.std.proofs.Common.{◌++◌, take, Some, sym, ap, ◌∙◌, arith, length-take}
use Rattle.std.specs.Option.{option_map}
use Rattle.script.specs.Grammar.{numbers}
use Rattle.script.specs.Meaning.{numbers_of, to_come}
use Rattle.script.proofs.Reading.{numbers_more, numbers_all}
use Rattle.script.proofs.reader.all_numbers.Goals as goal

pub loop-part-preserved : goal.loop-part-preserved
loop-part-preserved c =
    let xs = numbers_of c.loop-part.read in
    let n = c.in_ok-read_number.field-0 in
    let p = c.in-Some.part.now in
    let ps = to_come c.next.new.self in
    ap (λ ys. option_map (λ ns. take 9 (ys ++ ns)) (numbers ps)) c.add.ensures
    ∙ numbers_more p xs ps n (sym c.read_number.ensures ∙ c.in_ok-read_number.was)
    ∙ ap (λ qs. option_map (λ ns. take 9 (xs ++ ns)) (numbers qs)) (sym c.in-Some.ensures.steps)
    ∙ c.loop-part.invariant

pub returns : goal.returns
returns c =
    let kept = c.loop-part.read.kept in
    let xs = numbers_of c.loop-part.read in
    ap Some (sym (numbers_all xs (omega (arith, length-take kept.len kept.items, kept.within))))
    ∙ ap (λ qs. option_map (λ ns. take 9 (xs ++ ns)) (numbers qs)) (sym c.in-None.ensures.steps.0)
    ∙ c.loop-part.invariant
