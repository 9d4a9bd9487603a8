use Rattle.std.proofs.Common.{◌≡◌, ◌*◌, ◌/◌, ◌+◌, true, is_ok, length, length-take, sym, ◌∙◌, ap, arith, rules}
use Rattle.std.specs.Option.{option_map, option_and_then}
use Rattle.few.specs.Few.{held}
use Rattle.vocabulary.specs.Octets.{sized, octets_of}
use Rattle.std.proofs.lemmas.Bool.Decides.{nat_tests}
use Rattle.script.proofs.Reading.{in_pairs, odd_one, pair_held, pair_full}
use Rattle.script.proofs.text.read_octets.Goals as goal

pub returns-then-not-is_empty : goal.returns-then-not-is_empty
returns-then-not-is_empty c =
    let text = c.args.text.now in
    let odd : length text ≡ length text / 2 * 2 + 1 = grind (arith, nat_tests) in
    ap (λ r. option_and_then (sized 255) r) (sym (odd_one (length text / 2) text odd))

pub loop-high-init : goal.loop-high-init
loop-high-init c =
    let text = c.args.text.now in
    let even : length text ≡ length text / 2 * 2 = grind (arith, nat_tests) in
    let all = in_pairs (length text / 2) text even in
    grind arith

pub returns-in_err-ok : goal.returns-in_err-ok
returns-in_err-ok c =
    let read = c.loop-high.read in
    let within = length-take read.len read.items in
    let full : length (held read) ≡ 255 = grind (arith, nat_tests, within, read.within) in
    let over = pair_full (held c.loop-high.read) c.as_chunks.result.0.now c.loop-high.high-index c.in_ok-octet.field-0 c.loop-high-test.true (sym c.octet.ensures ∙ c.in_ok-octet.was) full in
    ap (option_map octets_of) c.from_residual-in_err-ok.ensures ∙ over ∙ ap (λ r. option_and_then (sized 255) r) c.loop-high.invariant

pub loop-high-preserved : goal.loop-high-preserved
loop-high-preserved c =
    let step = pair_held (held c.loop-high.read) c.as_chunks.result.0.now c.loop-high.high-index c.in_ok-octet.field-0 c.loop-high-test.true (sym c.octet.ensures ∙ c.in_ok-octet.was) in
    let ok : is_ok c.push.result ≡ true = search rules in
    grind arith
