use Rattle.std.proofs.Common.{ℕ, ◌<◌, ◌-◌, ◌*◌, ◌≡◌, ◌+◌, ◌++◌, get_or, length, take, drop, Ok, Err, sym, ap, ◌∙◌, arith, rules}
use Rattle.std.proofs.lemmas.List.{take_rest}
use Rattle.log_format.specs.Format.{log_of}
use Rattle.log_reading.proofs.Files.{at_end, granted, same, wrong_entry}
use Rattle.log_reading.proofs.read_log.Goals as goal

pub returns-in-Some-clause-answer : goal.returns-in-Some-clause-answer
returns-in-Some-clause-answer c =
    let b = c.in_ok-before in
    let n = c.in_ok-count.count in
    let start = length b.before.now - 17 * n in
    ap Err c.no_log-in-Some.ensures
    ∙ wrong_entry c.args.file.now b.trailer.now (length b.before.now) n (search rules) (search rules) (search rules) _ (take_rest c.args.file.now start) c.wrong_entry.result c.wrong_entry.ensures.first c.in-Some.place c.in-Some.is

pub returns-in-None : goal.returns-in-None
returns-in-None c =
    let b = c.in_ok-before in
    let n = c.in_ok-count.count in
    let start = length b.before.now - 17 * n in
    let file = c.args.file.now in
    let log = take (length file - start) (drop start file) in
    let small : (i : ℕ) → get_or file i 0 < 256 = λ i. omega (arith, c.type_inv.file i) in
    let t = length b.before.now in
    let size : t + 8 ≡ length file = search rules in
    let e = c.new.ensures in
    let r = c.wrong_entry in
    record {
      answer = ap Ok e.frames ∙ granted file b.trailer.now t n size (search rules) (search rules) log (take_rest file start) r.result r.ensures.first c.in-None.is small;
      log = record {
        inside = e.octets;
        last = ap (λ os. take (length file - length os) file ++ os) e.log ∙ at_end file b.trailer.now t n size (search rules) (search rules) log (take_rest file start) r.result r.ensures.first c.in-None.is small;
        same = e.log ∙ same file b.trailer.now t n size (search rules) (search rules) log (take_rest file start) r.result r.ensures.first c.in-None.is small ∙ ap log_of (sym e.frames);
      };
    }
