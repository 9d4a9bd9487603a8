use Rattle.std.proofs.Common.{◌≡◌, ◌+◌, ◌*◌, ◌≤◌, ◌++◌, length, drop, arith, sym, ap, ◌∙◌}
use Rattle.std.proofs.lemmas.Bool.Decides.{nat_tests}
use Rattle.log_format.specs.Closed.{closed_frames, closed_octets}
use Rattle.log_format.specs.Format.{log_of}
use Rattle.log_writing.specs.Writing.{open_frames, open_octets}
use Rattle.log_rewriting.proofs.Steps.{closed_behind, read_few, read_size}
use Rattle.log_rewriting.proofs.rewrite.Goals as goal

pub put_all-requires : goal.put_all-requires
put_all-requires c =
    let size = read_size c.in_ok-log.log c.in_ok-log.ensures.log.same in
    let few = read_few c.args.file.now _ c.in_ok-log.ensures.answer in
    grind arith

pub returns : goal.returns
returns c =
    let size = read_size c.in_ok-log.log c.in_ok-log.ensures.log.same in
    let o = c.put_all.new.into in
    let r = c.close.result in
    let os = c.args.octets.now in
    let n = length (open_frames o) in
    let frames : open_frames o ≡ closed_frames c.in_ok-log.log = grind arith in
    let long : 8 ≤ length (open_octets o) = grind arith in
    let same : closed_octets r ≡ closed_octets c.in_ok-log.log = grind (arith, nat_tests) in
    let whole : closed_octets r ≡ log_of (open_frames o) = same ∙ c.in_ok-log.ensures.log.same ∙ ap log_of (sym frames) in
    let behind : drop (17 * n) (open_octets o) ≡ drop (17 * n) os = c.put_all.ensures.behind ∙ ap (drop (17 * n)) c.new-open.ensures.octets in
    let far : 17 * n + 8 ≡ length (closed_octets r) = ap (λ fs. 17 * length fs + 8) frames ∙ sym size ∙ ap length (sym same) in
    record {
      answer = grind (arith, nat_tests);
      again = record {
        same = rw same c.in_ok-log.ensures.log.last;
        written = c.close.ensures.octets ∙ closed_behind o os long behind ∙ ap (λ xs. xs ++ drop (17 * n + 8) os) (sym whole) ∙ ap (λ k. closed_octets r ++ drop k os) far;
      };
    }
