use Rattle.std.proofs.Common.{◌≡◌, ◌+◌, ◌*◌, ◌^◌, ◌<◌, refl, ap, arith, length-set}
use Rattle.std.proofs.lemmas.List.{take-set-le, drop-set-lt}
use Rattle.writer.proofs.WriterLaws.{fits_push, fills, with_set, length_written}
use Rattle.writer.proofs.OctetLaws.{octets_push}
use Rattle.writer.proofs.writer.Writer.bit.Goals as goal

pub invariant_of-self : goal.invariant_of-self
invariant_of-self c =
    let w = c.args.self.now in
    let l = length_written w in
    let e : w.count ≡ 7 = omega arith in
    let small : w.waiting < 128 = omega (arith, w.fits, ap (λ k. 2 ^ k) e) in
    let size = length-set w.octets.now (2 + w.full) (w.waiting * 2 + c.args.b) in
    record { lies = omega arith; few = omega arith; fits = omega arith; octal = octets_push _ _ _ (with_set w.octets.now w.full _ (omega arith)) w.octal (omega arith) }

pub invariant_of-self-else-self-eq-LAST : goal.invariant_of-self-else-self-eq-LAST
invariant_of-self-else-self-eq-LAST c =
    let w = c.args.self.now in
    let l = length_written w in
    record { lies = omega arith; few = omega arith; fits = fits_push w.count w.waiting c.args.b c.requires.1 w.fits; octal = w.octal }

pub returns-then-self-eq-LAST : goal.returns-then-self-eq-LAST
returns-then-self-eq-LAST c =
    let w = c.args.self.now in
    let l = length_written w in
    let s = w.octets.now in
    record {
      sender = refl;
      trip = refl;
      bits = fills w.waiting c.args.b c.requires.1 s w.full w.count (omega arith) (omega arith);
      size = length-set s (2 + w.full) _;
      lender = refl;
      on = omega arith;
      front = take-set-le 2 s (2 + w.full) _ (omega arith);
      behind = drop-set-lt (2 + (w.full + 1)) s (2 + w.full) _ (omega arith);
    }
