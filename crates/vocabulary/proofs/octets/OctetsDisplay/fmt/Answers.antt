use Rattle.std.proofs.Common.{◌≡◌, ℕ, ◌/◌, ◌%◌, ◌<◌, ◌≤◌, List, [], ◌∷◌, ◌++◌, length, get_or, sym, refl, ap, subst, arith}
use lib.Utf8.{encode}
use Rattle.std.proofs.Output.{has_written_of_eq}
use Rattle.std.proofs.lemmas.Str.Ascii.{encode_ascii}
use Rattle.std.proofs.lemmas.Bool.Decides.{nat_tests}
use Rattle.vocabulary.specs.Hex.{hex_digit, octet_text}
use Rattle.vocabulary.specs.Octets.{octets_of}
use Rattle.vocabulary.proofs.Writing.{put_none, put_item, put_all}
use Rattle.vocabulary.proofs.octets.OctetsDisplay.fmt.Goals as goal

digit_ascii : (d : ℕ) → d < 16 → hex_digit d < 128
digit_ascii d h = grind (arith, nat_tests)

-- the two digits that are written are those of the octet
written : (xs ys : List ℕ) (i high low : ℕ) → xs ≡ ys → get_or xs i 0 < 256 → high ≡ hex_digit (get_or xs i 0 / 16) → low ≡ hex_digit (get_or xs i 0 % 16)
    → encode high ++ encode low ≡ octet_text (get_or ys i 0)
written xs ys i high low e small h l =
    let o = get_or xs i 0 in
    let ha : encode high ≡ high ∷ [] = encode_ascii high (subst (λ n. n < 128) (sym h) (digit_ascii (o / 16) (omega arith))) in
    let la : encode low ≡ low ∷ [] = encode_ascii low (subst (λ n. n < 128) (sym l) (digit_ascii (o % 16) (omega arith))) in
    let same : octet_text o ≡ octet_text (get_or ys i 0) = ap (λ zs. octet_text (get_or zs i 0)) e in
    rw (ha, la, h, l) same

pub loop-octet-init : goal.loop-octet-init
loop-octet-init g c plain = put_none g.W.Write.write_str_gives octet_text (octets_of c.args.self.now) c.args.f.now plain

pub loop-octet-preserved : goal.loop-octet-preserved
loop-octet-preserved g c plain =
    let xs = c.as_slice-octet-items.result.now in
    let ys = octets_of c.args.self.now in
    let i = c.loop-octet.octet-index in
    let e : xs ≡ ys = c.as_slice-octet-items.ensures in
    let l : i < length ys = subst (λ zs. i < length zs) e c.loop-octet-test.true in
    let before = c.loop-octet.invariant plain in
    let h = c.in_ok-write.ensures.writes before.plain refl in
    let t = written xs ys i c.hex_digit-high.result c.hex_digit-low.result e (omega arith) c.hex_digit-high.ensures c.hex_digit-low.ensures in
    put_item g.W.Write.write_str_gives octet_text ys i 0 c.args.f.now c.loop-octet.f c.write.new.self l before (has_written_of_eq g.W.Write.write_str_gives c.loop-octet.f _ _ c.write.new.self t h)

pub returns-clause-writes : goal.returns-clause-writes
returns-clause-writes g c plain ok =
    let ys = octets_of c.args.self.now in
    let e = c.as_slice-octet-items.ensures in
    let l : length ys ≤ c.loop-octet.octet-index = subst (λ zs. length zs ≤ c.loop-octet.octet-index) e c.loop-octet-test.false in
    put_all g.W.Write.write_str_gives octet_text ys c.loop-octet.octet-index c.args.f.now c.loop-octet.f l (c.loop-octet.invariant plain)
