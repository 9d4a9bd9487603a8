use Rattle.std.proofs.Common.{◌≡◌, drop}
use Rattle.few.specs.Few.{held}
use Rattle.script.specs.Text.{octets}
use Rattle.script.proofs.Reading.{with_held}
use Rattle.script.proofs.text.read_octets.Given as goal

abbrev pub invariant-loop-high : goal.invariant-loop-high
invariant-loop-high l = with_held (held l.read) (drop l.high-index l.pairs) ≡ octets l.text
