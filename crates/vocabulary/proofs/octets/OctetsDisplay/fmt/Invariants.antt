use Rattle.std.proofs.Common.{take}
use Rattle.std.specs.List.{flat_map}
use Rattle.std.specs.Fmt.{IsPlainFormatter, HasWritten}
use Rattle.vocabulary.specs.Hex.{octet_text}
use Rattle.vocabulary.specs.Octets.{octets_of}
use Rattle.vocabulary.proofs.octets.OctetsDisplay.fmt.Given as goal

abbrev pub invariant-loop-octet : goal.invariant-loop-octet
invariant-loop-octet g l =
    IsPlainFormatter l.initial.f → HasWritten g.W.Write.write_str_gives l.initial.f (flat_map octet_text (take l.octet-index (octets_of l.self))) l.f
