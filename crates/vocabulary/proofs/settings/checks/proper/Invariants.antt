use Rattle.std.proofs.Common.{◌≡◌, ◌+◌, [], take, drop}
use Rattle.few.specs.Few.{held}
use Rattle.vocabulary.specs.Rules.{wrong_from}
use Rattle.vocabulary.proofs.settings.checks.proper.Given as goal

abbrev pub invariant-loop-i : goal.invariant-loop-i
invariant-loop-i l =
    (held l.held ≡ take l.i l.numbers) × (wrong_from (take l.i l.numbers) (drop l.i l.numbers) (l.i + 1) ≡ wrong_from [] l.numbers 1)
