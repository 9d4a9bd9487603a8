use Rattle.std.proofs.Common.{◌≡◌, ◌++◌, take}
use Rattle.std.specs.Option.{option_map}
use Rattle.script.specs.Grammar.{numbers}
use Rattle.script.specs.Meaning.{numbers_of, to_come}
use Rattle.script.proofs.reader.all_numbers.Given as goal

abbrev pub invariant-loop-part : goal.invariant-loop-part
invariant-loop-part l =
    option_map (λ ns. take 9 (numbers_of l.read ++ ns)) (numbers (to_come l.part-iterator)) ≡ option_map (take 9) (numbers (to_come l.initial.parts))
