use Rattle.std.proofs.Common.{◌≡◌, ◌+◌, ◌++◌, length, take}
use Rattle.line.specs.Waiting.{loan, room}
use Rattle.intake.specs.Lines.{told, left}
use Rattle.intake.specs.Meaning.{heard, so_far}
use Rattle.intake.proofs.intake.Intake.take_in.Given as goal

abbrev pub invariant-loop-taken : goal.invariant-loop-taken
invariant-loop-taken l = record {
  waiting : heard l.ahead ≡ heard l.initial.ahead ++ told (so_far l.initial.self) (take l.taken l.octets);
  rest : so_far l.self ≡ left (so_far l.initial.self) (take l.taken l.octets);
  places : room l.ahead + length (told (so_far l.initial.self) (take l.taken l.octets)) ≡ room l.initial.ahead;
  lender : loan l.ahead ≡ loan l.initial.ahead;
}
