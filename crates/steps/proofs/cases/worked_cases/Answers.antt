use Rattle.steps.proofs.Worked.{all}
use Rattle.steps.proofs.cases.worked_cases.Goals as goal

pub returns-clause-hold : goal.returns-clause-hold
returns-clause-hold c = all
