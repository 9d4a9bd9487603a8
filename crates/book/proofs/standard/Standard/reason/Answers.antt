use Rattle.book.specs.Exactly.{explains}
use Rattle.book.proofs.standard.Standard.reason.Goals as goal

pub returns-clause-exactly : goal.returns-clause-exactly
returns-clause-exactly c = explains c.args.view c.permitted.result c.permitted.ensures
