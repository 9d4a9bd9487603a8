use Rattle.std.proofs.Common.{arith}
use Rattle.vocabulary.specs.Settings.{agreed}
use Rattle.laws.proofs.Runs.{every_run_lawful}
use Rattle.laws.proofs.laws_stand.Goals as goal

pub returns-clause-lawful : goal.returns-clause-lawful
returns-clause-lawful g c =
    let proper = c.args.settings.now.proper in
    every_run_lawful g.B.Book.answer g.B.Book.limit g.met.B.Book.lawful (agreed c.args.settings.now) (grind arith) c.args.book.now
