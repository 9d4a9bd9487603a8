use Rattle.std.proofs.Common.{arith}
use Rattle.std.proofs.lemmas.Grind.{common_steps}
use Rattle.log_rewriting.proofs.Steps.{putting}
use Rattle.log_rewriting.proofs.put_all.Goals as goal

pub loop-frame-preserved : goal.loop-frame-preserved
loop-frame-preserved c =
    record {
      frames = grind (arith, common_steps);
      places = grind arith;
      size = grind (arith, putting);
      behind = grind (arith, putting);
    }
