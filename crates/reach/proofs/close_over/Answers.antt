-- `reach::close_over`: one row more. Assumes nothing.
use Rattle.std.proofs.Common.{arith}
use Rattle.std.proofs.lemmas.Grind.{common_steps}
use Rattle.reach.proofs.close_over.Goals as goal

pub loop-row-preserved : goal.loop-row-preserved
loop-row-preserved c = (λ a v l h. grind (arith, common_steps), λ a l. grind (arith, common_steps))
