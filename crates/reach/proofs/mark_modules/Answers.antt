-- `reach::mark_modules`: one module after another. Assumes nothing.
use Rattle.reach.proofs.Marks.{none_add, one_more_adds}
use Rattle.reach.proofs.mark_modules.Goals as goal

pub loop-m-init : goal.loop-m-init
loop-m-init c = none_add c.args.modules.now c.args.reach.now

pub loop-m-preserved : goal.loop-m-preserved
loop-m-preserved c = one_more_adds c.args.modules.now c.loop-m.m-index c.loop-m.invariant c.mark_module.ensures
