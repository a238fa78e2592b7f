-- `reach::close`: one node after another. Assumes nothing.
use native.Mathlib.Omega.{arith}
use Rattle.sheet.specs.Loop.{leads_over}
use Rattle.reach.proofs.Closing.{closed_more}
use Rattle.reach.proofs.close.Goals as goal

pub loop-k-init : goal.loop-k-init
unfolding leads_over
loop-k-init c S h = h

pub loop-k-preserved : goal.loop-k-preserved
loop-k-preserved c S h = closed_more S c.loop-k.k (omega arith) c.loop-k.reach (c.loop-k.invariant S h) c.close_over.ensures
