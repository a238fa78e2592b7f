-- `tick::delayed::schedule_all` meets its contract. The loop's invariant: what the modules passed leave. Assumes nothing.
use native.Mathlib.Omega.{arith}
use Rattle.tick.proofs.Passes.{none-scheduled, one_more-scheduled}
use Rattle.tick.proofs.delayed.schedule_all.Goals as goal

pub loop-k-init : goal.loop-k-init
loop-k-init c = (none-scheduled _ _ _ _ _, omega arith)

pub loop-k-preserved : goal.loop-k-preserved
loop-k-preserved c = (one_more-scheduled _ _ _ _ _ c.loop-k.k c.loop-k.invariant.0 c.schedule_one.ensures.0, omega arith)
