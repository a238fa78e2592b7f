-- `tick::zero_delay::settle_all` meets its contract. The loop's invariant: what the modules passed leave. Assumes nothing.
use native.Mathlib.Omega.{arith}
use Rattle.tick.proofs.Passes.{none_settled, one_more_settled}
use Rattle.tick.proofs.zero_delay.settle_all.Goals as goal

pub loop-k-init : goal.loop-k-init
loop-k-init c = (none_settled _ _ _, c.requires)

pub loop-k-preserved : goal.loop-k-preserved
loop-k-preserved c = (one_more_settled _ _ _ (omega arith) c.loop-k.invariant.0 c.settle_one.ensures.0, c.settle_one.ensures.1)
