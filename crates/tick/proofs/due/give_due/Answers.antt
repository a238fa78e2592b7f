-- `tick::due::give_due` meets its contract. The loop's invariant: the changes taken are given to the values. Assumes nothing.
use Rattle.tick.proofs.Given.{none-given, one_given, still_given}
use Rattle.tick.proofs.due.give_due.Goals as goal

pub loop-k-init : goal.loop-k-init
loop-k-init c = rw c.from_start-scan.ensures (none-given c.args.network c.args.t c.args.pending.now.kept c.args.present.now c.requires.1)

pub loop-k-preserved-in-Due : goal.loop-k-preserved-in-Due
loop-k-preserved-in-Due c = one_given c.loop-k.invariant _ c.pass_next-met.ensures c.in-Due.is c.give.ensures.0 c.give.ensures.1

pub loop-k-preserved : goal.loop-k-preserved
loop-k-preserved c = still_given c.loop-k.invariant _ c.pass_next-met.ensures c.in-Stays.is
