-- `tick::due::give_due` meets its contract. The loop's invariant: the changes taken are given to the values. Assumes nothing.
use Rattle.pending.specs.Taking.{to_go}
use Rattle.tick.proofs.Given.{Given}
use Rattle.tick.proofs.due.give_due.Given as goal

abbrev pub invariant-loop-k : goal.invariant-loop-k
invariant-loop-k l = Given l.network l.t l.initial.pending.kept l.initial.present l.pending.kept l.present l.scan

abbrev pub decreases-loop-k : goal.decreases-loop-k
decreases-loop-k l = to_go l.scan
