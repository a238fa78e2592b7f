-- `reach::least_on_loop`: the least node that leads to itself is the first row that is met. Assumes nothing.
use Rattle.std.proofs.Common.{min, sym, arith}
use Rattle.sheet.specs.Refusal.{first}
use Rattle.sheet.proofs.Rows.{none_yet, passed_each, refused_each}
use Rattle.reach.specs.Links.{entry, diagonal_rows}
use Rattle.reach.proofs.least_on_loop.Goals as goal

pub loop-v-init : goal.loop-v-init
loop-v-init c = none_yet _

pub returns-then-on_loop : goal.returns-then-on_loop
unfolding first
returns-then-on_loop c =
    sym (refused_each (diagonal_rows (entry c.args.reach.now)) c.loop-v.v (min c.args.nodes 256) (omega arith) c.loop-v.invariant (rw (c.if-on_loop.true, c.from.ensures)))

pub loop-v-preserved : goal.loop-v-preserved
unfolding first
loop-v-preserved c =
    passed_each (diagonal_rows (entry c.args.reach.now)) c.loop-v.v c.loop-v.invariant (rw c.if-on_loop.false)
