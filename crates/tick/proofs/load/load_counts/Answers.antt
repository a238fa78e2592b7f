-- `tick::load::load_counts` meets its contract. The loop's invariant: what the modules passed give is counted. Assumes nothing.
use Prim.Native.Nat.{◌<◌}
use native.Mathlib.Omega.{arith}
use borrow.Author.Rules.{rules}
use lib.Dec.{eqb}
use lib.ListN.{get_or}
use Rattle.tick.specs.Tally.{driven_at}
use Rattle.tick.proofs.Rows.{node_read}
use Rattle.tick.proofs.Tally.{count_most, counted_more, none_counted}
use Rattle.tick.proofs.load.load_counts.Goals as goal

pub loop-k-init : goal.loop-k-init
loop-k-init c = (rw c.requires.2 (search rules), rw c.requires.2 (none_counted c.args.rows.now c.args.kept.now))

pub count_more-requires : goal.count_more-requires
count_more-requires c =
    let a = c.args in
    let k = c.loop-k.k in
    let w = c.from.ensures in
    let b : c.from.result < 256 = omega arith in
    let v = node_read a.rows.now k _ c.loop-k-test.true w in
    let x = get_or a.kept.now k 0 in
    (b, c.requires.1.each k, rw v (omega (arith, c.loop-k.invariant.1 (driven_at a.rows.now k) (rw v at b) x (c.requires.1.each k), count_most (λ j. eqb (driven_at a.rows.now j) (driven_at a.rows.now k)) x k (λ j. get_or a.kept.now j 0))))

pub loop-k-preserved : goal.loop-k-preserved
loop-k-preserved c =
    let a = c.args in
    let k = c.loop-k.k in
    let w = c.from.ensures in
    let b : c.from.result < 256 = omega arith in
    let v = node_read a.rows.now k _ c.loop-k-test.true w in
    (c.count_more.array_long, rw (c.count_more.ensures, v) (counted_more a.rows.now a.kept.now c.loop-k.counts c.loop-k.invariant.0 k (rw v at b) (c.requires.1.each k) c.loop-k.invariant.1))
