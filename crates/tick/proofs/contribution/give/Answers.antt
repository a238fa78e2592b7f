-- `tick::contribution::give` meets its contract: a module that drives its node alone gives it the value, and of others the counts tell the join. Assumes nothing.
use Prim.Native.Nat.{◌<◌}
use mathlib.Core.Path.{sym, ap, ◌∙◌}
use native.Mathlib.Omega.{arith}
use lib.ListN.{get_or}
use Rattle.tick.specs.Tally.{one_less, one_more}
use Rattle.tick.proofs.Rows.{node_read}
use Rattle.tick.proofs.Giving.{alone_gives, shared_gives}
use Rattle.tick.proofs.Tally.{old_counted, few_counted, shared_tallied, shared_joined}
use Rattle.tick.proofs.Values.{levels_set}
use Rattle.tick.proofs.contribution.give.Goals as goal

pub returns-then-alone : goal.returns-then-alone
returns-then-alone c =
    let a = c.args in
    let rows = a.network.rows.now in
    let p = a.present.now in
    let b : c.from-output.result < 256 = omega arith in
    let v = node_read rows a.k _ c.requires.1 c.from-output.ensures in
    (rw v (alone_gives rows c.requires.2.flagged p.values p.kept a.k c.requires.1 a.value (sym c.alone.ensures ∙ c.if-alone.true) (omega (arith, v, b, p.values_levels.size))), c.requires.2)

pub count_less-requires : goal.count_less-requires
count_less-requires c =
    let a = c.args in
    let rows = a.network.rows.now in
    let p = a.present.now in
    let w = c.from-output.ensures in
    let b : c.from-output.result < 256 = omega arith in
    let v = node_read rows a.k _ c.requires.1 w in
    (b, p.kept_levels.each a.k, rw v (old_counted rows c.requires.2 p.kept_levels a.k c.requires.1 a.value c.requires.0 (sym c.alone.ensures ∙ c.if-alone.false) (rw v at b)))

pub count_more-requires : goal.count_more-requires
count_more-requires c =
    let a = c.args in
    let rows = a.network.rows.now in
    let p = a.present.now in
    let w = c.from-output.ensures in
    let b : c.from-output.result < 256 = omega arith in
    let v = node_read rows a.k _ c.requires.1 w in
    (b, c.requires.0, rw (c.count_less.ensures, v) (few_counted rows c.requires.2 p.kept_levels a.k c.requires.1 a.value c.requires.0 (sym c.alone.ensures ∙ c.if-alone.false) (rw v at b)))

pub invariant_of-present-2 : goal.invariant_of-present-2
invariant_of-present-2 c =
    let p = c.args.present.now in
    record { values_levels = levels_set p.values_levels _ _ c.joined_at.ensures.1; kept_levels = levels_set p.kept_levels _ _ c.requires.0 }

pub returns : goal.returns
returns c =
    let a = c.args in
    let rows = a.network.rows.now in
    let p = a.present.now in
    let w = c.from-output.ensures in
    let b : c.from-output.result < 256 = omega arith in
    let v = node_read rows a.k _ c.requires.1 w in
    let node = rw v at b in
    let others = sym c.alone.ensures ∙ c.if-alone.false in
    let old = get_or p.kept a.k 0 in
    let counted = c.count_more.ensures ∙ ap (λ l. one_more l c.from-output.result a.value) c.count_less.ensures ∙ ap (λ u. one_more (one_less p.counts u old) u a.value) v in (
      rw v (shared_gives rows c.requires.2.flagged p.values p.kept a.k c.requires.1 a.value others (omega (arith, c.requires.1, c.requires.2.few, p.kept_levels.size)) c.joined_at.result
          (c.joined_at.ensures.0 ∙ rw (counted, v) (shared_joined rows c.requires.2 p.kept_levels a.k c.requires.1 a.value c.requires.0 others node))),
      rw counted (shared_tallied rows c.requires.2 p.kept_levels a.k c.requires.1 a.value c.requires.0 others node),
    )
