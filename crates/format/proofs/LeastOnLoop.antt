-- Of a sheet's loops, refusal 18 names the least node on any zero-delay loop, and is not met where no node is on one. Assumes nothing.
use mathlib.Core.Logic.{◌↔◌}
use mathlib.Core.Path.{◌≡◌}
use Prim.Native.Nat.{ℕ}
use native.Mathlib.Omega.{arith}
use Rattle.sheet.specs.Outcome.{finished, refused}
use Rattle.sheet.specs.Sheet.{Sheet, node_count}
use Rattle.sheet.specs.Loop.{is_on_loop, LeastOnLoop, LoopFree}
use Rattle.sheet.specs.Refusal.{loops_section, first}
use Rattle.sheet.proofs.Tests.{fails}
use Rattle.format.proofs.Chains.{loop_test}
use Rattle.format.proofs.LeastMet.{none_met, least_met}

module _ (S : Sheet) where
  pub least_on_loop : (v : ℕ) → (first (loops_section S) ≡ refused 18 v 0) ↔ LeastOnLoop S v
  least_on_loop v =
      let least = least_met 18 (is_on_loop S) (node_count S) v in (
        λ e.
            let l = least.0 e in
            record {
              node = l.below;
              on_loop = (loop_test S v l.below).0 l.met;
              least = λ u h. (fails (is_on_loop S u) (loop_test S u (omega (arith, h, l.below)))).0 (l.before u h);
            },
        λ l.
            least.1
            (record {
              below = l.node;
              met = (loop_test S v l.node).1 l.on_loop;
              before = λ u h. (fails (is_on_loop S u) (loop_test S u (omega (arith, h, l.node)))).1 (l.least u h);
            }),
      )

  pub no_loop : (first (loops_section S) ≡ finished 0) ↔ LoopFree S
  no_loop =
      let none = none_met 18 (is_on_loop S) (node_count S) in
      (λ e v l. (fails (is_on_loop S v) (loop_test S v l)).0 (none.0 e v l), λ h. none.1 (λ v l. (fails (is_on_loop S v) (loop_test S v l)).1 (h v l)))
