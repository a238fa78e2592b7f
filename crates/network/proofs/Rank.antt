-- A module's rank is at most one more than the number of nodes, and it rises strictly from a module to one of delay 0 that has its output for a used input: what leads to
-- the first output leads to the second, and so does the first output itself, which does not lead to itself. Assumes nothing.
use lib.Dec.{eqb}
use borrow.Author.Tests.{eq-eqb}
use mathlib.Core.Bool.{Bool, true, false}
use mathlib.Core.Path.{◌≡◌, refl}
use native.Mathlib.Omega.{arith}
use Prim.Native.Nat.{ℕ, zero, suc, ◌≤◌, ◌<◌, suc-le-suc}
use Rattle.std.specs.Prelude.{if◌then◌else◌}
use Rattle.sheet.specs.Loop.{leads_over}
use Rattle.sheet.specs.Sheet.{node_count, module_count, module_of, Sheet, output_of}
use Rattle.sheet.specs.Wiring.{DrivesInput}
use Rattle.sheet.specs.WorkingOrder.{leading_to, rank}
use Rattle.format.specs.Accepted.{Accepted}
use Rattle.network.proofs.Count.{count, count_at_most, count_more}
use Rattle.network.proofs.Leading.{leads_on, used_leads, not_itself}

-- what leads to a node
abbrev pub leaders_of : Sheet → ℕ → ℕ → Bool
leaders_of S v u = leads_over S (node_count S) u v

module _ (S : Sheet) where
  pub leading_count : (n v : ℕ) → leading_to S n v ≡ count n (leaders_of S v)
  unfolding leading_to count
  leading_count zero v = refl
  leading_count (suc n) v = rw (leading_count n v)

  pub rank_at_most : (m : ℕ) → rank S m ≤ suc (node_count S)
  rank_at_most m = at (eqb (module_of S m).delay 0)
    where
      at : (b : Bool) → (if b then suc (leading_to S (node_count S) (output_of S m)) else 0) ≤ suc (node_count S)
      at true = rw leading_count (suc-le-suc (count_at_most (node_count S) (leaders_of S (output_of S m))))
      at false = omega arith

  pub rank_rises : Accepted S → (a b : ℕ) → a < module_count S → b < module_count S → (module_of S b).delay ≡ 0 → DrivesInput S a b → rank S a < rank S b
  rank_rises acc a b l h d i = rw (eq-eqb (module_of S b).delay 0 d, leading_count (node_count S) (output_of S b)) (at (eqb (module_of S a).delay 0))
    where
      u : ℕ
      u = output_of S a

      v : ℕ
      v = output_of S b

      below : u < node_count S
      below = (acc.sound_modules a l).output

      leads : leaders_of S v u ≡ true
      leads = used_leads S b u h d i

      at : (z : Bool) → (if z then suc (leading_to S (node_count S) u) else 0) < suc (count (node_count S) (leaders_of S v))
      at true = rw leading_count (suc-le-suc (count_more (leaders_of S u) (leaders_of S v) (λ w t. leads_on S w u v below t leads) (node_count S) u below (not_itself S acc u below) leads))
      at false = omega arith
