-- The delayed modules stand first in the working order, and those of delay zero from the count of the delayed ones on: delayed modules have rank 0 and the others do not,
-- and as many are delayed in the working order as in the sheet. Assumes nothing.
use borrow.Author.Tests.{eqb-false, not-true, eq-eqb, ne_eqb}
use lib.Dec.{eqb}
use mathlib.Core.Bool.{Bool, true, false, not}
use mathlib.Core.Logic.{◌↔◌, ◌≢◌}
use mathlib.Core.Path.{◌≡◌, refl, sym, ◌∙◌}
use native.Mathlib.Decide.{ℕ_discrete}
use native.Mathlib.Omega.{arith}
use Prim.Native.Nat.{ℕ, zero, suc, ◌≤◌, ◌<◌}
use Rattle.std.specs.Prelude.{if◌then◌else◌}
use Rattle.sheet.specs.Sheet.{Sheet, module_count, module_of}
use Rattle.network.proofs.Count.{count, count_at_most}
use Rattle.network.proofs.Listed.{one_to_one}
use Rattle.network.proofs.WorkingOrder.{every_module_once, by_rank}
use Rattle.model.specs.State.{delayed_below, delayed_count}
use Rattle.model.specs.Ticks.{ordered_at}
use Rattle.model.specs.Standing.{placed}
use Rattle.model.proofs.FirstOnes.{count_reordered, first_ones}

delayed : Sheet → ℕ → Bool
delayed S m = not (eqb (module_of S m).delay 0)

module _ (S : Sheet) where
  delayed_count_lem : (n : ℕ) → delayed_below S n ≡ count n (delayed S)
  unfolding delayed_below count delayed
  delayed_count_lem zero = refl
  delayed_count_lem (suc n) = omega (arith, delayed_count_lem n, one (eqb (module_of S n).delay 0))
    where
      one : (b : Bool) → ◌≡◌ {A = ℕ} (if b then 0 else 1) (if not b then 1 else 0)
      one true = refl
      one false = refl

  pub delayed_at_most : delayed_count S ≤ module_count S
  delayed_at_most = rw (delayed_count_lem (module_count S)) (count_at_most (module_count S) (delayed S))

  pub delayed_listed : (k : ℕ) → k < delayed_count S → k < module_count S
  delayed_listed k h = omega (arith, delayed_at_most)

  passes : (m : ℕ) → (delayed S m ≡ true) ↔ ((module_of S m).delay ≢ 0)
  unfolding delayed
  passes m = (λ e. eqb-false (module_of S m).delay 0 (not-true _ e), λ d. rw (ne_eqb (module_of S m).delay 0 d))

  -- a delayed module stands before one of delay zero
  earlier : (j k : ℕ) → j < module_count S → k < module_count S → (placed S j).delay ≢ 0 → (placed S k).delay ≡ 0 → j < k
  earlier j k h l d e = by_rank S j k h l (rw (ne_eqb (placed S j).delay 0 d, eq-eqb (placed S k).delay 0 e) (omega arith))

  in_order : delayed_count S ≡ count (module_count S) (λ k. delayed S (ordered_at S k))
  in_order = delayed_count_lem (module_count S) ∙ sym (count_reordered (module_count S) (ordered_at S) (one_to_one (every_module_once S)) (delayed S))

  pub delayed_first : (k : ℕ) → k < module_count S → k < delayed_count S ↔ ((placed S k).delay ≢ 0)
  delayed_first k h = (λ b. (passes (ordered_at S k)).0 (ones.0 (rw in_order at b)), λ d. rw in_order (ones.1 ((passes (ordered_at S k)).1 d)))
    where
      down : (j k : ℕ) → j < k → k < module_count S → delayed S (ordered_at S k) ≡ true → delayed S (ordered_at S j) ≡ true
      down j k l h e = (passes (ordered_at S j)).1 (λ z. omega (arith, earlier k j h (omega arith) ((passes (ordered_at S k)).0 e) z))

      ones : k < count (module_count S) (λ k. delayed S (ordered_at S k)) ↔ (delayed S (ordered_at S k) ≡ true)
      ones = first_ones (λ k. delayed S (ordered_at S k)) (module_count S) down k h

  -- the others work at once
  pub at_once_after : (k : ℕ) → k < module_count S → delayed_count S ≤ k → (placed S k).delay ≡ 0
  at_once_after k h l = go (ℕ_discrete (placed S k).delay 0)
    where
      go : Dec ((placed S k).delay ≡ 0) → (placed S k).delay ≡ 0
      go (yes e) = e
      go (no d) = absurd (omega (arith, (delayed_first k h).1 d))
