-- As many changes are pending in the renumbered sheet: a module's are counted from its delay and its contributions below the horizon, which are
-- the same in both, and the count over all modules is the same in any order. Assumes nothing.
use lib.Dec.{eqb, ltb}
use lib.ListN.{length, get_or}
use borrow.Author.Tests.{ltb-true}
use mathlib.Core.Bool.{Bool, true, false, ◌&&◌, not}
use mathlib.Core.List.{List, [], ◌∷◌}
use mathlib.Core.Path.{◌≡◌, refl, sym, ap, ap₂, ◌∙◌}
use native.Mathlib.Nat.{le_refl, le-suc}
use native.Mathlib.Omega.{arith}
use Prim.Native.Nat.{ℕ, zero, suc, ◌+◌, ◌<◌, ◌≤◌}
use Rattle.std.specs.Prelude.{cond, if◌then◌else◌}
use Rattle.sheet.specs.Enumerate.{each}
use Rattle.sheet.specs.Sheet.{Sheet, module_count, module_of, node_count}
use Rattle.network.specs.Listing.{changes, Pending, pending_of, pending}
use Rattle.network.specs.Order.{Listed}
use Rattle.network.specs.Renumbering.{Permutation, renumbered}
use Rattle.network.specs.Timeline.{Cells, contribution, contributions}
use Rattle.network.proofs.Listed.{one_to_one, each_lengths, each_reordered}
use Rattle.network.proofs.Renumbered.{module_count-renumbered, module_of-renumbered}

-- a change at a tick is told by the cells of that tick and of the one before
pub changes_same : (c q : Cells) (v w u : ℕ) → ((k : ℕ) → k ≤ u → c k v ≡ q k w) → changes c v u ≡ changes q w u
changes_same c q v w zero e = refl
changes_same c q v w (suc u) e = ap₂ (λ a b. not (eqb a b)) (e (suc u) (le_refl (suc u))) (e u (le-suc u))

pub tested : (b x y : Bool) → (b ≡ true → x ≡ y) → (b && x) ≡ (b && y)
tested true x y e = e refl
tested false x y e = refl

counted {ℓ} : {A : Type ℓ} (a : A) (b : Bool) → length (cond b (a ∷ []) []) ≡ (if b then 1 else 0)
counted a true = refl
counted a false = refl

-- a change due so many ticks after t
abbrev due : Cells → ℕ → ℕ → ℕ → ℕ → Bool
due c v horizon t j = ltb (t + suc j) horizon && changes c v (t + suc j)

abbrev due_of : ℕ → Cells → ℕ → ℕ → ℕ → ℕ → List Pending
due_of m c v horizon t j = if due c v horizon t j then record { driver = m; due = t + suc j } ∷ [] else []

-- a module in each of two sheets, with the same delay and the same contributions
module _ (S P : Sheet) (c q : Cells) (horizon t m k : ℕ) where
  pub pending_of_same : (module_of S m).delay ≡ (module_of P k).delay → ((u : ℕ) → u < horizon → contribution S c m u ≡ contribution P q k u)
      → length (pending_of S c horizon t m) ≡ length (pending_of P q horizon t k)
  pending_of_same d e =
      each_lengths (module_of S m).delay (due_of m (contributions S c) m horizon t) (due_of k (contributions P q) k horizon t) (λ j h. same j)
      ∙ ap (λ n. length (each n (due_of k (contributions P q) k horizon t))) d
    where
      test : (j : ℕ) → due (contributions S c) m horizon t j ≡ due (contributions P q) k horizon t j
      test j = tested (ltb (t + suc j) horizon) _ _ (λ b. changes_same (contributions S c) (contributions P q) _ _ (t + suc j) (λ u l. e u (omega (arith, ltb-true (t + suc j) horizon b))))

      same : (j : ℕ) → length (due_of m (contributions S c) m horizon t j) ≡ length (due_of k (contributions P q) k horizon t j)
      same j = counted _ (due (contributions S c) m horizon t j) ∙ ap (λ b. if b then 1 else 0) (test j) ∙ sym (counted _ (due (contributions P q) k horizon t j))

module _ (S : Sheet) (π : Permutation (node_count S)) (order : List ℕ) (each-once : Listed (module_count S) order) where
  abbrev P : Sheet
  P = renumbered S π.to π.from order

  pub pending-renumbered : (n q : Cells) (horizon : ℕ) → ((u k : ℕ) → u < horizon → k < module_count S → contribution P q k u ≡ contribution S n (get_or order k 0) u)
      → (t : ℕ) → length (pending P q horizon t) ≡ length (pending S n horizon t)
  pending-renumbered n q horizon same t =
      ap (λ n. length (each n (pending_of P q horizon t))) (module_count-renumbered S π order each-once)
      ∙ each_lengths (module_count S) (pending_of P q horizon t) (λ k. pending_of S n horizon t (get_or order k 0)) at
      ∙ each_reordered (module_count S) (λ k. get_or order k 0) (one_to_one each-once) (pending_of S n horizon t)
    where
      at : (k : ℕ) → k < module_count S → length (pending_of P q horizon t k) ≡ length (pending_of S n horizon t (get_or order k 0))
      at k h =
          pending_of_same P S q n horizon t k (get_or order k 0) (ap (λ m. m.delay) (module_of-renumbered S π order each-once k h)) (λ u l. same u k l h)
