-- A valid order, module by module: a module is not among those that are left after it, and none that is left drives a module of delay zero.
-- Assumes nothing.
use lib.ListN.{length, get_or}
use mathlib.Core.List.Memᴰ
use mathlib.Core.List.{List, [], ◌∷◌, Memᴰ}
use mathlib.Core.Path.{◌≡◌, sym, subst}
use native.Mathlib.Nat.{not-suc-le-zero, le_of_suc-le-suc}
use native.Mathlib.Omega.{arith}
use Prim.Native.Nat.{ℕ, suc, ◌<◌}
use Rattle.sheet.specs.Sheet.{Sheet, module_count, module_of}
use Rattle.sheet.specs.Wiring.{DrivesInput}
use Rattle.network.specs.Order.{ValidOrder}
use Rattle.network.specs.Timeline.{at}
use Rattle.sheet.proofs.Listed.{get_or-mem}
use Rattle.network.proofs.Listed.{position}
use Rattle.network.proofs.Rising.{mem_place}

-- the modules that are left, in their order
pub data Ordered (S : Sheet) : List ℕ → Type 0 where
  all_worked : Ordered S []
  next : {m : ℕ} {ms : List ℕ} → (Memᴰ m ms → ⊥)
      → ((module_of S m).delay ≡ 0 → (n : ℕ) → Memᴰ n (m ∷ ms) → DrivesInput S n m → ⊥) → Ordered S ms → Ordered S (m ∷ ms)

module _ (S : Sheet) where
  -- by places: no two are one module, and the driver of an input of a module of delay zero stands before it
  by_places : (ms : List ℕ) → ((j k : ℕ) → j < k → k < length ms → get_or ms k 0 ≡ get_or ms j 0 → ⊥)
      → ((j k : ℕ) → j < length ms → k < length ms → (module_of S (get_or ms k 0)).delay ≡ 0 → DrivesInput S (get_or ms j 0) (get_or ms k 0) → j < k) → Ordered S ms
  by_places [] apart after = all_worked
  by_places (m ∷ ms) apart after =
      next other undriven
      (by_places ms (λ j k h l. apart (suc j) (suc k) (omega arith) (omega arith)) (λ j k h l d i. le_of_suc-le-suc (after (suc j) (suc k) (omega arith) (omega arith) d i)))
    where
      other : Memᴰ m ms → ⊥
      other i = let p = mem_place i in apart 0 (suc p.0) (omega arith) (omega (arith, p.1)) (p.2 0)

      undriven : (module_of S m).delay ≡ 0 → (n : ℕ) → Memᴰ n (m ∷ ms) → DrivesInput S n m → ⊥
      undriven d n i drives =
          let p = mem_place i in
          not-suc-le-zero (after p.0 0 p.1 (omega arith) d (subst (λ k. DrivesInput S k m) (sym (p.2 0)) drives))

  module _ {order : List ℕ} (valid : ValidOrder S order) where
    -- an order has the modules of the sheet, and all of them
    pub of_sheet : (m : ℕ) → Memᴰ m order → m < module_count S
    of_sheet m i = let p = mem_place i in subst (λ k. k < module_count S) (p.2 0) (valid.listed.known p.0 (rw valid.listed.count at p.1))

    pub every_module : (m : ℕ) → m < module_count S → Memᴰ m order
    every_module m h =
        let p = position valid.listed m h in
        Memᴰ.cast (sym p.2) (get_or-mem order p.0 0 (rw valid.listed.count p.1))

    pub ordered : Ordered S order
    ordered = by_places order apart (λ j k h l. valid.after j k (within j h) (within k l))
      where
        within : (k : ℕ) → k < length order → k < module_count S
        within k h = rw valid.listed.count at h

        apart : (j k : ℕ) → j < k → k < length order → get_or order k 0 ≡ get_or order j 0 → ⊥
        apart j k h l e = omega (arith, valid.listed.once k j (within k l) (within j (omega arith)) e)
