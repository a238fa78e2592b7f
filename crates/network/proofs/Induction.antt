-- What holds of the inputs' cells, and of a driven node's cell wherever it holds of the cells that its drivers read, holds of every cell:
-- tick by tick, and in a tick module by module in a valid order. Assumes nothing.
use lib.Dec.{T}
use mathlib.Core.List.Memᴰ
use mathlib.Core.List.{List, Memᴰ}
use mathlib.Core.Logic.{⊎_elim}
use mathlib.Core.Path.{◌≡◌, refl, sym, subst}
use native.Mathlib.Decide.{ℕ_discrete, dec_lt}
use native.Mathlib.Nat.{not-suc-le-zero}
use native.Mathlib.Omega.{arith}
use Prim.Native.Nat.{ℕ, zero, suc, ◌+◌, ◌≤◌, ◌<◌}
use Rattle.sheet.specs.Sheet.{Sheet, node_count, module_count, module_of, output_of}
use Rattle.sheet.specs.Wiring.{used_inputs, is_driven, is_input}
use Rattle.sheet.proofs.Tests.{decided}
use Rattle.network.specs.Order.{ValidOrder}
use Rattle.format.specs.Accepted.{Driven}
use Rattle.format.proofs.Condition.{tells_driven, tells_input}
use Rattle.network.proofs.Ordered.{Ordered, all_worked, next, of_sheet, every_module, ordered}
use Rattle.network.proofs.Passing.{passing}
use Rattle.network.proofs.Wired.{Wired}

-- what a module reads at a tick
abbrev pub Reads : Sheet → (ℕ → ℕ → Type 0) → (t m : ℕ) → Type 0
Reads S P t m = (u v : ℕ) → u + (module_of S m).delay ≤ t → Memᴰ v (used_inputs (module_of S m)) → P u v

module _ (S : Sheet) (w : Wired S) (P : ℕ → ℕ → Type 0) (horizon : ℕ)
    (inputs : (t v : ℕ) → t < horizon → T (is_input S v) → P t v)
    (driven : (t v : ℕ) → t < horizon → T (is_driven S v) → ((m : ℕ) → m < module_count S → output_of S m ≡ v → Reads S P t m) → P t v) where
  -- a node has it, if all its drivers read such cells
  node : (t v : ℕ) → t < horizon → v < node_count S → ((m : ℕ) → m < module_count S → output_of S m ≡ v → Reads S P t m) → P t v
  node t v b l read = by (decided _ (tells_driven S v))
    where
      by : Dec (Driven S v) → P t v
      by (yes d) = driven t v b (passing ((tells_driven S v).1 d)) read
      by (no n) = inputs t v b (passing ((tells_input S v).1 (record { node = l; undriven = n })))

  -- along the order of a tick: all but the modules that are left to be worked read such cells already
  along : (t : ℕ) → t < horizon → ((u v : ℕ) → u < t → v < node_count S → P u v) → {ms : List ℕ} → Ordered S ms → ((m : ℕ) → Memᴰ m ms → m < module_count S)
      → ((m : ℕ) → m < module_count S → (Memᴰ m ms → ⊥) → Reads S P t m) → (m : ℕ) → m < module_count S → Reads S P t m
  along t b earlier all_worked listed known = λ m h. known m h Memᴰ.not-nil
  along t b earlier (next {m = n} {ms = ms} once after rest) listed known =
      along t b earlier rest (λ m i. listed m (Memᴰ.tail i)) (λ m h left. more m h left (ℕ_discrete m n))
    where
      mine : n < module_count S
      mine = listed n (Memᴰ.head refl)

      -- what drives an input of it, without a delay, is worked
      now : (module_of S n).delay ≡ 0 → (v : ℕ) → Memᴰ v (used_inputs (module_of S n)) → P t v
      now d v used =
          node t v b (w.used_node n mine v used)
          (λ m h o. known m h (λ i. after d m i (subst (λ x. Memᴰ x (used_inputs (module_of S n))) (sym o) used)))

      read : Reads S P t n
      read u v k used = by (dec_lt u t)
        where
          by : Dec (u < t) → P u v
          by (yes j) = earlier u v j (w.used_node n mine v used)
          by (no j) = let e : t ≡ u = omega arith in subst (λ x. P x v) e (now (omega arith) v used)

      more : (m : ℕ) → m < module_count S → (Memᴰ m ms → ⊥) → Dec (m ≡ n) → Reads S P t m
      more m h left (yes e) = subst (Reads S P t) (sym e) read
      more m h left (no d) = known m h (λ i. ⊎_elim d left (Memᴰ.cases_cons i))

  pub every_cell : (orders : ℕ → List ℕ) → ((t : ℕ) → t < horizon → ValidOrder S (orders t)) → (t v : ℕ) → t < horizon → v < node_count S → P t v
  every_cell orders valid t v b l = below (suc t) b t v (omega arith) l
    where
      -- the ticks below a bound
      below : (n : ℕ) → n ≤ horizon → (u v : ℕ) → u < n → v < node_count S → P u v
      below zero h u v k l = absurd (not-suc-le-zero k)
      below (suc n) h u v k l = tick (below n (omega arith)) (dec_lt u n)
        where
          tick : ((u v : ℕ) → u < n → v < node_count S → P u v) → Dec (u < n) → P u v
          tick earlier (yes j) = earlier u v j l
          tick earlier (no j) =
              let e : n ≡ u = omega arith in
              subst (λ x. P x v) e
              (node n v h l (λ m i o. along n h earlier (ordered S (valid n h)) (of_sheet S (valid n h)) (λ m i left. absurd (left (every_module S (valid n h) m i))) m i))
