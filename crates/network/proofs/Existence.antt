-- A sheet worked in valid orders satisfies its drive and its modules: what a module has read when it is worked is not written afterwards. As long as a driver of a node is not worked at a
-- tick, the node's cell stands at X. Assumes nothing.
use lib.Dec.{T, eqb, eqb_refl}
use borrow.Author.Tests.{eqb-true, eq-eqb}
use mathlib.Core.Bool.{Bool, true, false, ◌&&◌}
use mathlib.Core.List.Memᴰ
use mathlib.Core.List.{List, [], ◌∷◌, Memᴰ}
use mathlib.Core.Logic.{◌⊎◌, inl, inr}
use mathlib.Core.Path.{◌≡◌, refl, sym, ap, ◌∙◌, subst}
use native.Mathlib.Decide.{dec_lt}
use native.Mathlib.Nat.{not-suc-le-zero}
use native.Mathlib.Omega.{arith}
use Prim.Native.Nat.{ℕ, zero, suc, ◌+◌, ◌≤◌, ◌<◌}
use Rattle.std.specs.Prelude.{if◌then◌else◌}
use Rattle.level.specs.Join.{joined}
use Rattle.level.specs.Level.{unknown}
use Rattle.level.proofs.Join.{joined-unknown}
use Rattle.sheet.specs.Sheet.{Sheet, module_count, module_of, output_of}
use Rattle.sheet.specs.Wiring.{used_inputs, is_driven, is_input}
use Rattle.sheet.proofs.Chosen.{chosen_same, chosen-mem}
use Rattle.sheet.proofs.Tests.{fails}
use Rattle.network.specs.Order.{ValidOrder}
use Rattle.network.specs.Satisfied.{Satisfied}
use Rattle.network.specs.Timeline.{Cells, drive_cell, contribution, contributions, from_drivers, driven_cell}
use Rattle.network.specs.Working.{Contributions, unworked, standing, work, work_all, contributed, worked}
use Rattle.format.proofs.Condition.{tells_driven, tells_input}
use Rattle.network.proofs.Equation.{equation_local, causality, reads_no_later}
use Rattle.network.proofs.Ordered.{Ordered, all_worked, next, every_module, ordered}
use Rattle.network.proofs.Passing.{passes}

module _ (S : Sheet) where
  -- no module drives an input
  pub undriven : (v : ℕ) → T (is_input S v) → (m : ℕ) → m < module_count S → output_of S m ≡ v → ⊥
  undriven v i m h e = ((tells_input S v).0 (passes _ i)).undriven (record { driver = m; listed = h; output = e })

  -- what a node's drivers give
  pub from_drivers_same : (f g : ℕ → ℕ) (v : ℕ) → ((m : ℕ) → m < module_count S → output_of S m ≡ v → f m ≡ g m) → from_drivers S f v ≡ from_drivers S g v
  from_drivers_same f g v same = chosen_same (module_count S) _ _ f g (λ m h. refl) (λ m h e. same m h (eqb-true (output_of S m) v e))

  -- Causality of a node: its cell w, if w is at most t + d for the delay d of each of its drivers, depends on cells at or before t alone.
  pub node_causality : (c c' : Cells) (v t w : ℕ) → ((m : ℕ) → m < module_count S → output_of S m ≡ v → w ≤ t + (module_of S m).delay) → ((u x : ℕ) → u ≤ t → c u x ≡ c' u x)
      → driven_cell S c v w ≡ driven_cell S c' v w
  node_causality c c' v t w soon same =
      ap joined (from_drivers_same (contributions S c w) (contributions S c' w) v (λ m h e. causality S c c' m t w (soon m h e) (λ u x l used. same u x l)))

  -- cells as contributions stand
  module _ (k : Contributions) (t v : ℕ) where
    pub standing_input : T (is_input S v) → standing S k t v ≡ drive_cell S.drive v t
    unfolding standing
    standing_input i = rw (passes (is_input S v) i)

    pub standing-driven : T (is_driven S v) → standing S k t v ≡ joined (from_drivers S (k t) v)
    unfolding standing
    standing-driven d = rw ((fails (is_input S v) (tells_input S v)).1 (λ i. i.undriven ((tells_driven S v).0 (passes _ d))))

    -- those of a node's drivers tell its cell
    pub standing_same : (k' : Contributions) → ((m : ℕ) → m < module_count S → output_of S m ≡ v → k t m ≡ k' t m) → standing S k t v ≡ standing S k' t v
    unfolding standing
    standing_same k' same = ap (λ l. if is_input S v then drive_cell S.drive v t else joined l) (from_drivers_same (k t) (k' t) v same)

  -- to work a module settles one contribution
  work_there : (t : ℕ) (k : Contributions) (m : ℕ) → work S t k m t m ≡ contribution S (standing S k) m t
  unfolding work
  work_there t k m = rw (passes (eqb t t) (eqb_refl t), passes (eqb m m) (eqb_refl m))

  work_elsewhere : (t : ℕ) (k : Contributions) (m u n : ℕ) → (u ≡ t → n ≡ m → ⊥) → work S t k m u n ≡ k u n
  unfolding work
  work_elsewhere t k m u n other = there (eqb u t) (eqb n m) refl refl
    where
      there : (a b : Bool) → eqb u t ≡ a → eqb n m ≡ b → (if a && b then contribution S (standing S k) m t else k u n) ≡ k u n
      there true true e f = absurd (other (eqb-true u t e) (eqb-true n m f))
      there true false e f = refl
      there false b e f = refl

  -- and to work modules settles their contributions at that tick alone
  all_elsewhere : (t : ℕ) (k : Contributions) (ms : List ℕ) (u n : ℕ) → (u ≡ t → Memᴰ n ms → ⊥) → work_all S t k ms u n ≡ k u n
  unfolding work_all
  all_elsewhere t k [] u n other = refl
  all_elsewhere t k (m ∷ ms) u n other =
      all_elsewhere t (work S t k m) ms u n (λ e i. other e (Memᴰ.tail i)) ∙ work_elsewhere t k m u n (λ e i. other e (Memᴰ.head i))

  -- what stands of other ticks stays
  other_tick : (t : ℕ) (k : Contributions) (ms : List ℕ) (u n : ℕ) → (u ≡ t → ⊥) → work_all S t k ms u n ≡ k u n
  other_tick t k ms u n d = all_elsewhere t k ms u n (λ e. absurd (d e))

  -- A tick: each contribution is the module's over the cells that the tick leaves.
  settled : (t : ℕ) (k : Contributions) {ms : List ℕ} → Ordered S ms → (m : ℕ) → Memᴰ m ms → work_all S t k ms t m ≡ contribution S (standing S (work_all S t k ms)) m t
  unfolding work_all
  settled t k all_worked m i = elim i [ ]
  settled t k (next {m = n} {ms = ms} once after rest) m i = place (settled t (work S t k n) rest m) (Memᴰ.cases_cons i)
    where
      final : Contributions
      final = work_all S t (work S t k n) ms

      -- what the module read still stands: no driver of it is worked at this tick from here on
      read : (u v : ℕ) → u + (module_of S n).delay ≤ t → Memᴰ v (used_inputs (module_of S n)) → standing S k u v ≡ standing S final u v
      read u v b used =
          standing_same k u v final
          (λ j h o. sym (all_elsewhere t k (n ∷ ms) u j (λ e l. after (omega arith) j l (subst (λ x. Memᴰ x (used_inputs (module_of S n))) (sym o) used))))

      own : final t n ≡ contribution S (standing S final) n t
      own = all_elsewhere t (work S t k n) ms t n (λ e. once) ∙ work_there t k n ∙ equation_local S (standing S k) (standing S final) n t read

      place : (Memᴰ m ms → final t m ≡ contribution S (standing S final) m t) → (m ≡ n) ⊎ Memᴰ m ms → final t m ≡ contribution S (standing S final) m t
      place later (inl e) = subst (λ j. final t j ≡ contribution S (standing S final) j t) (sym e) own
      place later (inr j) = later j

  module _ (orders : ℕ → List ℕ) where
    settled_below : (h : ℕ) → ((t : ℕ) → t < h → ValidOrder S (orders t)) → (t m : ℕ) → t < h → m < module_count S
        → contributed S orders h t m ≡ contribution S (standing S (contributed S orders h)) m t
    unfolding contributed
    settled_below zero valid t m b l = absurd (not-suc-le-zero b)
    settled_below (suc h) valid t m b l = tick (settled_below h (λ u k. valid u (omega arith)) t m) (dec_lt t h)
      where
        before : Contributions
        before = contributed S orders h

        after : Contributions
        after = work_all S h before (orders h)

        now : after h m ≡ contribution S (standing S after) m h
        now = settled h before (ordered S (valid h (omega arith))) m (every_module S (valid h (omega arith)) m l)

        tick : (t < h → m < module_count S → before t m ≡ contribution S (standing S before) m t) → Dec (t < h) → after t m ≡ contribution S (standing S after) m t
        tick earlier (yes k) =
            other_tick h before (orders h) t m (λ e. omega arith)
            ∙ earlier k l
            ∙ sym (reads_no_later S (standing S after) (standing S before) m t (λ u v j used. standing_same after u v before (λ n i o. other_tick h before (orders h) u n (λ e. omega arith))))
        tick earlier (no k) = let e : h ≡ t = omega arith in subst (λ u. after u m ≡ contribution S (standing S after) m u) e now

    -- nothing is settled of ticks to come
    unsettled : (h t m : ℕ) → h ≤ t → contributed S orders h t m ≡ unknown
    unfolding contributed unworked
    unsettled zero t m b = refl
    unsettled (suc h) t m b = other_tick h (contributed S orders h) (orders h) t m (λ e. omega arith) ∙ unsettled h t m (omega arith)

    -- a node's cell stands at X until all its drivers are worked
    pub unknown_until_settled : (t : ℕ) (ms : List ℕ) (m : ℕ) → m < module_count S → (Memᴰ m ms → ⊥)
        → standing S (work_all S t (contributed S orders t) ms) t (output_of S m) ≡ unknown
    unknown_until_settled t ms m h left =
        standing-driven now t (output_of S m) (rw ((tells_driven S (output_of S m)).1 (record { driver = m; listed = h; output = refl })) tt)
        ∙ joined-unknown (Memᴰ.cast (sym (all_elsewhere t (contributed S orders t) ms t m (λ e. left) ∙ unsettled t t m (omega arith))) (chosen-mem (module_count S) (λ n. eqb (output_of S n) (output_of S m)) (now t) m h (eq-eqb (output_of S m) (output_of S m) refl)))
      where
        now : Contributions
        now = work_all S t (contributed S orders t) ms

    -- and is then the join of what its drivers contribute
    pub existence : (horizon : ℕ) → ((t : ℕ) → t < horizon → ValidOrder S (orders t)) → Satisfied S horizon (worked S orders horizon)
    unfolding worked
    existence horizon valid =
        record {
          inputs = λ t v b. standing_input (contributed S orders horizon) t v;
          driven = λ t v b d.
              standing-driven (contributed S orders horizon) t v d
              ∙ ap joined (from_drivers_same (contributed S orders horizon t) (contributions S (standing S (contributed S orders horizon)) t) v (λ m h e. settled_below horizon valid t m b h));
        }
