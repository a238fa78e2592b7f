-- After the modules of delay zero are worked, every node has its cell of the tick: a module reads cells that stand already, since every driver of its used inputs is worked before it; and it
-- holds what it gave before. Assumes nothing.
use lib.ListN.{length, get_or}
use lib.Seq.{get_or-set_same, get_or-set_other}
use mathlib.Core.List.{List, Memᴰ}
use mathlib.Core.Path.{◌≡◌, sym, ◌∙◌, subst}
use native.Mathlib.Decide.{ℕ_discrete, dec_lt}
use native.Mathlib.Nat.{add-zero, add-suc}
use native.Mathlib.Omega.{arith}
use Prim.Native.Nat.{ℕ, zero, suc, ◌+◌, ◌-◌, ◌≤◌, ◌<◌}
use Rattle.sheet.specs.Sheet.{Sheet, node_count, module_count}
use Rattle.sheet.specs.Wiring.{used_inputs}
use Rattle.sheet.specs.WorkingOrder.{in_working_order}
use Rattle.sheet.proofs.Tests.{decided}
use Rattle.format.specs.Accepted.{Driven}
use Rattle.format.proofs.Condition.{tells_driven}
use Rattle.network.specs.Timeline.{Cells}
use Rattle.network.proofs.WorkingOrder.{working_order_lem}
use Rattle.model.specs.Store.{Store}
use Rattle.model.specs.Passes.{Settled, give, settle_one, settle}
use Rattle.model.specs.State.{State, delayed_count}
use Rattle.model.specs.Standing.{Standing, placed, given_by}
use Rattle.model.proofs.DelayedFirst.{delayed_at_most, at_once_after}
use Rattle.model.proofs.Setting.{Setting, module_total, sound, comes_level, comes_now, given_at_once, held_at_once}
use Rattle.model.proofs.Present.{Present, one_given, present_cell}
use Rattle.model.proofs.DueTick.{applied_in, applied_present, applied_delayed, applied_kept}

-- what stands after the modules of delay zero; what the tick keeps has these by computation
abbrev pub settled_in : (store : Store) → Sheet → ℕ → State store → Settled
settled_in store S t st = settle (in_working_order S) (delayed_count S) (length (in_working_order S) - delayed_count S) (applied_in store S t st)

-- the modules below position n are worked: they give what they contribute at the tick, and the others what they gave
pub record Worked (S : Sheet) (c : Cells) (t : ℕ) (held : List ℕ) (n : ℕ) (now : Settled) : Type 0 where
  pub present : Present S c t now
  pub come : (k : ℕ) → k < n → get_or now.given k 0 ≡ given_by S c k t
  pub kept : (k : ℕ) → n ≤ k → k < module_count S → get_or now.given k 0 ≡ get_or held k 0

module _ {store : Store} {S : Sheet} {c : Cells} {horizon : ℕ} (G : Setting S c horizon) (t : ℕ) (below : t < horizon) (st : State store) (stands : Standing store S c horizon t st) where
  -- a node has its cell, if no driver of it is left to be worked
  worked_cell : (n : ℕ) (now : Settled) → Worked S c t st.given n now → (v : ℕ) → v < node_count S → ((k : ℕ) → n ≤ k → k < module_count S → (placed S k).output ≡ v → ⊥)
      → get_or now.values v 0 ≡ c t v
  worked_cell n now w v h none = by (decided _ (tells_driven S v))
    where
      by : Dec (Driven S v) → get_or now.values v 0 ≡ c t v
      by (no d) = w.present.inputs v (record { node = h; undriven = d })
      by (yes d) = present_cell G t v below w.present d (λ k l e. at k l e (dec_lt k n))
        where
          at : (k : ℕ) → k < module_count S → (placed S k).output ≡ v → Dec (k < n) → get_or now.given k 0 ≡ given_by S c k t
          at k l e (yes b) = w.come k b
          at k l e (no b) = absurd (none k (omega arith) l e)

  -- one module more
  module _ (n : ℕ) (after : delayed_count S ≤ n) (h : n < module_count S) (now : Settled) (w : Worked S c t st.given n now) where
    at_once : (placed S n).delay ≡ 0
    at_once = at_once_after S n h after

    -- with what it comes to
    worked : (x : ℕ) → x ≡ given_by S c n t → x < 4 → Worked S c t st.given (suc n) (give (in_working_order S) n x now)
    worked x comes level =
        record {
          present = one_given G t w.present n h x level;
          come = λ k l. at k l (ℕ_discrete k n);
          kept = λ k l b. get_or-set_other now.given n k x 0 (λ e. omega (arith, e)) ∙ w.kept k (omega arith) b;
        }
      where
        at : (k : ℕ) → k < suc n → Dec (k ≡ n) → get_or (give (in_working_order S) n x now).given k 0 ≡ given_by S c k t
        at k l (yes e) = rw e (get_or-set_same now.given n x 0 (omega (arith, w.present.given_size)) ∙ comes)
        at k l (no d) = get_or-set_other now.given n k x 0 d ∙ w.come k (omega arith)

    -- what drives a used input of it stands before it
    one_more : Worked S c t st.given (suc n) (settle_one (in_working_order S) now n)
    one_more =
        worked _
        (comes_now G n h now.values now.given t
        (λ v u. worked_cell n now w v ((sound G n h).used v u) (λ k l b e. omega (arith, (working_order_lem S G.accepted).after k n b h at_once (subst (λ v. Memᴰ v (used_inputs (placed S n))) (sym e) u))))
        (w.kept n (omega arith) h ∙ stands.given n h ∙ held_at_once S n c t at_once)
        ∙ sym (given_at_once S n c t at_once))
        (comes_level G n h now.values now.given w.present.levels w.present.given_levels)

  none-worked : Worked S c t st.given (delayed_count S) (applied_in store S t st)
  none-worked = record { present = applied_present G t below st stands; come = applied_delayed G t below st stands; kept = applied_kept G t below st stands }

  so_many : (j : ℕ) → delayed_count S + j ≤ module_count S → Worked S c t st.given (delayed_count S + j) (settle (in_working_order S) (delayed_count S) j (applied_in store S t st))
  unfolding settle
  so_many zero h = rw add-zero none-worked
  so_many (suc j) h = rw add-suc (one_more (delayed_count S + j) (omega arith) (omega arith) _ (so_many j (omega arith)))

  pub all_worked : Worked S c t st.given (module_count S) (settled_in store S t st)
  all_worked =
      let total = module_total S in
      let most = delayed_at_most S in
      subst (λ n. Worked S c t st.given n (settled_in store S t st)) (omega arith) (so_many (length (in_working_order S) - delayed_count S) (omega arith))

  -- every node has its cell of the tick
  pub settled_cells : (v : ℕ) → v < node_count S → get_or (settled_in store S t st).values v 0 ≡ c t v
  settled_cells v h = worked_cell (module_count S) (settled_in store S t st) all_worked v h (λ k l b e. omega arith)
