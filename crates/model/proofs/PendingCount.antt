-- As many changes are held as the cells have pending: a change is of a module's position in the working order and a tick, and a pending pair of the module and the tick. Assumes nothing.
use lib.ListN.{length}
use mathlib.Core.List.{List, Memᴰ}
use mathlib.Core.Path.{◌≡◌, sym, ap, subst}
use native.Mathlib.Decide.{dec_lt}
use native.Mathlib.Omega.{arith}
use Prim.Native.Nat.{ℕ, suc, ◌<◌}
use Rattle.sheet.specs.Sheet.{Sheet, module_count}
use Rattle.network.specs.Timeline.{Cells}
use Rattle.network.specs.Listing.{Pending, pending}
use Rattle.network.proofs.Listed.{position}
use Rattle.network.proofs.WorkingOrder.{every_module_once}
use Rattle.model.specs.Change.{Change}
use Rattle.model.specs.Ticks.{ordered_at}
use Rattle.model.specs.Standing.{Owed, change_at, Owing}
use Rattle.model.proofs.Matched.{same_length}
use Rattle.model.proofs.DelayedFirst.{delayed_listed, delayed_first}
use Rattle.model.proofs.Setting.{known}
use Rattle.model.proofs.Held.{owing_pairs}
use Rattle.model.proofs.PendingListed.{IsPending, is-pending, pending-is, pending_pairs}

module _ (S : Sheet) where
  -- a module's position
  place : (m : ℕ) → Dec (m < module_count S) → ℕ
  place m (yes h) = (position (every_module_once S) m h).0
  place m (no d) = 0

  placed_at : (m : ℕ) → m < module_count S → (d : Dec (m < module_count S)) → (place m d < module_count S) × (ordered_at S (place m d) ≡ m)
  unfolding place
  placed_at m h (yes l) = let p = position (every_module_once S) m l in (p.1, p.2)
  placed_at m h (no d) = absurd (d h)

  abbrev place_of : ℕ → ℕ
  place_of m = place m (dec_lt m (module_count S))

  module _ (c : Cells) (horizon t : ℕ) (l : List Change) (o : Owing S c horizon (suc t) l) where
    abbrev pair_of : Change → Pending
    pair_of x = record { driver = ordered_at S x.position; due = x.due }

    abbrev change_of : Pending → Change
    change_of q = change_at S c (place_of q.driver) q.due

    -- owed before the next tick is pending after this one
    to_pair : (x : Change) → Memᴰ x l → Memᴰ (pair_of x) (pending S c horizon t) × (change_of (pair_of x) ≡ x)
    to_pair x i =
        let (k, u, w, e) = o.owed x i in
        let h = delayed_listed S k w.delayed in
        let (b, f) = placed_at (ordered_at S k) (known S k h) (dec_lt (ordered_at S k) (module_count S)) in
        rw e (
          pending-is S c horizon t (record { driver = ordered_at S k; due = u }) (record { listed = known S k h; above = w.due; at_most = omega (arith, w.decided); below = w.below; differs = w.differs }),
          ap (λ k. change_at S c k u) ((every_module_once S).once _ k b h f),
        )

    to_change : (q : Pending) → Memᴰ q (pending S c horizon t) → Memᴰ (change_of q) l × (pair_of (change_of q) ≡ q)
    to_change q i =
        let r = is-pending S c horizon t q i in
        let (h, e) = placed_at q.driver r.listed (dec_lt q.driver (module_count S)) in
        (o.pending (place_of q.driver) q.due (owed (place_of q.driver) h (subst (λ m. IsPending S c horizon t (record { driver = m; due = q.due })) (sym e) r)), ap (λ m. record { driver = m; due = q.due }) e)
      where
        owed : (k : ℕ) → k < module_count S → IsPending S c horizon t (record { driver = ordered_at S k; due = q.due }) → Owed S c horizon (suc t) k q.due
        owed k h p =
            record {
              delayed = (delayed_first S k h).1 (λ e. omega (arith, p.above, p.at_most));
              due = p.above;
              decided = omega (arith, p.at_most);
              below = p.below;
              later = omega (arith, p.above);
              differs = p.differs;
            }

    pub pending_count : length l ≡ length (pending S c horizon t)
    pending_count = same_length pair_of change_of l (pending S c horizon t) (owing_pairs o) (pending_pairs S c horizon t) to_pair to_change
