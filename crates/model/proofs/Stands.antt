-- What the run keeps stands in the cells before every tick up to the horizon: it does before tick 0, and a tick hands it on. So its records are the listing and its pending changes
-- are as many as the cells have, whatever keeps them. Assumes nothing.
use lib.Dec.{T}
use lib.ListN.{length, get_or}
use mathlib.Core.List.Memᴰ
use mathlib.Core.List.{[]}
use mathlib.Core.Path.{◌≡◌, refl, ◌∙◌}
use native.Mathlib.Nat.{not-suc-le-zero}
use native.Mathlib.Omega.{arith}
use Prim.Native.Nat.{ℕ, zero, suc, ◌<◌, ◌≤◌}
use Rattle.level.specs.Table.{table_start, tabled}
use Rattle.level.proofs.Gates.{has_start}
use Rattle.sheet.specs.Enumerate.{each}
use Rattle.sheet.specs.Sheet.{Sheet, watched_node}
use Rattle.sheet.specs.WorkingOrder.{in_working_order}
use Rattle.network.specs.Timeline.{Cells}
use Rattle.network.specs.Listing.{listing, pending}
use Rattle.model.specs.Store.{Store}
use Rattle.model.specs.Passes.{module_in}
use Rattle.model.specs.State.{State}
use Rattle.model.specs.Ticks.{Begun, tick_of, state_at, records_below}
use Rattle.model.specs.Standing.{Owed, Standing}
use Rattle.model.proofs.DelayedFirst.{delayed_listed}
use Rattle.model.proofs.Setting.{Setting, cell_level}
use Rattle.model.proofs.SettleTick.{all_worked, settled_cells}
use Rattle.model.proofs.Decided.{none_early}
use Rattle.model.proofs.Held.{all_held}
use Rattle.model.proofs.ScheduleTick.{all_planned}
use Rattle.model.proofs.PendingCount.{pending_count}
use Rattle.model.proofs.Records.{tick_records, shown_size, now_shown}

module _ {store : Store} {S : Sheet} {c : Cells} {horizon : ℕ} (G : Setting S c horizon) where
  -- one tick
  pub next_stands : (t : ℕ) → t < horizon → (st : State store) → Standing store S c horizon t st → Standing store S c horizon (suc t) (tick_of store S horizon t st).state
  next_stands t h st stands =
      let worked = all_worked G t h st stands in
      let planned = all_planned G t h st stands in
      let cells = settled_cells G t h st stands in
      record {
        values_size = worked.present.values_size;
        levels = worked.present.levels;
        values = cells;
        given_size = worked.present.given_size;
        given_levels = worked.present.given_levels;
        given = worked.come;
        last_size = planned.last.size;
        last_levels = planned.last.levels;
        last = planned.last.come;
        shown_size = shown_size S c t G.accepted _ st.shown cells stands.shown_size;
        shown = now_shown S c t G.accepted _ st.shown cells stands.shown_size;
        starts = stands.starts;
        held = planned.changes;
        holds = planned.pending.holds;
        owing = all_held G t planned.pending (λ k l. l);
      }

  module _ (st : State store) (begun : Begun store S st) where
    -- before tick 0 nothing is owed
    before-first : Standing store S c horizon 0 st
    before-first =
        record {
          values_size = begun.values_size;
          levels = begun.levels;
          values = begun.values;
          given_size = begun.given_size;
          given_levels = begun.given_levels;
          given = begun.given;
          last_size = begun.last_size;
          last_levels = begun.last_levels;
          last = λ k h. begun.last k (delayed_listed S k h);
          shown_size = begun.shown_size;
          shown = λ k h. begun.shown (watched_node S k) (omega (arith, G.accepted.watched_nodes k h, G.accepted.nodes));
          starts = begun.starts;
          held = [];
          holds = rw begun.pending store.holds_nothing;
          owing = record { owed = λ x m. absurd (Memᴰ.not-nil m); pending = λ k u o. absurd (none k u o); once = λ i j h b d e. not-suc-le-zero b };
        }
      where
        none : (k u : ℕ) → Owed S c horizon 0 k u → ⊥
        none k u o = none_early S c k o.delayed u o.later (omega (arith, o.decided)) o.differs

    pub stands : (t : ℕ) → t ≤ horizon → Standing store S c horizon t (state_at store S horizon st t)
    unfolding state_at
    stands zero h = before-first
    stands (suc t) h = next_stands t h (state_at store S horizon st t) (stands t (omega arith))

    -- in each tick what is kept for a module that has a table is where its kind's table begins
    pub tables_begin : (t : ℕ) → t ≤ horizon → (k : ℕ) → k < length (in_working_order S) → T (tabled (module_in (in_working_order S) k).kind)
        → get_or (state_at store S horizon st t).starts k 0 ≡ table_start (module_in (in_working_order S) k).kind
    tables_begin t h k l has = (stands t h).starts k l ∙ has_start (module_in (in_working_order S) k).kind has

    -- the records of the ticks below a bound are the listing that the cells give
    pub records : (t : ℕ) → t ≤ horizon → records_below store S horizon st t ≡ listing S c t
    unfolding records_below state_at each
    records zero h = refl
    records (suc t) h =
        rw (
          records t (omega arith),
          tick_records S c t G.accepted _ (state_at store S horizon st t).shown (stands (suc t) h).values (λ v. cell_level G t v h) (stands t (omega arith)).shown,
        )

    -- as many changes are pending after a tick as the cells have
    pub pendings : (t : ℕ) → t < horizon → store.count (state_at store S horizon st (suc t)).pending ≡ length (pending S c horizon t)
    pendings t h =
        let next = stands (suc t) h in
        store.counts (state_at store S horizon st (suc t)).pending next.held next.holds ∙ pending_count S c horizon t next.held next.owing
