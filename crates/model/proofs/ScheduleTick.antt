-- After the delayed modules are scheduled, each of them came last to what it comes to at the tick, and the store holds what is owed before the next one: the pass reads settled values, and at
-- its own position what the module came to before; what differs from that is scheduled, if it is due below the horizon. Assumes nothing.
use borrow.Author.Tests.{eqb-true, eqb-false, ltb-true, ltb-false}
use lib.Dec.{eqb, ltb}
use lib.ListN.{length, get_or, set, length-set}
use lib.Seq.{get_or-set_same, get_or-set_other, set-get_or}
use mathlib.Core.Bool.{Bool, true, false}
use mathlib.Core.List.{List, [], ◌∷◌, ◌++◌}
use mathlib.Core.Path.{◌≡◌, refl, sym, ap, ap₂, ◌∙◌}
use native.Mathlib.Decide.{ℕ_discrete}
use native.Mathlib.Omega.{arith}
use Prim.Native.Nat.{ℕ, zero, suc, ◌+◌, ◌≤◌, ◌<◌}
use Rattle.std.specs.Prelude.{if◌then◌else◌}
use Rattle.sheet.specs.Sheet.{Sheet, module_count}
use Rattle.sheet.specs.WorkingOrder.{in_working_order}
use Rattle.network.specs.Timeline.{Cells}
use Rattle.model.specs.Change.{Change, not_due}
use Rattle.model.specs.Store.{Store}
use Rattle.model.specs.Passes.{Settled, Scheduled, schedule_one, schedule}
use Rattle.model.specs.State.{State, delayed_count}
use Rattle.model.specs.Standing.{Standing, Owed, placed, ahead_of, change_at}
use Rattle.model.proofs.Puts.{Leveled, set_level}
use Rattle.model.proofs.DelayedFirst.{delayed_listed}
use Rattle.model.proofs.Setting.{Setting, held_before, module_at, sound, comes_level, comes_now}
use Rattle.model.proofs.SettleTick.{settled_in, all_worked, settled_cells}
use Rattle.model.proofs.Decided.{some_delay, given_due, decided}
use Rattle.model.proofs.Held.{Held, not_due_lem, none-put, one_put}

-- What the delayed modules came to last, as they are scheduled one after the other: those below n to what they come to at the tick, and the others to what they held.
pub record Came (S : Sheet) (c : Cells) (t n : ℕ) (held last : List ℕ) : Type 0 where
  pub size : length last ≡ 256
  pub levels : Leveled last
  pub come : (k : ℕ) → k < n → get_or last k 0 ≡ ahead_of S c k t
  pub kept : (k : ℕ) → n ≤ k → get_or last k 0 ≡ get_or held k 0

module _ {S : Sheet} {c : Cells} {t n : ℕ} {held last : List ℕ} (w : Came S c t n held last) where
  one_comes : n < 256 → (x : ℕ) → x ≡ ahead_of S c n t → x < 4 → Came S c t (suc n) held (set last n x)
  one_comes h x comes level =
      record {
        size = length-set last n x ∙ w.size;
        levels = set_level last n x level w.levels;
        come = λ k b. at k b (ℕ_discrete k n);
        kept = λ k l. get_or-set_other last n k x 0 (λ e. omega (arith, e)) ∙ w.kept k (omega arith);
      }
    where
      at : (k : ℕ) → k < suc n → Dec (k ≡ n) → get_or (set last n x) k 0 ≡ ahead_of S c k t
      at k b (yes e) = rw e (get_or-set_same last n x 0 (omega (arith, w.size)) ∙ comes)
      at k b (no d) = get_or-set_other last n k x 0 d ∙ w.come k (omega arith)

abbrev pub scheduled_in : (store : Store) → Sheet → (horizon t : ℕ) → State store → Scheduled store
scheduled_in store S horizon t st =
    schedule store (in_working_order S) t horizon (settled_in store S t st).values (delayed_count S)
    (record { last = st.last; pending = store.rest st.pending t })

-- the first n delayed modules are scheduled
pub record Planned (store : Store) (S : Sheet) (c : Cells) (horizon t : ℕ) (before : List ℕ) (n : ℕ) (now : Scheduled store) : Type 0 where
  pub last : Came S c t n before now.last
  pub changes : List Change
  pub pending : Held store S c horizon t n now.pending changes

module _ {store : Store} {S : Sheet} {c : Cells} {horizon : ℕ} (G : Setting S c horizon) (t : ℕ) (before : List ℕ) where
  -- one module more, with what it comes to and the tick at which that is due
  module _ (n : ℕ) (h : n < delayed_count S) (now : Scheduled store) (p : Planned store S c horizon t before n now) (held : get_or now.last n 0 ≡ held_before S c n t)
      (x due : ℕ) (comes : x ≡ ahead_of S c n t) (level : x < 4) (delayed : due ≡ t + (placed S n).delay) where
    abbrev change : Change
    change = record { due = due; position = n; value = x }

    last_next : Came S c t (suc n) before (set now.last n x)
    last_next = one_comes p.last (omega (arith, delayed_listed S n h, G.accepted.modules)) x comes level

    planned : (same : Bool) → eqb x (get_or now.last n 0) ≡ same → (soon : Bool) → ltb due horizon ≡ soon
        → Planned store S c horizon t before (suc n) (if same then now else record { last = set now.last n x; pending = if soon then store.put now.pending change else now.pending })
    planned true e soon f =
        record {
          last = rw (eqb-true x (get_or now.last n 0) e, set-get_or) at last_next;
          changes = p.changes;
          pending = none-put G t n p.pending (λ w. (decided S c n h t).0 w.differs (sym comes ∙ eqb-true x (get_or now.last n 0) e ∙ held));
        }
    planned false e true f =
        let below : t + (placed S n).delay < horizon = omega (arith, ltb-true due horizon f) in
        let some = some_delay S n h in
        let w : Owed S c horizon (suc t) n (t + (placed S n).delay)
        = record {
          delayed = h;
          due = omega arith;
          decided = omega arith;
          below = below;
          later = omega arith;
          differs = (decided S c n h t).1 (λ i. eqb-false x (get_or now.last n 0) e (comes ∙ i ∙ sym held));
        } in
        let same : change ≡ change_at S c n (t + (placed S n).delay) = ap₂ (λ u y. record { due = u; position = n; value = y }) delayed (comes ∙ sym (given_due S n c t)) in
        record { last = last_next; changes = p.changes ++ change_at S c n (t + (placed S n).delay) ∷ []; pending = rw same (one_put G t n p.pending w) }
    planned false e false f =
        record { last = last_next; changes = p.changes; pending = none-put G t n p.pending (λ w. omega (arith, ltb-false due horizon f, w.below)) }

module _ {store : Store} {S : Sheet} {c : Cells} {horizon : ℕ} (G : Setting S c horizon) (t : ℕ) (below : t < horizon) (st : State store) (stands : Standing store S c horizon t st) where
  abbrev settled : Settled
  settled = settled_in store S t st

  abbrev start : Scheduled store
  start = record { last = st.last; pending = store.rest st.pending t }

  so_many : (n : ℕ) → n ≤ delayed_count S → Planned store S c horizon t st.last n (schedule store (in_working_order S) t horizon settled.values n start)
  unfolding schedule
  so_many zero h =
      record {
        last = record { size = stands.last_size; levels = stands.last_levels; come = λ k b. absurd (omega arith); kept = λ k l. refl };
        changes = not_due t stands.held;
        pending = not_due_lem G t st stands;
      }
  so_many (suc n) h = one_more _ (so_many n (omega arith))
    where
      listed : n < module_count S
      listed = delayed_listed S n h

      one_more : (now : Scheduled store) → Planned store S c horizon t st.last n now
          → Planned store S c horizon t st.last (suc n) (schedule_one store (in_working_order S) t horizon settled.values now n)
      one_more now p =
          planned G t st.last n h now p held _ _
          (comes_now G n listed settled.values now.last t (λ v u. settled_cells G t below st stands v ((sound G n listed).used v u)) held)
          (comes_level G n listed settled.values now.last (all_worked G t below st stands).present.levels p.last.levels)
          (ap (λ m. t + m.delay) (module_at S n listed)) _ refl _ refl
        where
          held : get_or now.last n 0 ≡ held_before S c n t
          held = p.last.kept n (omega arith) ∙ stands.last n h

  pub all_planned : Planned store S c horizon t st.last (delayed_count S) (scheduled_in store S horizon t st)
  all_planned = so_many (delayed_count S) (omega arith)
