-- A tick at which no event is given and no change is due leaves everything as it is, and has no record: over the cells of the tick before every module comes to what it came to there. Assumes nothing.
use borrow.Author.Tests.{eq-eqb}
use lib.ListN.{get_or, set}
use lib.Seq.{set-get_or}
use mathlib.Core.List.{List, [], ◌∷◌, Memᴰ}
use mathlib.Core.Path.{◌≡◌, refl, sym, ap, ap₂, ◌∙◌, subst}
use native.Mathlib.Decide.{dec_lt}
use native.Mathlib.Nat.{not-suc-le-zero}
use native.Mathlib.Omega.{arith}
use Prim.Native.Nat.{ℕ, zero, suc, ◌+◌, ◌-◌, ◌≤◌, ◌<◌}
use Rattle.level.specs.Rule.{comes_to}
use Rattle.level.specs.Join.{joined}
use Rattle.level.proofs.Gates.{again}
use Rattle.sheet.specs.Sheet.{Sheet, node_count, module_count, watched_node}
use Rattle.sheet.specs.Wiring.{module_rule}
use Rattle.sheet.specs.WorkingOrder.{in_working_order}
use Rattle.format.specs.Accepted.{Driven}
use Rattle.network.specs.Timeline.{Cells, input_cells}
use Rattle.network.proofs.Rising.{members_all}
use Rattle.model.specs.Store.{Store}
use Rattle.model.specs.Drive.{next_event, driven, drive_tick}
use Rattle.model.specs.Passes.{Settled, module_in, present_on, give, give_all, comes_to_now, settle_one, settle, schedule_one, schedule}
use Rattle.model.specs.Fresh.{fresh, show_all}
use Rattle.model.specs.State.{State, delayed_count}
use Rattle.model.specs.Ticks.{tick_of}
use Rattle.model.specs.Standing.{placed, ahead_of, Standing, Quiet}
use Rattle.model.proofs.Puts.{puts_same}
use Rattle.model.proofs.DelayedFirst.{delayed_at_most, delayed_listed, at_once_after}
use Rattle.model.proofs.Setting.{Setting, held_before, module_total, module_at, is_driven, ahead_step, sound, comes_over, given_at_once}
use Rattle.model.proofs.Present.{joins_before}
use Rattle.model.proofs.DriveTick.{of_tick}
use Rattle.model.proofs.DueTick.{applied_in}
use Rattle.model.proofs.SettleTick.{settled_in}
use Rattle.model.proofs.ScheduleTick.{scheduled_in}
use Rattle.model.proofs.Records.{shows}

none-fresh : (t : ℕ) (values shown vs : List ℕ) → ((v : ℕ) → Memᴰ v vs → get_or values v 0 ≡ get_or shown v 0) → fresh t values shown vs ≡ []
unfolding fresh
none-fresh t values shown [] same = refl
none-fresh t values shown (v ∷ vs) same = rw (eq-eqb (get_or values v 0) (get_or shown v 0) (same v (Memᴰ.head refl))) (none-fresh t values shown vs (λ w m. same w (Memᴰ.tail m)))

module _ {store : Store} {S : Sheet} {c : Cells} {horizon : ℕ} (G : Setting S c horizon) (u : ℕ) (below : u < horizon) (st : State store) (stands : Standing store S c horizon (suc u) st)
    (quiet : Quiet store S (suc u) st) where
  -- nothing is driven, and nothing given
  abbrev first : ℕ
  first = next_event S.drive (suc u)

  none-driven : drive_tick S.drive (suc u) st.values ≡ st.values
  unfolding driven
  none-driven = go (dec_lt first (next_event S.drive (suc (suc u))))
    where
      go : Dec (first < next_event S.drive (suc (suc u))) → driven S.drive first (next_event S.drive (suc (suc u)) - first) st.values ≡ st.values
      go (yes h) = let (b, e) = of_tick S G.accepted (suc u) first (omega arith) h in absurd (quiet.no_event first b e)
      go (no d) = let none : next_event S.drive (suc (suc u)) - first ≡ 0 = omega arith in rw none

  abbrev kept : Settled
  kept = record { values = st.values; given = st.given }

  none_applied : applied_in store S (suc u) st ≡ kept
  unfolding give_all
  none_applied = rw quiet.none_due (ap (λ v. record { values = v; given = st.given }) none-driven)

  -- over the same inputs, holding what it came to
  comes_again : (k : ℕ) → k < module_count S → (held : List ℕ) → get_or held k 0 ≡ ahead_of S c k u → comes_to_now (in_working_order S) st.values held k ≡ get_or held k 0
  comes_again k h held stood =
      comes_over G k h st.values held u (λ v m. stands.values v ((sound G k h).used v m))
      ∙ ap (comes_to (module_rule (placed S k)) (input_cells c (placed S k) u)) came
      ∙ again (module_rule (placed S k)) (input_cells c (placed S k) u) (held_before S c k u)
      ∙ sym came
    where
      came : get_or held k 0 ≡ comes_to (module_rule (placed S k)) (input_cells c (placed S k) u) (held_before S c k u)
      came = stood ∙ sym (ahead_step S k c u)

  -- what is given already, and joined
  given_again : (k x : ℕ) → k < module_count S → x ≡ get_or st.given k 0 → give (in_working_order S) k x kept ≡ kept
  given_again k x h e = ap (λ x. give (in_working_order S) k x kept) e ∙ rw (set-get_or st.given k 0) (ap (λ v. record { values = v; given = st.given }) there)
    where
      out : ℕ
      out = (module_in (in_working_order S) k).output

      o : out ≡ (placed S k).output
      o = ap (λ m. m.output) (module_at S k h)

      node : out < node_count S
      node = omega (arith, o, (sound G k h).output)

      there : set st.values out (joined (present_on (in_working_order S) st.given out)) ≡ st.values
      there =
          ap (set st.values out) (sym (stands.values out node ∙ joins_before G (suc u) out (omega arith) (subst (Driven S) (sym o) (is_driven S k h)) node st.given stands.given))
          ∙ set-get_or st.values out 0

  settled_again : (k : ℕ) → delayed_count S ≤ k → k < module_count S → settle_one (in_working_order S) kept k ≡ kept
  settled_again k l h = given_again k _ h (comes_again k h st.given (stands.given k h ∙ given_at_once S k c u (at_once_after S k h l)))

  same_settled : (j : ℕ) → delayed_count S + j ≤ module_count S → settle (in_working_order S) (delayed_count S) j kept ≡ kept
  unfolding settle
  same_settled zero h = refl
  same_settled (suc j) h =
      ap (λ s. settle_one (in_working_order S) s (delayed_count S + j)) (same_settled j (omega arith)) ∙ settled_again (delayed_count S + j) (omega arith) (omega arith)

  settled_same : settled_in store S (suc u) st ≡ kept
  settled_same = rw none_applied (same_settled _ (omega (arith, module_total S, delayed_at_most S)))

  same_scheduled : (n : ℕ) → n ≤ delayed_count S → (p : store.Kept)
      → schedule store (in_working_order S) (suc u) horizon st.values n (record { last = st.last; pending = p }) ≡ record { last = st.last; pending = p }
  unfolding schedule
  same_scheduled zero h p = refl
  same_scheduled (suc n) h p =
      ap (λ s. schedule_one store (in_working_order S) (suc u) horizon st.values s n) (same_scheduled n (omega arith) p)
      ∙ rw (eq-eqb _ _ (comes_again n (delayed_listed S n h) st.last (stands.last n h)))

  scheduled_same : scheduled_in store S horizon (suc u) st ≡ record { last = st.last; pending = st.pending }
  scheduled_same = rw (settled_same, store.rest_same st.pending stands.held (suc u) stands.holds quiet.none_due) (same_scheduled (delayed_count S) (omega arith) st.pending)

  -- what is shown are the values
  shown_values : (v : ℕ) → Memᴰ v S.watched → get_or st.values v 0 ≡ get_or st.shown v 0
  shown_values = members_all _ S.watched 0 (λ k h. stands.values (watched_node S k) (G.accepted.watched_nodes k h) ∙ sym (stands.shown k h))

  same_state : ((tick_of store S horizon (suc u) st).records ≡ []) × ((tick_of store S horizon (suc u) st).state ≡ st)
  same_state = (
    rw settled_same (none-fresh (suc u) st.values st.shown S.watched shown_values),
    ap₂ (λ s p. record { values = s.values; given = s.given; last = p.last; shown = show_all s.values st.shown S.watched; starts = st.starts; pending = p.pending }) settled_same scheduled_same
        ∙ ap (λ d. record { values = st.values; given = st.given; last = st.last; shown = d; starts = st.starts; pending = st.pending })
        (shows st.values st.shown S.watched ∙ puts_same (λ v. v) (λ v. get_or st.values v 0) S.watched st.shown shown_values),
  )

pub quiet_tick : {store : Store} {S : Sheet} {c : Cells} {horizon : ℕ} → Setting S c horizon → (t : ℕ) → 0 < t → t < horizon → (st : State store) → Standing store S c horizon t st
    → Quiet store S t st → ((tick_of store S horizon t st).records ≡ []) × ((tick_of store S horizon t st).state ≡ st)
quiet_tick G zero some below st stands quiet = absurd (not-suc-le-zero some)
quiet_tick G (suc u) some below st stands quiet = same_state G u (omega arith) st stands quiet
