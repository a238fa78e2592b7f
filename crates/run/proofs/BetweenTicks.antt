-- The ticks of a run: what is kept before a tick is the model's state, the listing holds the records of the ticks before, and all of these passed.
-- The model's laws then tell the answer. Assumes nothing.
use borrow.Author.Tests.{le-ltb}
use mathlib.Core.List.{List, [], ◌++◌, Memᴰ}
use mathlib.Core.Path.{◌≡◌, refl, sym, ap, ap₂, ◌∙◌, subst}
use Prim.Native.Nat.{ℕ, zero, suc, ◌+◌, ◌*◌, ◌<◌, ◌≤◌}
use native.Mathlib.Decide.{ℕ_discrete}
use native.Mathlib.Numerals.{add-one}
use native.Mathlib.Omega.{arith}
use lib.ListN.{length, take, length-append}
use lib.Seq.{take_all}
use Rattle.sheet.specs.declared.Event.{Event}
use Rattle.sheet.specs.Limits.{pending_limit}
use Rattle.sheet.specs.Outcome.{Outcome, finished, refused}
use Rattle.sheet.specs.Sheet.{Sheet}
use Rattle.sheet.specs.WorkingOrder.{in_working_order}
use Rattle.network.specs.Timeline.{Cells}
use Rattle.network.specs.Listing.{Record, listing}
use Rattle.network.specs.Ends.{ended_listing}
use Rattle.network.specs.Buffer.{room, buffer_after}
use Rattle.network.specs.Run.{wrote, cells_of, ran_sheet, Leaves}
use Rattle.network.proofs.Listing.{listed_shown}
use Rattle.model.specs.Change.{Change}
use Rattle.model.specs.Drive.{event_in, events_below, next_event}
use Rattle.model.specs.Fresh.{fresh, show_all}
use Rattle.model.specs.Passes.{module_in}
use Rattle.model.specs.State.{State, Loaded, delayed_count}
use Rattle.model.specs.Standing.{Standing}
use Rattle.model.specs.Ticks.{tick_of, state_at, records_below}
use Rattle.model.proofs.DelayedFirst.{delayed_listed}
use Rattle.model.proofs.Setting.{module_total}
use Rattle.model.proofs.Stands.{stands}
use Rattle.model.proofs.Ran.{Passes, setting, so_far, full, crowded, whole}
use Rattle.pending.specs.Kept.{arrangement}
use Rattle.tick.specs.declared.fixed.Network.{Network}
use Rattle.tick.specs.declared.carried.Carried.{Carried}
use Rattle.tick.specs.Rows.{modules_in}
use Rattle.tick.specs.Rest.{Placed}
use Rattle.tick.specs.Tick.{settled, TalliedIn, Workable, worked_tick, worked_from, Worked}
use Rattle.tick.proofs.Rows.{length_modules}
use Rattle.listing.specs.declared.Listing.{Listing}
use Rattle.listing.specs.Ends.{with_ends, ends_for, Holding}
use Rattle.listing.specs.Step.{NoRoom, RecordsWritten}
use Rattle.listing.proofs.CellEnds.{cell_ends}
use Rattle.listing.proofs.FreshLists.{fresh_few}
use Rattle.listing.proofs.Holding.{nothing_yet, all_have_end}
use Rattle.load.proofs.Begun.{apart}
use Rattle.run.specs.Ready.{kept, Ready}

-- before tick t: what is carried and the listing, from what the ticks began with
pub record BetweenTicks (S : Sheet) (network : Network) (st : State arrangement) (buffer : List ℕ) (t : ℕ) (carried : Carried) (listing : Listing) : Type 0 where
  pub within : t ≤ network.horizon
  pub driven : carried.next ≡ next_event S.drive t
  pub state : kept network carried listing ≡ state_at arrangement S network.horizon st t
  pub few : arrangement.count carried.ahead.pending.kept ≤ pending_limit
  pub tallied : TalliedIn network carried.present
  pub holding : Holding buffer (records_below arrangement S network.horizon st t) listing
  pub bounded : listing.written ≤ 256 * t
  pub passed : (u : ℕ) → u < t → Passes arrangement S network.horizon st (length buffer) u

-- no event is before tick 0
none_before : (drive : List Event) (n : ℕ) → 0 ≡ events_below drive 0 n
unfolding events_below
none_before drive zero = refl
none_before drive (suc n) = rw (← none_before drive n, le-ltb (event_in drive n).tick 0 (omega arith))

same_state : {v v' g g' l l' d d' s p p' : List ℕ} → v ≡ v' → g ≡ g' → l ≡ l' → d ≡ d' → p ≡ p'
    → ◌≡◌ {A = State arrangement} (record { values = v; given = g; last = l; shown = d; starts = s; pending = p }) (record { values = v'; given = g'; last = l'; shown = d'; starts = s; pending = p' })
same_state e i f g h = rw (e, i, f, g, h)

module _ {S : Sheet} {network : Network} {first : Carried} {watched : List ℕ} {lent : Listing} (R : Ready S network first watched lent) where
  abbrev horizon : ℕ
  horizon = network.horizon

  abbrev buffer : List ℕ
  buffer = lent.bytes.now

  abbrev st : State arrangement
  st = kept network first lent

  abbrev Between : ℕ → Carried → Listing → Type 0
  Between = BetweenTicks S network st buffer

  -- the records of the ticks below a bound
  abbrev below : ℕ → List Record
  below = records_below arrangement S horizon st

  -- they are the listing's, of watched nodes
  abbrev cells : Cells
  cells = cells_of S horizon

  below_listed : (t : ℕ) → t ≤ horizon → below t ≡ listing S cells t
  below_listed = so_far R.accepted horizon st R.begun 0

  among_watched : (t : ℕ) → t ≤ horizon → (r : Record) → Memᴰ r (below t) → Memᴰ r.node (take (length watched) watched)
  among_watched t h r m =
      rw (take_all (length watched) watched (omega arith))
      (subst (Memᴰ r.node) (sym R.watched_there) ((listed_shown S cells t r).0 (rw (below_listed t h) at m)).watched)

  pub start : Between 0 first lent
  unfolding state_at records_below
  start =
      record {
        within = omega arith;
        driven = R.first_event ∙ none_before S.drive (length S.drive);
        state = refl;
        few = rw R.begun.pending (omega arith);
        tallied = R.tallied;
        holding = nothing_yet lent R.none_written R.none_placed;
        bounded = omega (arith, R.none_written);
        passed = λ u h. absurd (omega arith);
      }

  -- what a run that ends so leaves
  module _ (bytes : List ℕ) where
    abbrev pub Ended : Outcome → Type 0
    Ended o = Leaves (ran_sheet S horizon (length buffer)) buffer o bytes

    -- its records are those below a bound, and what lasts ends there
    ended : (n t : ℕ) (o : ℕ → Outcome) → t ≤ horizon → n ≡ length (below t) → bytes ≡ buffer_after (with_ends (ends_for watched t (length watched)) (below t)) buffer
        → ran_sheet S horizon (length buffer) ≡ wrote (o (length (below t))) (ended_listing S cells t) → Ended (o n)
    ended n t o h counted left e =
        record {
          answered = ap o counted ∙ sym (ap (λ w. w.answer) e);
          left = left ∙ ap (λ rs. buffer_after rs buffer) (all_have_end watched t (length watched) (below t) (among_watched t h) ∙ ap (with_ends (λ v. t)) (below_listed t h) ∙ cell_ends cells t S R.accepted ∙ sym (ap (λ w. w.records) e));
        }

  module _ {t : ℕ} {before : Carried} {written : Listing} (G : Between t before written) where
    -- what is kept before the tick stands in the cells
    standing : Standing arrangement S cells horizon t (state_at arrangement S horizon st t)
    standing = stands (setting R.accepted horizon) st R.begun t G.within

    module _ (h : t < horizon) where
      -- each change that is due is of a module in the rows
      due_placed : Placed (length network.rows.now) (arrangement.due before.ahead.pending.kept t)
      due_placed x m =
          let s = standing in
          let holds = subst (λ k. arrangement.Holds k s.held) (sym (ap (λ x. x.pending) G.state)) s.holds in
          let in_held = ((arrangement.tells_due before.ahead.pending.kept s.held t holds x).0 m).0 in
          let o = s.owing.owed x in_held in
          omega (arith, delayed_listed S o.0 o.2.delayed, ap (λ (y : Change). y.position) o.3, length_modules network.rows.now, ap length R.modules, module_total S)

      pub workable : Workable network t before
      workable =
          record {
            starts_kept = rw (R.modules, ap (λ x. x.starts) G.state) standing.starts;
            apart = λ e k l m. apart_here e k l (rw (length_modules network.rows.now) m);
            next = rw R.drive G.driven;
            few_pending = G.few;
            placed = due_placed;
            below = h;
            tallied = G.tallied;
          }
        where
          apart_here : (e k : ℕ) → e < length network.drive.now → k < length (modules_in network.rows.now) → (event_in network.drive.now e).node ≡ (module_in (modules_in network.rows.now) k).output → ⊥
          apart_here = rw (R.drive, R.modules) (apart S R.accepted)

      -- A tick, from what is kept before it and what its work makes of that.
      module _ {after : Carried} (W : Worked network t before after) where
        -- the records of the tick
        abbrev these : List Record
        these = fresh t after.present.values written.values watched

        -- the same over the sheet: the watched nodes do not matter to the modules' work
        abbrev bare : Loaded
        bare = record { drive = S.drive; modules = in_working_order S; delayed = delayed_count S; watched = [] }

        same_work : worked_from network t before ≡ worked_tick bare horizon t (settled network.rows.now before.present) before.ahead.last before.ahead.pending.kept
        same_work = ap (λ l. worked_tick l horizon t (settled network.rows.now before.present) before.ahead.last before.ahead.pending.kept) (rw (R.drive, R.modules, R.delayed) refl)

        -- the model's state after the tick
        abbrev next_state : State arrangement
        next_state = (tick_of arrangement S horizon t (kept network before written)).state

        values_next : after.present.values ≡ next_state.values
        values_next = W.values_worked ∙ ap (λ x. x.values) same_work

        pending_next : after.ahead.pending.kept ≡ (state_at arrangement S horizon st (suc t)).pending
        unfolding state_at
        pending_next = W.pending_worked ∙ ap (λ x. x.pending) same_work ∙ ap (λ x. (tick_of arrangement S horizon t x).state.pending) G.state

        pending_now : arrangement.count (state_at arrangement S horizon st (suc t)).pending ≡ arrangement.count after.ahead.pending.kept
        pending_now = ap arrangement.count (sym pending_next)

        these_records : these ≡ (tick_of arrangement S horizon t (state_at arrangement S horizon st t)).records
        these_records =
            ap₂ (λ values nodes. fresh t values written.values nodes) values_next R.watched_there
            ∙ ap (λ x. (tick_of arrangement S horizon t x).records) G.state

        below_next : below (suc t) ≡ below t ++ these
        unfolding records_below
        below_next = ap (λ rs. below t ++ rs) (sym these_records)

        below_length : length (below (suc t)) ≡ length (below t) + length these
        below_length = ap length below_next ∙ length-append (below t) these

        few_these : length these ≤ 256
        few_these = omega (arith, fresh_few after.present.values written.values t watched, ap length R.watched_there, R.accepted.watched)

        -- 19: no room for its records, and what lasts ends at this tick
        module _ {now : Listing} (N : NoRoom buffer (below t) written t watched after.present.values now) where
          pub full_holding : Holding buffer (below t) now
          full_holding = rw N.untouched G.holding

          pub told_full : (n : ℕ) → n ≡ now.written → (bytes : List ℕ) → bytes ≡ buffer_after (with_ends (ends_for watched t (length watched)) (below t)) buffer → Ended bytes (refused 19 t n)
          told_full n e bytes left =
              ended bytes n t (refused 19 t) G.within (e ∙ full_holding.counted) left
              (full R.accepted horizon st R.begun (length buffer) t h G.passed (rw below_length N.over))

        -- the records are written
        module _ (fits : length (below t) + length these ≤ room (length buffer)) {now : Listing} (D : RecordsWritten buffer (below t) written t watched after.present.values now) where
          pub all_held : Holding buffer (below (suc t)) now
          all_held = rw below_next D.holding

          few_written : now.written ≤ 256 * suc t
          few_written = omega (arith, D.holding.counted, length-append (below t) these, G.holding.counted, G.bounded, few_these)

          -- the count is a number of 32 bits
          pub few_left : now.written < 4294967296
          few_left = omega (arith, few_written, network.few_ticks)

          -- 20: too many changes pending, and what lasts ends at the tick after
          pub told_crowded : pending_limit < arrangement.count after.ahead.pending.kept
              → (n : ℕ) → n ≡ now.written → (bytes : List ℕ) → bytes ≡ buffer_after (with_ends (ends_for watched (t + 1) (length watched)) (below (suc t))) buffer → Ended bytes (refused 20 t n)
          told_crowded many n e bytes left =
              ended bytes n (suc t) (refused 20 t) h (e ∙ all_held.counted) (left ∙ ap (λ k. buffer_after (with_ends (ends_for watched k (length watched)) (below (suc t))) buffer) (add-one t))
              (crowded R.accepted horizon st R.begun (length buffer) t h G.passed (rw below_length fits) (rw pending_now many))

          -- on to the next tick
          module _ (few : arrangement.count after.ahead.pending.kept ≤ pending_limit) where
            shown_next : now.values ≡ next_state.shown
            shown_next = D.now_shown ∙ ap₂ (λ values nodes. show_all values written.values nodes) values_next R.watched_there

            state_next : kept network after now ≡ state_at arrangement S horizon st (suc t)
            unfolding state_at
            state_next =
                same_state values_next (W.given_worked ∙ ap (λ x. x.given) same_work) (W.last_worked ∙ ap (λ x. x.last) same_work) shown_next (W.pending_worked ∙ ap (λ x. x.pending) same_work)
                ∙ ap (λ x. (tick_of arrangement S horizon t x).state) G.state

            pub told_next : Between (suc t) after now
            told_next =
                record {
                  within = h;
                  driven = rw R.drive at W.next;
                  state = state_next;
                  few = few;
                  tallied = W.tallied;
                  holding = all_held;
                  bounded = few_written;
                  passed = λ u. here u (ℕ_discrete u t);
                }
              where
                here : (u : ℕ) → Dec (u ≡ t) → u < suc t → Passes arrangement S horizon st (length buffer) u
                here u (yes e) l = rw e (record { room_left = rw below_length fits; few_pending = rw pending_now few })
                here u (no d) l = G.passed u (omega arith)

    -- the horizon is reached, and what lasts ends there
    pub reached : horizon ≤ t → (n : ℕ) → n ≡ written.written → (bytes : List ℕ) → bytes ≡ buffer_after (with_ends (ends_for watched horizon (length watched)) (below t)) buffer → Ended bytes (finished n)
    reached past n e bytes left =
        ended bytes n t finished G.within (e ∙ G.holding.counted) (left ∙ ap (λ k. buffer_after (with_ends (ends_for watched k (length watched)) (below t)) buffer) all)
        (subst (λ k. ran_sheet S horizon (length buffer) ≡ wrote (finished (length (below k))) (ended_listing S cells k)) all
        (whole R.accepted horizon st R.begun (length buffer) (λ u l. G.passed u (omega arith))))
      where
        all : horizon ≡ t
        all = omega (arith, G.within)
