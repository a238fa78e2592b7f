-- The drive's pass of a tick is the drive's definition at each node. Events of a tick stand together, since ticks do not fall: an event's number is below that of the first event not before
-- tick t just where its own tick is below t. So the tick's events are put in, no two of a node differ in value, an input has its cell of the tick, and a driven node keeps its value. Assumes nothing.
use borrow.Author.Tests.{eq-eqb, ltb-true, lt-ltb}
use lib.Dec.{eqb, ltb}
use lib.ListN.{length, get_or}
use mathlib.Core.Bool.{Bool, true, false, ◌&&◌}
use mathlib.Core.List.Memᴰ
use mathlib.Core.List.{List, [], ◌∷◌, Memᴰ}
use mathlib.Core.Logic.{◌↔◌, ◌⊎◌, inl, inr, ⊎_elim}
use mathlib.Core.Path.{◌≡◌, refl, sym, ap, ◌∙◌, subst}
use native.Mathlib.Decide.{dec_lt}
use native.Mathlib.Omega.{arith}
use Prim.Native.Nat.{ℕ, zero, suc, ◌+◌, ◌-◌, ◌≤◌, ◌<◌}
use Rattle.std.specs.Prelude.{if◌then◌else◌}
use Rattle.level.specs.Level.{unknown}
use Rattle.sheet.specs.declared.Event.{Event}
use Rattle.sheet.specs.Enumerate.{each, listed}
use Rattle.sheet.specs.Limits.{input_byte}
use Rattle.sheet.specs.Sheet.{Sheet, node_count, node_byte, no_event, event_count, event_of}
use Rattle.sheet.proofs.Each.{each-mem}
use Rattle.sheet.proofs.Listed.{get_or-mem}
use Rattle.sheet.proofs.Tests.{tells_below, decided, fails}
use Rattle.format.specs.Accepted.{Accepted, Driven, Input}
use Rattle.network.specs.Timeline.{Cells, given, drive_cell}
use Rattle.network.proofs.Rising.{mem_place, members_all}
use Rattle.network.proofs.Drivable.{drivable}
use Rattle.network.proofs.Drive.{On, on_test}
use Rattle.network.proofs.Count.{count, count_at_most}
use Rattle.model.specs.Drive.{next_event, driven, drive_tick, events_below}
use Rattle.model.specs.State.{first_value}
use Rattle.model.specs.Standing.{before}
use Rattle.model.proofs.Puts.{Leveled, puts, puts_append, puts_length, puts_levels, puts_at}
use Rattle.model.proofs.Setting.{Setting, input_cell}
use Rattle.model.proofs.FirstOnes.{first_ones}

module _ (S : Sheet) (t : ℕ) where
  below_count : (n : ℕ) → events_below S.drive t n ≡ count n (λ e. ltb (event_of S e).tick t)
  unfolding events_below count
  below_count zero = refl
  below_count (suc n) = rw (below_count n)

  pub next_at_most : next_event S.drive t ≤ event_count S
  next_at_most = rw (below_count (event_count S)) (count_at_most (event_count S) (λ e. ltb (event_of S e).tick t))

  pub before_next : Accepted S → (e : ℕ) → e < event_count S → e < next_event S.drive t ↔ ((event_of S e).tick < t)
  before_next acc e h = rw (below_count (event_count S)) (λ b. ltb-true (event_of S e).tick t (ones.0 b), λ b. ones.1 (lt-ltb (event_of S e).tick t b))
    where
      byte : (e : ℕ) → e < event_count S → (event_of S e).node < 256
      byte e h = omega (arith, (acc.sound_events e h).node.node, acc.nodes)

      ones : e < count (event_count S) (λ e. ltb (event_of S e).tick t) ↔ (ltb (event_of S e).tick t ≡ true)
      ones =
          first_ones (λ e. ltb (event_of S e).tick t) (event_count S)
          (λ j k l h p. lt-ltb (event_of S j).tick t (omega (arith, acc.drive_rises j k l h, byte j (omega arith), byte k h, ltb-true (event_of S k).tick t p))) e h

-- what the drive gives, where all events give one value and there is one or it stood there
module _ (v t b w : ℕ) where
  given_at : (es : List Event) → ((e : Event) → Memᴰ e es → On v t e → e.value ≡ w) → (b ≡ w) ⊎ ((e : Event) × Memᴰ e es × On v t e) → given es v t b ≡ w
  unfolding given
  given_at [] all (inl e) = e
  given_at [] all (inr (e, m, o)) = absurd (Memᴰ.not-nil m)
  given_at (f ∷ fs) all some = here (eqb f.tick t && eqb f.node v) refl (given_at fs (λ e m. all e (Memᴰ.tail m))) some
    where
      here : (x : Bool) → (eqb f.tick t && eqb f.node v) ≡ x → ((b ≡ w) ⊎ ((e : Event) × Memᴰ e fs × On v t e) → given fs v t b ≡ w)
          → (b ≡ w) ⊎ ((e : Event) × Memᴰ e (f ∷ fs) × On v t e) → (if x then f.value else given fs v t b) ≡ w
      here true p later some = all f (Memᴰ.head refl) ((on_test v t f).0 p)
      here false p later (inl e) = later (inl e)
      here false p later (inr (e, Memᴰ.head i, o)) = absurd ((fails _ (on_test v t f)).0 p (subst (On v t) i o))
      here false p later (inr (e, Memᴰ.tail m, o)) = later (inr (e, m, o))

module _ (S : Sheet) (acc : Accepted S) (t : ℕ) where
  -- the number of the tick's first event, and of the first one after it
  abbrev first : ℕ
  first = next_event S.drive t

  abbrev next : ℕ
  next = next_event S.drive (suc t)

  -- an event is the tick's just where its number is one of these
  pub of_tick : (i : ℕ) → first ≤ i → i < next → (i < event_count S) × ((event_of S i).tick ≡ t)
  of_tick i l h = (event, go (dec_lt (event_of S i).tick t))
    where
      event : i < event_count S
      event = omega (arith, next_at_most S (suc t))

      go : Dec ((event_of S i).tick < t) → (event_of S i).tick ≡ t
      go (yes b) = absurd (omega (arith, (before_next S t acc i event).1 b))
      go (no b) = omega (arith, (before_next S (suc t) acc i event).0 h)

  in_tick : (i : ℕ) → i < event_count S → (event_of S i).tick ≡ t → (first ≤ i) × (i < next)
  in_tick i h e = (go (dec_lt i first), (before_next S (suc t) acc i h).1 (omega arith))
    where
      go : Dec (i < first) → first ≤ i
      go (yes b) = absurd (omega (arith, (before_next S t acc i h).0 b))
      go (no b) = omega arith

  -- the tick's events, put into the values
  abbrev events_of : ℕ → List Event
  events_of j = listed j (λ i. event_of S (first + i))

  abbrev these : List Event
  these = events_of (next - first)

  driven_puts : (j : ℕ) (values : List ℕ) → driven S.drive first j values ≡ puts (λ e. e.node) (λ e. e.value) (events_of j) values
  unfolding driven each
  driven_puts zero values = refl
  driven_puts (suc j) values = rw (driven_puts j values) (sym (puts_append (λ e. e.node) (λ e. e.value) (events_of j) (event_of S (first + j) ∷ []) values))

  these_mem : (e : Event) → Memᴰ e these ↔ (Memᴰ e S.drive × (e.tick ≡ t))
  these_mem e = (out, into)
    where
      out : Memᴰ e these → Memᴰ e S.drive × (e.tick ≡ t)
      out m =
          let (k, h, n) = (each-mem (next - first) (λ i. event_of S (first + i) ∷ [])).0 m in
          let (b, d) = of_tick (first + k) (omega arith) (omega arith) in
          rw (Memᴰ.eq_of_singleton n) (get_or-mem S.drive (first + k) no_event b, d)

      into : Memᴰ e S.drive × (e.tick ≡ t) → Memᴰ e these
      into (m, d) =
          let (i, h, is) = mem_place m in
          let (l, b) = in_tick i h (ap (λ e. e.tick) (is no_event) ∙ d) in
          (each-mem (next - first) (λ i. event_of S (first + i) ∷ [])).1 (i - first, omega arith, Memᴰ.head (sym (is no_event) ∙ ap (event_of S) (omega arith)))

  pub drive_length : (values : List ℕ) → length (drive_tick S.drive t values) ≡ length values
  drive_length values = ap length (driven_puts (next - first) values) ∙ puts_length _ _ these values

  pub drive_levels : (values : List ℕ) → Leveled values → Leveled (drive_tick S.drive t values)
  drive_levels values all =
      rw (driven_puts (next - first) values)
      (puts_levels _ (λ e. e.value) these values
      (λ e m. members_all (λ e. e.value < 4) S.drive no_event (λ i h. omega (arith, (acc.sound_events i h).value)) e ((these_mem e).0 m).0) all)

  module _ (values : List ℕ) (sized : length values ≡ 256) (v : ℕ) (node : v < node_count S) where
    -- the value that all events of the tick and the node give
    module _ (w : ℕ) (all : (e : Event) → Memᴰ e S.drive → On v t e → e.value ≡ w) (some : (get_or values v 0 ≡ w) ⊎ ((e : Event) × Memᴰ e S.drive × On v t e)) where
      after_drive : get_or (drive_tick S.drive t values) v 0 ≡ w
      after_drive =
          rw (driven_puts (next - first) values)
          (puts_at (λ e. e.node) (λ e. e.value) v w these values (omega (arith, acc.nodes)) (λ e m p. let (i, d) = (these_mem e).0 m in all e i (d, p))
          (⊎_elim inl (λ (e, m, o). inr (e, (these_mem e).1 (m, o.0), o.1)) some))

      as_given : get_or (drive_tick S.drive t values) v 0 ≡ given S.drive v t (get_or values v 0)
      as_given = after_drive ∙ sym (given_at v t (get_or values v 0) w S.drive all some)

    drive_given : get_or (drive_tick S.drive t values) v 0 ≡ given S.drive v t (get_or values v 0)
    drive_given = go (decided _ (tells_below (event_count S) _ (λ i. on_test v t (event_of S i))))
      where
        go : Dec ((i : ℕ) × (i < event_count S) × On v t (event_of S i)) → get_or (drive_tick S.drive t values) v 0 ≡ given S.drive v t (get_or values v 0)
        go (yes (i, h, o)) =
            let m = get_or-mem S.drive i no_event h in
            as_given (event_of S i).value (λ e n p. (drivable S acc).one_value e (event_of S i) n m (p.0 ∙ sym o.0) (p.1 ∙ sym o.1)) (inr (event_of S i, m, o))
        go (no none) = as_given (get_or values v 0) (members_all _ S.drive no_event (λ i h o. absurd (none (i, h, o)))) (inl refl)

    -- no event drives a node that a module drives
    pub drive_kept : Driven S v → get_or (drive_tick S.drive t values) v 0 ≡ get_or values v 0
    drive_kept d =
        after_drive (get_or values v 0) (members_all _ S.drive no_event (λ i h o. absurd ((acc.sound_events i h).node.undriven (subst (Driven S) (sym o.1) d)))) (inl refl)

drive_step : (drive : List Event) (v t : ℕ) → given drive v t (before (drive_cell drive v) unknown t) ≡ drive_cell drive v t
unfolding drive_cell
drive_step drive v zero = refl
drive_step drive v (suc t) = refl

module _ {S : Sheet} {c : Cells} {horizon : ℕ} (G : Setting S c horizon) (v : ℕ) (i : Input S v) where
  input_stood : (t : ℕ) → t < horizon → before (λ u. c u v) (first_value S v) t ≡ before (drive_cell S.drive v) unknown t
  input_stood zero h = rw (eq-eqb (node_byte S v) input_byte (G.accepted.inputs v i))
  input_stood (suc t) h = input_cell G t v (omega arith) i

  pub driven_input : (t : ℕ) → t < horizon → (values : List ℕ) → length values ≡ 256 → get_or values v 0 ≡ before (λ u. c u v) (first_value S v) t
      → get_or (drive_tick S.drive t values) v 0 ≡ c t v
  driven_input t h values sized stood =
      drive_given S G.accepted t values sized v i.node
      ∙ ap (given S.drive v t) (stood ∙ input_stood t h)
      ∙ drive_step S.drive v t
      ∙ sym (input_cell G t v h i)
