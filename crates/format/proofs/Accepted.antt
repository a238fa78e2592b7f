-- A check finishes exactly on the bytes that are accepted: no condition of the refusals' table is met.
-- Assumes nothing.
use lib.Dec.{lit<, lit≤}
use lib.ListN.{length}
use mathlib.Core.Bool.{Bool, true, false, false≢true}
use mathlib.Core.List.{List}
use mathlib.Core.Logic.Dec
use mathlib.Core.Logic.{◌⊎◌, inl, inr}
use mathlib.Core.Path.{◌≡◌, refl, sym, ◌∙◌, subst, subst₂}
use native.Mathlib.Decide.{ℕ_discrete}
use native.Mathlib.Nat.{lt_of_not-le, not-le_of_lt, le_antisymm, le_refl, le_of_eq, le_trans, mul-le-mul_left, mul-suc}
use native.Mathlib.Omega.{arith}
use Prim.Native.Nat.{ℕ, zero, suc, ◌+◌, ◌<◌, ◌≤◌, zero-le}
use Rattle.level.specs.Kind.{last_kind}
use Rattle.sheet.specs.declared.Edition.{Edition}
use Rattle.sheet.specs.Limits.{input_byte, last_value}
use Rattle.sheet.specs.Outcome.{finished}
use Rattle.sheet.specs.Bytes.{word_at}
use Rattle.sheet.specs.Sheet.{Sheet, node_count, module_count, module_of, event_count, event_of, watched_count, watched_node}
use Rattle.sheet.specs.Layout.{count_size, nodes_counted, node_at, modules_counted, module_at, events_counted, event_at, watched_place, watched_counted, watched_at, sheet_end, sheet_of}
use Rattle.sheet.specs.Wiring.{is_input, driven_at_start}
use Rattle.sheet.specs.Refusal.{key, checked_by, checked, checked_strictly}
use Rattle.format.specs.Accepted.{Driven, Input, SoundModule, SoundEvent, Accepted, Known, the_first, the_second, AcceptedIn, DrivenAtStart, StrictlyAcceptedIn}
use Rattle.format.specs.Condition.{Count, of_nodes, of_modules, of_drive, of_watched, Part, a_count, a_node, a_module, an_event, a_watched, Miswired, output_no_node, input_no_node, unused_not_0, NotAbove, not_above, ConditionBy, ends_inside, outside_range, byte_above, kind_above, parameter_not_allowed, wrong_wiring, delay_above, driven_or_not, tick_above, not_an_input, value_above, not_above_before, no_first_event, wrong_watched, left_over, on_loop}
use Rattle.sheet.proofs.Tests.{decided, at_most}
use Rattle.sheet.proofs.Parts.{counts_nodes, node_byte_lem, counts_modules, module_of_lem, counts_events, event_of_lem, counts_watched, watched_node_lem}
use Rattle.format.proofs.Condition.{tells_input, tells_at_start}
use Rattle.format.proofs.Checked.{finished_iff}

-- a known edition's module records have some size, of few bytes, and its kinds have rules
pub some_size : {E : Edition} → Known E → 0 < E.size
some_size the_first = lit< tt
some_size the_second = lit< tt

pub few_bytes : {E : Edition} → Known E → E.size ≤ 8
few_bytes the_first = lit≤ tt
few_bytes the_second = lit≤ tt

pub with_rules : {E : Edition} → Known E → E.greatest ≤ last_kind
with_rules the_first = lit≤ tt
with_rules the_second = lit≤ tt

other_than_4 : {a : ℕ} → a ≤ input_byte → (a ≡ input_byte → ⊥) → a ≤ last_value
other_than_4 h d = omega arith

-- what rises from each number to the next rises from each to every later one
pub rises : (f : ℕ → ℕ) (n : ℕ) → ((k : ℕ) → suc k < n → f k < f (suc k)) → (a b : ℕ) → a < b → b < n → f a < f b
rises f n step a zero h l = omega arith
rises f n step a (suc b) h l = go (rises f n step a b) (ℕ_discrete a b)
  where
    go : (a < b → b < n → f a < f b) → Dec (a ≡ b) → f a < f (suc b)
    go before (yes e) = subst (λ k. f k < f (suc b)) (sym e) (step b l)
    go before (no d) = omega (arith, before (omega arith) (omega arith), step b l)

-- a section's bytes are there: its count's, and its last record's
filled : (place count l : ℕ) → place + count_size ≤ l → ((k : ℕ) → k < count → place + count_size + k + 1 ≤ l) → place + count_size + count ≤ l
filled place zero l counted records = omega arith
filled place (suc count) l counted records = omega (arith, records count (omega arith))

module _ (E : Edition) (s : List ℕ) where
  abbrev S : Sheet
  S = sheet_of E s

  -- a number below a count of the sheet is below that of the bytes
  node : {v : ℕ} → v < node_count S → v < nodes_counted s
  node h = rw (counts_nodes E s) at h

  listed_module : {m : ℕ} → m < module_count S → m < modules_counted s
  listed_module h = rw (counts_modules E s) at h

  listed_event : {k : ℕ} → k < event_count S → k < events_counted E s
  listed_event h = rw (counts_events E s) at h

  listed_watched : {k : ℕ} → k < watched_count S → k < watched_counted E s
  listed_watched h = rw (counts_watched E s) at h

  -- Without a condition met.
  module _ (known : Known E) {strict : Bool} (none : (n p : ℕ) → ConditionBy strict E s n p → ⊥) where
    fits : {p size : ℕ} → Part E s p size → p + size ≤ length s
    fits part = at_most (λ h. none _ _ (ends_inside part h))

    at_least : {p least greatest : ℕ} → Count E s p least greatest → least ≤ word_at s p
    at_least c = at_most (λ h. none _ _ (outside_range c (inl h)))

    in_range : {p least greatest : ℕ} → Count E s p least greatest → word_at s p ≤ greatest
    in_range c = at_most (λ h. none _ _ (outside_range c (inr h)))

    kind_in_range : (m : ℕ) → m < modules_counted s → (module_at E s m).kind ≤ E.greatest
    kind_in_range m h = at_most (λ c. none _ _ (kind_above m h c))

    module_sound : (m : ℕ) → m < modules_counted s → SoundModule (nodes_counted s) (module_at E s m)
    module_sound m h =
        record {
          kind = le_trans (kind_in_range m h) (with_rules known);
          parameter = at_most (λ c. none _ _ (parameter_not_allowed m h c));
          output = lt_of_not-le (λ c. none _ _ (wrong_wiring m h (output_no_node c)));
          used = λ v u. lt_of_not-le (λ c. none _ _ (wrong_wiring m h (input_no_node v u c)));
          unused = λ v u. omega (arith, at_most (λ c. none _ _ (wrong_wiring m h (unused_not_0 v u c))));
          delay = at_most (λ c. none _ _ (delay_above m h c));
        }

    event_sound : (k : ℕ) → k < events_counted E s → SoundEvent S (event_at E s k)
    event_sound k h =
        record {
          tick = at_most (λ c. none _ _ (tick_above k h c));
          node = (Dec.not-not (decided (is_input S (event_at E s k).node) (tells_input S (event_at E s k).node))).0 (λ c. none _ _ (not_an_input k h c));
          value = at_most (λ c. none _ _ (value_above k h c));
        }

    sound_modules : (m : ℕ) → m < module_count S → SoundModule (node_count S) (module_of S m)
    sound_modules m h = subst₂ SoundModule (sym (counts_nodes E s)) (sym (module_of_lem E s m (listed_module h))) (module_sound m (listed_module h))

    events_rise : (k : ℕ) → suc k < event_count S → key (event_of S k) < key (event_of S (suc k))
    events_rise k h =
        subst₂ (λ a b. key a < key b) (sym (event_of_lem E s k (omega (arith, listed_event h)))) (sym (event_of_lem E s (suc k) (listed_event h)))
        (lt_of_not-le (λ c. none _ _ (not_above_before (suc k) (listed_event h) (not_above k c))))

    watched_rises : (k : ℕ) → suc k < watched_count S → watched_node S k < watched_node S (suc k)
    watched_rises k h =
        subst₂ ◌<◌ (sym (watched_node_lem E s k (omega (arith, listed_watched h)))) (sym (watched_node_lem E s (suc k) (listed_watched h)))
        (lt_of_not-le (λ c. none _ _ (wrong_watched (suc k) (listed_watched h) (inr (not_above k c)))))

    byte_in_range : (v : ℕ) → v < nodes_counted s → node_at s v ≤ input_byte
    byte_in_range v h = at_most (λ c. none _ _ (byte_above v h c))

    driven_byte : (v : ℕ) → v < nodes_counted s → Driven S v → node_at s v ≤ last_value
    driven_byte v h d = other_than_4 (byte_in_range v h) (λ c. none _ _ (driven_or_not v h (inl (d, c))))

    input_at : (v : ℕ) → Input S v → node_at s v ≡ input_byte
    input_at v i = le_antisymm (byte_in_range v (node i.node)) (at_most (λ c. none _ _ (driven_or_not v (node i.node) (inr (i.undriven, c)))))

    all_there : length s ≡ sheet_end E s
    all_there = le_antisymm (at_most (λ c. none _ _ (left_over c))) (filled (watched_place E s) (watched_counted E s) (length s) (fits (a_count of_watched)) (λ k h. fits (a_watched k h)))

    sheet_accepted : Accepted S
    sheet_accepted =
        record {
          some_node = rw (counts_nodes E s) (at_least of_nodes);
          nodes = rw (counts_nodes E s) (in_range of_nodes);
          modules = rw (counts_modules E s) (in_range of_modules);
          events = rw (counts_events E s) (in_range of_drive);
          watched = rw (counts_watched E s) (in_range of_watched);
          node_bytes = λ v h. rw (node_byte_lem E s v (node h)) (byte_in_range v (node h));
          sound_modules = sound_modules;
          sound_events = λ k h. rw (event_of_lem E s k (listed_event h)) (event_sound k (listed_event h));
          watched_nodes = λ k h. subst₂ ◌<◌ (sym (watched_node_lem E s k (listed_watched h))) (sym (counts_nodes E s)) (lt_of_not-le (λ c. none _ _ (wrong_watched k (listed_watched h) (inl c))));
          initial_values = λ v h d. rw (node_byte_lem E s v (node h)) (driven_byte v (node h) d);
          inputs = λ v i. node_byte_lem E s v (node i.node) ∙ input_at v i;
          drive_rises = rises (λ k. key (event_of S k)) (event_count S) events_rise;
          watched_rise = rises (watched_node S) (watched_count S) watched_rises;
          no_loop = λ v l. none _ _ (on_loop v l);
        }

    bytes_accepted : AcceptedIn E s
    bytes_accepted = record { sheet = sheet_accepted; kinds = λ m h. rw (module_of_lem E s m (listed_module h)) (kind_in_range m (listed_module h)); whole = all_there }

    started_at_0 : strict ≡ true → (v : ℕ) → Input S v → DrivenAtStart S v
    started_at_0 is v i = (Dec.not-not (decided (driven_at_start S v) (tells_at_start S v))).0 (λ c. none _ _ (no_first_event is v i c))

-- The other way: every count and record ends by the sheet's end
ends : {E : Edition} {s : List ℕ} {p size : ℕ} → Part E s p size → p + size ≤ sheet_end E s
ends (a_count of_nodes) = omega arith
ends (a_count of_modules) = omega arith
ends (a_count of_drive) = omega arith
ends (a_count of_watched) = omega arith
ends (a_node v h) = omega arith
ends {E} (a_module m h) = omega (arith, mul-le-mul_left E.size h, mul-suc E.size m)
ends (an_event k h) = omega arith
ends (a_watched k h) = omega arith

module _ (E : Edition) (s : List ℕ) (a : AcceptedIn E s) where
  abbrev S' : Sheet
  S' = sheet_of E s

  a' : Accepted S'
  a' = a.sheet

  ranged : {p least greatest : ℕ} → Count E s p least greatest → (least ≤ word_at s p) × (word_at s p ≤ greatest)
  ranged of_nodes = (rw (counts_nodes E s) at a'.some_node, rw (counts_nodes E s) at a'.nodes)
  ranged of_modules = (zero-le, rw (counts_modules E s) at a'.modules)
  ranged of_drive = (zero-le, rw (counts_events E s) at a'.events)
  ranged of_watched = (zero-le, rw (counts_watched E s) at a'.watched)

  sound : (m : ℕ) → m < modules_counted s → SoundModule (nodes_counted s) (module_at E s m)
  sound m h = subst₂ SoundModule (counts_nodes E s) (module_of_lem E s m h) (a'.sound_modules m (rw (counts_modules E s) h))

  sound_at : (k : ℕ) → k < events_counted E s → SoundEvent S' (event_at E s k)
  sound_at k h = rw (event_of_lem E s k h) at (a'.sound_events k (rw (counts_events E s) h))

  wired : (m : ℕ) → m < modules_counted s → Miswired (nodes_counted s) (module_at E s m) → ⊥
  wired m h (output_no_node c) = not-le_of_lt (sound m h).output c
  wired m h (input_no_node v u c) = not-le_of_lt ((sound m h).used v u) c
  wired m h (unused_not_0 v u c) = not-le_of_lt c (le_of_eq ((sound m h).unused v u))

  risen : {f : ℕ → ℕ} {n : ℕ} → ((i k : ℕ) → i < k → k < n → f i < f k) → (k : ℕ) → k < n → NotAbove f k → ⊥
  risen rise _ h (not_above k c) = not-le_of_lt (rise k (suc k) (le_refl (suc k)) h) c

  events_risen : (i k : ℕ) → i < k → k < events_counted E s → key (event_at E s i) < key (event_at E s k)
  events_risen i k l h = subst₂ (λ a b. key a < key b) (event_of_lem E s i (omega arith)) (event_of_lem E s k h) (a'.drive_rises i k l (rw (counts_events E s) h))

  watched_risen : (i k : ℕ) → i < k → k < watched_counted E s → watched_at E s i < watched_at E s k
  watched_risen i k l h = subst₂ ◌<◌ (watched_node_lem E s i (omega arith)) (watched_node_lem E s k h) (a'.watched_rise i k l (rw (counts_watched E s) h))

  started : (v : ℕ) → v < nodes_counted s → (Driven S' v × (node_at s v ≡ input_byte)) ⊎ ((Driven S' v → ⊥) × node_at s v < input_byte) → ⊥
  started v h (inl c) = omega (arith, a'.initial_values v (rw (counts_nodes E s) h) c.0, node_byte_lem E s v h, c.1)
  started v h (inr c) = omega (arith, a'.inputs v (record { node = rw (counts_nodes E s) h; undriven = c.0 }), node_byte_lem E s v h, c.1)

  -- in a strict check, with the inputs' first events
  refuted : {strict : Bool} → (strict ≡ true → (v : ℕ) → Input S' v → DrivenAtStart S' v) → (n p : ℕ) → ConditionBy strict E s n p → ⊥
  refuted first n p (ends_inside part h) = not-le_of_lt h (le_trans (ends part) (le_of_eq (sym a.whole)))
  refuted first n p (outside_range c (inl h)) = not-le_of_lt h (ranged c).0
  refuted first n p (outside_range c (inr h)) = not-le_of_lt h (ranged c).1
  refuted first n p (byte_above v h c) = not-le_of_lt c (rw (node_byte_lem E s v h) at (a'.node_bytes v (rw (counts_nodes E s) h)))
  refuted first n p (kind_above m h c) = not-le_of_lt c (rw (module_of_lem E s m h) at (a.kinds m (rw (counts_modules E s) h)))
  refuted first n p (parameter_not_allowed m h c) = not-le_of_lt c (sound m h).parameter
  refuted first n p (wrong_wiring m h c) = wired m h c
  refuted first n p (delay_above m h c) = not-le_of_lt c (sound m h).delay
  refuted first n p (driven_or_not v h c) = started v h c
  refuted first n p (tick_above k h c) = not-le_of_lt c (sound_at k h).tick
  refuted first n p (not_an_input k h c) = c (sound_at k h).node
  refuted first n p (value_above k h c) = not-le_of_lt c (sound_at k h).value
  refuted first n p (not_above_before k h c) = risen events_risen k h c
  refuted first n p (no_first_event is v i c) = c (first is v i)
  refuted first n p (wrong_watched k h (inl c)) = not-le_of_lt (subst₂ ◌<◌ (watched_node_lem E s k h) (counts_nodes E s) (a'.watched_nodes k (rw (counts_watched E s) h))) c
  refuted first n p (wrong_watched k h (inr c)) = risen watched_risen k h c
  refuted first n p (left_over c) = not-le_of_lt c (le_of_eq a.whole)
  refuted first n p (on_loop v c) = a'.no_loop v c

-- a check that is strict or not
module _ (strict : Bool) (E : Edition) (known : Known E) (s : List ℕ) where
  accepted_by : checked_by strict E s ≡ finished 0 → AcceptedIn E s
  accepted_by e = bytes_accepted E s known ((finished_iff strict E (some_size known) s).0 e)

  finishes : AcceptedIn E s → (strict ≡ true → (v : ℕ) → Input (sheet_of E s) v → DrivenAtStart (sheet_of E s) v) → checked_by strict E s ≡ finished 0
  finishes a first = (finished_iff strict E (some_size known) s).1 (refuted E s a first)

module _ (E : Edition) (known : Known E) (s : List ℕ) where
  pub accepted : checked E s ≡ finished 0 → AcceptedIn E s
  accepted = accepted_by false E known s

  pub conversely : AcceptedIn E s → checked E s ≡ finished 0
  conversely a = finishes false E known s a (λ e. absurd (false≢true e))

  pub strictly : checked_strictly E s ≡ finished 0 → StrictlyAcceptedIn E s
  strictly e = record { accepted = accepted_by true E known s e; driven_from_start = started_at_0 E s known ((finished_iff true E (some_size known) s).0 e) refl }

  pub strictly_conversely : StrictlyAcceptedIn E s → checked_strictly E s ≡ finished 0
  strictly_conversely a = finishes true E known s a.accepted (λ _. a.driven_from_start)
