-- The tests of the refusals' table tell its conditions. Assumes nothing.
use lib.Dec.{ltb, leb, eqb}
use mathlib.Core.Bool.{Bool, true, false, ◌&&◌, ◌||◌, not, false≢true}
use mathlib.Core.List.Memᴰ
use mathlib.Core.List.{List, ◌∷◌, Memᴰ}
use mathlib.Core.Logic.{◌⊎◌, inl, inr}
use mathlib.Core.Path.{◌≡◌, refl, sym, ◌∙◌, subst}
use Prim.Native.Nat.{ℕ, zero, suc, ◌<◌, ◌≤◌}
use Rattle.sheet.specs.declared.Edition.{Edition}
use Rattle.sheet.specs.declared.Module.{Module}
use Rattle.sheet.specs.Enumerate.{any_of}
use Rattle.sheet.specs.Limits.{input_byte}
use Rattle.sheet.specs.Sheet.{Sheet, node_count, module_count, output_of, event_count, event_of}
use Rattle.sheet.specs.Layout.{nodes_counted, node_at, event_at, watched_at, sheet_of}
use Rattle.sheet.specs.Wiring.{used_inputs, unused_inputs, is_driven, is_input, driven_at_start}
use Rattle.sheet.specs.Refusal.{miswired, key, not_above_event, not_above_watched}
use Rattle.format.specs.Accepted.{Driven, Input, DrivenAtStart}
use Rattle.format.specs.Condition.{Miswired, output_no_node, input_no_node, unused_not_0, NotAbove, not_above}
use Rattle.sheet.proofs.Tests.{Tells, tells_as, tells_lt, tells_le, tells_eq, tells_not, tells_and, tells_or, tells_below, tells_of}

pub tells_driven : (S : Sheet) (v : ℕ) → Tells (is_driven S v) (Driven S v)
tells_driven S v =
    tells_as
    (tells_below (module_count S) (λ m. eqb (output_of S m) v) (λ m. tells_eq (output_of S m) v))
    (λ h. record { driver = h.0; listed = h.1; output = h.2 }, λ d. (d.driver, d.listed, d.output))

pub tells_input : (S : Sheet) (v : ℕ) → Tells (is_input S v) (Input S v)
tells_input S v =
    tells_as
    (tells_and (ltb v (node_count S)) (not (is_driven S v)) (tells_lt v (node_count S)) (tells_not (is_driven S v) (tells_driven S v)))
    (λ h. record { node = h.0; undriven = h.1 }, λ i. (i.node, i.undriven))

pub tells_at_start : (S : Sheet) (v : ℕ) → Tells (driven_at_start S v) (DrivenAtStart S v)
tells_at_start S v =
    tells_as
    (tells_below (event_count S) (λ e. eqb (event_of S e).tick 0 && eqb (event_of S e).node v) (λ e. tells_and (eqb (event_of S e).tick 0) (eqb (event_of S e).node v) (tells_eq (event_of S e).tick 0) (tells_eq (event_of S e).node v)))
    (λ h. record { event = h.0; listed = h.1; tick = h.2.0; node = h.2.1 }, λ d. (d.event, d.listed, (d.tick, d.node)))

pub tells_miswired : (nodes : ℕ) (m : Module) → Tells (miswired nodes m) (Miswired nodes m)
tells_miswired nodes m =
    tells_as
    (tells_or (any_of (leb nodes) (m.output ∷ used_inputs m)) (any_of (ltb 0) (unused_inputs m)) (tells_of (leb nodes) (tells_le nodes) (m.output ∷ used_inputs m)) (tells_of (ltb 0) (tells_lt 0) (unused_inputs m)))
    (found, looked)
  where
    Found : Type 0
    Found = ((v : ℕ) × Memᴰ v (m.output ∷ used_inputs m) × nodes ≤ v) ⊎ ((v : ℕ) × Memᴰ v (unused_inputs m) × 0 < v)

    wired : (v : ℕ) → nodes ≤ v → (v ≡ m.output) ⊎ Memᴰ v (used_inputs m) → Miswired nodes m
    wired v h (inl e) = output_no_node (subst (λ w. nodes ≤ w) e h)
    wired v h (inr used) = input_no_node v used h

    found : Found → Miswired nodes m
    found (inl h) = wired h.0 h.2 (Memᴰ.cases_cons h.1)
    found (inr h) = unused_not_0 h.0 h.1 h.2

    looked : Miswired nodes m → Found
    looked (output_no_node h) = inl (m.output, Memᴰ.head refl, h)
    looked (input_no_node v used h) = inl (v, Memᴰ.tail used, h)
    looked (unused_not_0 v unused h) = inr (v, unused, h)

-- a test that fails at 0 and compares each number's value with the one before
tells_not_above : (f : ℕ → ℕ) (test : ℕ → Bool) → test zero ≡ false → ((k : ℕ) → test (suc k) ≡ leb (f (suc k)) (f k)) → (k : ℕ) → Tells (test k) (NotAbove f k)
tells_not_above f test none step zero = (λ e. absurd (false≢true (sym none ∙ e)), nothing)
  where
    nothing : NotAbove f zero → test zero ≡ true
    nothing h = elim h [ ]
tells_not_above f test none step (suc k) = rw (step k) (tells_as (tells_le (f (suc k)) (f k)) (not_above k, there))
  where
    there : NotAbove f (suc k) → f (suc k) ≤ f k
    there (not_above k h) = h

module _ (E : Edition) (s : List ℕ) where
  pub tells_event : (k : ℕ) → Tells (not_above_event E s k) (NotAbove (λ k. key (event_at E s k)) k)
  unfolding not_above_event
  tells_event = tells_not_above (λ k. key (event_at E s k)) (not_above_event E s) refl (λ k. refl)

  tells_watched : (k : ℕ) → Tells (not_above_watched E s k) (NotAbove (watched_at E s) k)
  unfolding not_above_watched
  tells_watched = tells_not_above (watched_at E s) (not_above_watched E s) refl (λ k. refl)

  -- Tests made of others, in the order of the table.
  pub tells_start : (v : ℕ) → Tells (is_driven (sheet_of E s) v && eqb (node_at s v) input_byte || not (is_driven (sheet_of E s) v) && ltb (node_at s v) input_byte)
      ((Driven (sheet_of E s) v × (node_at s v ≡ input_byte)) ⊎ ((Driven (sheet_of E s) v → ⊥) × node_at s v < input_byte))
  tells_start v =
      let S = sheet_of E s in
      tells_or
      (is_driven S v && eqb (node_at s v) input_byte)
      (not (is_driven S v) && ltb (node_at s v) input_byte)
      (tells_and (is_driven S v) (eqb (node_at s v) input_byte) (tells_driven S v) (tells_eq (node_at s v) input_byte))
      (tells_and (not (is_driven S v)) (ltb (node_at s v) input_byte) (tells_not (is_driven S v) (tells_driven S v)) (tells_lt (node_at s v) input_byte))

  pub tells_wrong_watched : (k : ℕ) → Tells (leb (nodes_counted s) (watched_at E s k) || not_above_watched E s k) (nodes_counted s ≤ watched_at E s k ⊎ NotAbove (watched_at E s) k)
  tells_wrong_watched k = tells_or (leb (nodes_counted s) (watched_at E s k)) (not_above_watched E s k) (tells_le (nodes_counted s) (watched_at E s k)) (tells_watched k)

pub tells_first_event : (S : Sheet) (v : ℕ) → Tells (is_input S v && not (driven_at_start S v)) (Input S v × (DrivenAtStart S v → ⊥))
tells_first_event S v = tells_and (is_input S v) (not (driven_at_start S v)) (tells_input S v) (tells_not (driven_at_start S v) (tells_at_start S v))
