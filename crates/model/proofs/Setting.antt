-- What the laws of a tick rest on: an accepted sheet and cells that satisfy it up to the horizon; and what that says of the module at a position, of what it contributes and of
-- what it comes to. Assumes nothing.
use borrow.Author.Tests.{lt-ltb, le-ltb}
use lib.ListN.{length, get_or, length-map}
use mathlib.Core.List.{List, Memᴰ}
use mathlib.Core.Path.{◌≡◌, refl, sym, ap, ◌∙◌}
use native.Mathlib.Omega.{arith}
use native.Mathlib.Nat.{le_of_suc-le-suc}
use Prim.Native.Nat.{ℕ, zero, suc, ◌-◌, ◌≤◌, ◌<◌, suc-le-suc}
use Rattle.level.specs.Rule.{comes_to}
use Rattle.level.proofs.Gates.{values_map, length_used, level_bound}
use Rattle.sheet.specs.Sheet.{Sheet, node_count, node_byte, no_module, module_count, module_of}
use Rattle.sheet.specs.Wiring.{inputs, module_rule, used_inputs}
use Rattle.sheet.specs.WorkingOrder.{working_order, in_working_order}
use Rattle.sheet.proofs.Listed.{get_or-map_within}
use Rattle.format.specs.Accepted.{Accepted, Driven, Input, SoundModule}
use Rattle.format.proofs.Condition.{tells_driven, tells_input}
use Rattle.network.specs.Timeline.{Cells, drive_cell, driven_cell, input_cells}
use Rattle.network.specs.Satisfied.{Satisfied}
use Rattle.network.proofs.Memory.{at_start, recurrence}
use Rattle.network.proofs.Equation.{map_same}
use Rattle.network.proofs.WorkingOrder.{every_module_once, working_order_lem}
use Rattle.network.proofs.Values.{equation_value, satisfied_values}
use Rattle.model.specs.Passes.{module_in, input_values, comes_to_now}
use Rattle.model.specs.Ticks.{ordered_at}
use Rattle.model.specs.Standing.{before, placed, ahead_of, given_by}
use Rattle.model.proofs.Puts.{Leveled}

pub record Setting (S : Sheet) (c : Cells) (horizon : ℕ) : Type 0 where
  pub accepted : Accepted S
  pub satisfied : Satisfied S horizon c

-- what the module at position k came to before tick t
abbrev pub held_before : Sheet → Cells → ℕ → ℕ → ℕ
held_before S c k t = before (ahead_of S c k) (node_byte S (placed S k).output) t

module _ (S : Sheet) where
  -- the modules in working order, by position
  pub module_total : length (in_working_order S) ≡ module_count S
  module_total = length-map (working_order S) (module_of S) ∙ (every_module_once S).count

  module _ (k : ℕ) where
    -- what a module comes to follows from its inputs' cells and what it came to before
    pub ahead_step : (c : Cells) (t : ℕ) → comes_to (module_rule (placed S k)) (input_cells c (placed S k) t) (held_before S c k t) ≡ ahead_of S c k t
    ahead_step c zero = sym (at_start (input_cells c (placed S k)) (node_byte S (placed S k).output) (module_rule (placed S k)))
    ahead_step c (suc t) = sym (recurrence (input_cells c (placed S k)) (node_byte S (placed S k).output) (module_rule (placed S k)) t)

    -- what it contributes: the initial value before its delay, and then what it came to so many ticks ago
    module _ (c : Cells) (t : ℕ) where
      pub early_given : t < (placed S k).delay → given_by S c k t ≡ node_byte S (placed S k).output
      early_given e = rw (lt-ltb t (placed S k).delay e)

      pub later_given : (placed S k).delay ≤ t → given_by S c k t ≡ ahead_of S c k (t - (placed S k).delay)
      later_given e = rw (le-ltb t (placed S k).delay e)

      -- without a delay, at once
      pub given_at_once : (placed S k).delay ≡ 0 → given_by S c k t ≡ ahead_of S c k t
      given_at_once e = later_given (omega arith) ∙ ap (ahead_of S c k) (omega arith)

    pub held_at_once : (c : Cells) (t : ℕ) → (placed S k).delay ≡ 0 → before (given_by S c k) (node_byte S (placed S k).output) t ≡ held_before S c k t
    held_at_once c zero e = refl
    held_at_once c (suc t) e = given_at_once c t e

    module _ (h : k < module_count S) where
      pub module_at : module_in (in_working_order S) k ≡ placed S k
      module_at = get_or-map_within (module_of S) (working_order S) k 0 no_module (rw (every_module_once S).count h)

      pub known : ordered_at S k < module_count S
      known = (every_module_once S).known k h

      pub is_driven : Driven S (placed S k).output
      is_driven = record { driver = ordered_at S k; listed = known; output = refl }

module _ {S : Sheet} {c : Cells} {horizon : ℕ} (G : Setting S c horizon) where
  module _ (k : ℕ) (h : k < module_count S) where
    pub sound : SoundModule (node_count S) (placed S k)
    sound = G.accepted.sound_modules (ordered_at S k) (known S k h)

    pub initial_level : node_byte S (placed S k).output ≤ 3
    initial_level = G.accepted.initial_values (placed S k).output sound.output (is_driven S k h)

    -- what it comes to over present values
    module _ (values last : List ℕ) where
      now : comes_to_now (in_working_order S) values last k ≡ comes_to (module_rule (placed S k)) (input_values (placed S k) values) (get_or last k 0)
      now = ap (λ m. comes_to (module_rule m) (input_values m values) (get_or last k 0)) (module_at S k h)

      pub comes_level : Leveled values → Leveled last → comes_to_now (in_working_order S) values last k < 4
      comes_level v l =
          rw now
          (level_bound (placed S k).kind (placed S k).parameter (input_values (placed S k) values) (get_or last k 0) constant
          (length-map (used_inputs (placed S k)) (λ v. get_or values v 0) ∙ length_used (placed S k).kind (placed S k).parameter (inputs (placed S k)) (omega arith))
          (values_map (λ v. get_or values v 0) (used_inputs (placed S k)) (λ i m. v i)) (l k))
        where
          constant : (placed S k).kind ≡ 0 → (placed S k).parameter < 4
          constant e = let p = sound.parameter in omega (arith, rw e at p)

      -- if its used inputs have the cells of a tick
      pub comes_over : (t : ℕ) → ((v : ℕ) → Memᴰ v (used_inputs (placed S k)) → get_or values v 0 ≡ c t v)
          → comes_to_now (in_working_order S) values last k ≡ comes_to (module_rule (placed S k)) (input_cells c (placed S k) t) (get_or last k 0)
      comes_over t same = now ∙ ap (λ l. comes_to (module_rule (placed S k)) l (get_or last k 0)) (map_same (λ v. get_or values v 0) (c t) (used_inputs (placed S k)) same)

      pub comes_now : (t : ℕ) → ((v : ℕ) → Memᴰ v (used_inputs (placed S k)) → get_or values v 0 ≡ c t v) → get_or last k 0 ≡ held_before S c k t
          → comes_to_now (in_working_order S) values last k ≡ ahead_of S c k t
      comes_now t same held = comes_over t same ∙ ap (comes_to (module_rule (placed S k)) (input_cells c (placed S k) t)) held ∙ ahead_step S k c t

  pub cell_level : (t v : ℕ) → t < horizon → v < node_count S → c t v ≤ 3
  cell_level = satisfied_values S G.accepted (λ t. working_order S) horizon (λ t h. working_order_lem S G.accepted) c G.satisfied

  pub input_cell : (t v : ℕ) → t < horizon → Input S v → c t v ≡ drive_cell S.drive v t
  input_cell t v h i = G.satisfied.inputs t v h (rw ((tells_input S v).1 i) tt)

  pub given_level : (t k : ℕ) → t < horizon → k < module_count S → given_by S c k t ≤ 3
  given_level t k h l =
      le_of_suc-le-suc (equation_value S G.accepted c t (ordered_at S k) (known S k l) (λ u v b used. suc-le-suc (cell_level u v (omega arith) ((sound k l).used v used))))

  pub driven_cell_lem : (t v : ℕ) → t < horizon → Driven S v → c t v ≡ driven_cell S c v t
  driven_cell_lem t v h d = G.satisfied.driven t v h (rw ((tells_driven S v).1 d) tt)
