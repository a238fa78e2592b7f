-- Every cell of an accepted sheet is one of the four values: drive and initial values are, every rule gives one over values, and so does joining. Assumes nothing.
use lib.Dec.{eqb, ltb}
use lib.ListN.{length, length-map}
use borrow.Author.Tests.{ltb-false, eqb-true}
use mathlib.Core.Bool.{Bool, true, false, ◌&&◌}
use mathlib.Core.List.{List, [], ◌∷◌, Memᴰ}
use mathlib.Core.Path.{◌≡◌, refl, ◌∙◌}
use native.Mathlib.Nat.{le_refl, le_step, le_of_suc-le-suc}
use native.Mathlib.Omega.{arith}
use Prim.Native.Nat.{ℕ, zero, suc, ◌+◌, ◌-◌, ◌≤◌, ◌<◌}
use Rattle.std.specs.Prelude.{if◌then◌else◌}
use Rattle.level.specs.Join.{joined}
use Rattle.level.specs.Kind.{rule_of}
use Rattle.level.specs.Rule.{inputs_of}
use Rattle.sheet.specs.Enumerate.{chosen}
use Rattle.sheet.specs.Sheet.{node_count, module_count, module_of, output_of, node_byte, Sheet, no_event}
use Rattle.sheet.specs.Wiring.{used_inputs, inputs, module_rule}
use Rattle.sheet.specs.declared.Event.{Event}
use Rattle.sheet.specs.declared.Module.{Module}
use Rattle.format.specs.Accepted.{Accepted, SoundModule}
use Rattle.network.specs.Order.{ValidOrder}
use Rattle.network.specs.Satisfied.{Satisfied}
use Rattle.network.specs.Timeline.{Cells, at, given, drive_cell, comes_to_at, contribution, contributions, input_cells}
use Rattle.network.specs.Working.{worked}
use Rattle.level.proofs.Gates.{Values, length_used, level_bound, values_map, values_all}
use Rattle.level.proofs.Join.{joined_value}
use Rattle.sheet.proofs.Chosen.{chosen_all}
use Rattle.network.proofs.Existence.{existence}
use Rattle.network.proofs.Induction.{every_cell}
use Rattle.network.proofs.Memory.{at_start, recurrence}
use Rattle.network.proofs.Rising.{members_all}
use Rattle.network.proofs.Wired.{wired}

either_value : (b : Bool) {x y : ℕ} → x < 4 → y < 4 → (if b then x else y) < 4
either_value true h l = h
either_value false h l = l

-- what a module comes to, tick by tick
module _ (kind parameter : ℕ) (constant : kind ≡ 0 → parameter < 4) (a : ℕ → List ℕ) (initial : ℕ) (start : initial < 4) (sized : (w : ℕ) → length (a w) ≡ inputs_of (rule_of kind parameter)) where
  comes_to_value : (u : ℕ) → ((w : ℕ) → w ≤ u → Values (a w)) → comes_to_at (rule_of kind parameter) a initial u < 4
  comes_to_value zero cells = rw (at_start a initial (rule_of kind parameter)) (level_bound kind parameter (a 0) initial constant (sized 0) (cells 0 (le_refl 0)) start)
  comes_to_value (suc u) cells =
      rw (recurrence a initial (rule_of kind parameter) u)
      (level_bound kind parameter (a (suc u)) _ constant (sized (suc u)) (cells (suc u) (le_refl (suc u))) (comes_to_value u (λ w h. cells w (le_step h))))

-- what is joined of values
pub joined_values : (n : ℕ) (p : ℕ → Bool) (f : ℕ → ℕ) → ((k : ℕ) → k < n → p k ≡ true → f k < 4) → joined (chosen n p f) < 4
joined_values n p f all = joined_value (chosen n p f) (values_all (chosen n p f) (chosen_all (λ x. x < 4) n p f all))

-- an input's cell
module _ (drive : List Event) (v : ℕ) (values : (e : Event) → Memᴰ e drive → e.value < 4) where
  given_value : (es : List Event) → ((e : Event) → Memᴰ e es → e.value < 4) → (t before : ℕ) → before < 4 → given es v t before < 4
  unfolding given
  given_value [] all t before h = h
  given_value (e ∷ es) all t before h =
      either_value (eqb e.tick t && eqb e.node v) (all e (Memᴰ.head refl)) (given_value es (λ f m. all f (Memᴰ.tail m)) t before h)

  drive_value : (t : ℕ) → drive_cell drive v t < 4
  unfolding drive_cell
  drive_value zero = given_value drive values zero _ (omega arith)
  drive_value (suc t) = given_value drive values (suc t) (drive_cell drive v t) (drive_value t)

module _ (S : Sheet) (acc : Accepted S) where
  pub equation_value : (c : Cells) (t m : ℕ) → m < module_count S
      → ((u v : ℕ) → u + (module_of S m).delay ≤ t → Memᴰ v (used_inputs (module_of S m)) → c u v < 4) → contribution S c m t < 4
  equation_value c t m h read = late (ltb t d) refl
    where
      r : Module
      r = module_of S m

      d : ℕ
      d = r.delay

      sound : SoundModule (node_count S) r
      sound = acc.sound_modules m h

      initial : node_byte S r.output < 4
      initial = omega (arith, acc.initial_values r.output sound.output (record { driver = m; listed = h; output = refl }))

      constant : r.kind ≡ 0 → r.parameter < 4
      constant e = let p = sound.parameter in omega (arith, rw e at p)

      sized : (u : ℕ) → length (input_cells c r u) ≡ inputs_of (module_rule r)
      sized u = length-map (used_inputs r) (c u) ∙ length_used r.kind r.parameter (inputs r) (omega arith)

      late : (x : Bool) → ltb t d ≡ x → (if x then node_byte S r.output else comes_to_at (module_rule r) (input_cells c r) (node_byte S r.output) (t - d)) < 4
      late true e = initial
      late false e =
          let k : d ≤ t = ltb-false t d e in
          comes_to_value r.kind r.parameter constant (input_cells c r) (node_byte S r.output) initial sized (t - d)
          (λ w h. values_map (c w) (used_inputs r) (λ v used. read w v (omega arith) used))

  module _ (orders : ℕ → List ℕ) (horizon : ℕ) (valid : (t : ℕ) → t < horizon → ValidOrder S (orders t)) where
    -- of any timelines that satisfy the sheet
    pub satisfied_values : (c : Cells) → Satisfied S horizon c → (t v : ℕ) → t < horizon → v < node_count S → c t v ≤ 3
    satisfied_values c sat t v h l = le_of_suc-le-suc
        (every_cell S (wired S acc) (λ t v. c t v < 4) horizon
        (λ t v h i. rw (sat.inputs t v h i) (drive_value S.drive v (members_all (λ e. e.value < 4) S.drive no_event (λ i k. omega (arith, (acc.sound_events i k).value))) t))
        (λ t v h d read. rw (sat.driven t v h d) (joined_values (module_count S) _ (contributions S c t) (λ m l e. equation_value c t m l (read m l (eqb-true (output_of S m) v e)))))
        orders valid t v h l)

    pub values : (t v : ℕ) → t < horizon → v < node_count S → worked S orders horizon t v ≤ 3
    values = satisfied_values (worked S orders horizon) (existence S orders horizon valid)
