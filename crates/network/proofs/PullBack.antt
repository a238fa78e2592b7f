-- Cells that satisfy the renumbered sheet, read through the numbering, satisfy the sheet. Assumes nothing.
use lib.Dec.{T, eqb}
use lib.ListN.{get_or}
use borrow.Author.Tests.{eq-eqb, ne_eqb}
use mathlib.Core.List.{List, map, map-map}
use mathlib.Core.Path.{◌≡◌, sym, ap, ◌∙◌, subst}
use native.Mathlib.Decide.{ℕ_discrete}
use Prim.Native.Nat.{ℕ, ◌<◌}
use Rattle.level.specs.Join.{joined}
use Rattle.sheet.specs.Enumerate.{chosen}
use Rattle.sheet.specs.Sheet.{Sheet, node_count, module_count, module_of, output_of, node_byte}
use Rattle.sheet.specs.Wiring.{is_driven, is_input, module_rule, used_inputs}
use Rattle.sheet.specs.declared.Module.{Module}
use Rattle.sheet.proofs.Chosen.{chosen_same}
use Rattle.format.specs.Accepted.{Accepted}
use Rattle.network.specs.Order.{Listed}
use Rattle.network.specs.Renumbering.{Permutation, renumbered, renumbered_module}
use Rattle.network.specs.Satisfied.{Satisfied}
use Rattle.network.specs.Timeline.{Cells, drive_cell, output_cell, contribution, contributions, driven_cell, input_cells}
use Rattle.format.proofs.Condition.{tells_driven, tells_input}
use Rattle.network.proofs.Drivable.{drivable}
use Rattle.network.proofs.Joined.{chosen_reordered}
use Rattle.network.proofs.Listed.{one_to_one}
use Rattle.network.proofs.Passing.{passes, passing}
use Rattle.network.proofs.Permuting.{to_once}
use Rattle.network.proofs.Renumbered.{drive_renumbered, module_count-renumbered, module_of-renumbered, node_byte-renumbered}
use Rattle.network.proofs.RenumberedInputs.{output_at, driven_to, input_to}
use Rattle.network.proofs.RenumberedModule.{used_renumbered}

-- a module's equation over its inputs and its initial value
abbrev by_record : Cells → Module → ℕ → ℕ → ℕ
by_record c m initial t = output_cell (module_rule m) m.delay (input_cells c m) initial t

-- a used input is read at its new number
inputs-renumbered : (q : Cells) (to : ℕ → ℕ) (m : Module) (u : ℕ) → input_cells q (renumbered_module to m) u ≡ input_cells (λ t v. q t (to v)) m u
inputs-renumbered q to m u = ap (map (q u)) (used_renumbered to m) ∙ map-map (q u) to (used_inputs m)

module _ (S : Sheet) (acc : Accepted S) (π : Permutation (node_count S)) (order : List ℕ) (each-once : Listed (module_count S) order) where
  abbrev P : Sheet
  P = renumbered S π.to π.from order

  pub contribution-renumbered : (q : Cells) (t k : ℕ) → k < module_count S → contribution P q k t ≡ contribution S (λ t v. q t (π.to v)) (get_or order k 0) t
  contribution-renumbered q t k h =
      ap (λ r. by_record q r (node_byte P r.output) t) (module_of-renumbered S π order each-once k h)
      ∙ (λ i. output_cell (module_rule r) r.delay (λ u. inputs-renumbered q π.to r u i) (node_byte P (π.to r.output)) t)
      ∙ ap (λ i. by_record (λ u v. q u (π.to v)) r i t) (initial r.output (acc.sound_modules (get_or order k 0) (each-once.known k h)).output)
    where
      r : Module
      r = module_of S (get_or order k 0)

      initial : (v : ℕ) → v < node_count S → node_byte P (π.to v) ≡ node_byte S v
      initial v h = node_byte-renumbered S π order each-once (π.to v) (π.to_below v h) ∙ ap (node_byte S) (π.from_to v h)

  -- the new numbers are equal where the old ones are
  same_node : (u v : ℕ) → u < node_count S → v < node_count S → eqb (π.to u) (π.to v) ≡ eqb u v
  same_node u v h l = by (ℕ_discrete u v)
    where
      by : Dec (u ≡ v) → eqb (π.to u) (π.to v) ≡ eqb u v
      by (yes e) = eq-eqb (π.to u) (π.to v) (ap π.to e) ∙ sym (eq-eqb u v e)
      by (no d) = ne_eqb (π.to u) (π.to v) (λ e. d (to_once π u v h l e)) ∙ sym (ne_eqb u v d)

  pub pull_back : (horizon : ℕ) (q : Cells) → Satisfied P horizon q → Satisfied S horizon (λ t v. q t (π.to v))
  pull_back horizon q sat = record { inputs = inputs; driven = driven }
    where
      inputs : (t v : ℕ) → t < horizon → T (is_input S v) → q t (π.to v) ≡ drive_cell S.drive v t
      inputs t v h i =
          let n = (tells_input S v).0 (passes _ i) in
          sat.inputs t (π.to v) h (passing ((tells_input P (π.to v)).1 ((input_to S acc π order each-once v n.node).1 n)))
          ∙ sym (drive_renumbered S π order each-once (drivable S acc) v n.node t)

      -- a node's drivers are the same modules, in the listed order
      driven : (t v : ℕ) → t < horizon → T (is_driven S v) → q t (π.to v) ≡ driven_cell S (λ t v. q t (π.to v)) v t
      driven t v h i =
          let d = (tells_driven S v).0 (passes _ i) in
          let l : v < node_count S = subst (λ u. u < node_count S) d.output (acc.sound_modules d.driver d.listed).output in
          sat.driven t (π.to v) h (passing ((tells_driven P (π.to v)).1 ((driven_to S acc π order each-once v l).1 d)))
          ∙ ap (λ n. joined (chosen n (λ k. eqb (output_of P k) (π.to v)) (contributions P q t))) (module_count-renumbered S π order each-once)
          ∙ ap joined
          (chosen_same (module_count S) _ _ _ _
          (λ k b. ap (λ u. eqb u (π.to v)) (output_at S acc π order each-once k b) ∙ same_node (output_of S (get_or order k 0)) v (acc.sound_modules (get_or order k 0) (each-once.known k b)).output l)
          (λ k b e. contribution-renumbered q t k b))
          ∙ chosen_reordered (module_count S) (λ k. get_or order k 0) (one_to_one each-once) (λ m. eqb (output_of S m) v) (contributions S (λ t v. q t (π.to v)) t)
