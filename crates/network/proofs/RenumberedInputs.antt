-- A node of a renumbered sheet is driven, or an input, exactly when the node that got its number is: every module stands somewhere in the order.
-- Assumes nothing.
use lib.ListN.{get_or}
use mathlib.Core.List.{List}
use mathlib.Core.Logic.{◌↔◌}
use mathlib.Core.Path.{◌≡◌, sym, ap, ◌∙◌, subst}
use Prim.Native.Nat.{ℕ, ◌<◌}
use Rattle.sheet.specs.Enumerate.{listed}
use Rattle.sheet.specs.Sheet.{node_count, module_count, Sheet, output_of}
use Rattle.format.specs.Accepted.{Driven, Input, Accepted}
use Rattle.network.specs.Order.{Listed}
use Rattle.network.specs.Renumbering.{Permutation, renumbered}
use Rattle.network.specs.Timeline.{at}
use Rattle.network.proofs.Existence.{undriven}
use Rattle.network.proofs.Renumbered.{module_count-renumbered, module_of-renumbered, module_stands, node_count-renumbered}

module _ (S : Sheet) (acc : Accepted S) (π : Permutation (node_count S)) (order : List ℕ) (each-once : Listed (module_count S) order) where
  abbrev P : Sheet
  P = renumbered S π.to π.from order

  pub output_at : (k : ℕ) → k < module_count S → output_of P k ≡ π.to (output_of S (get_or order k 0))
  output_at k h = ap (λ m. m.output) (module_of-renumbered S π order each-once k h)

  -- by the number in the renumbered sheet
  pub driven_from : (w : ℕ) → w < node_count S → Driven P w ↔ Driven S (π.from w)
  driven_from w l = (back, there)
    where
      back : Driven P w → Driven S (π.from w)
      back d =
          let h = rw (module_count-renumbered S π order each-once) at d.listed in
          let m = each-once.known d.driver h in
          record {
            driver = get_or order d.driver 0;
            listed = m;
            output = sym (π.from_to _ (acc.sound_modules _ m).output) ∙ ap π.from (sym (output_at d.driver h) ∙ d.output);
          }

      there : Driven S (π.from w) → Driven P w
      there d =
          let k = module_stands S π order each-once d.driver d.listed in
          record {
            driver = k.0;
            listed = rw (module_count-renumbered S π order each-once) k.1;
            output = ap (λ m. m.output) k.2 ∙ ap π.to d.output ∙ π.to_from w l;
          }

  pub input_from : (w : ℕ) → w < node_count S → Input P w ↔ Input S (π.from w)
  input_from w l = (
    λ i. record { node = π.from_below w l; undriven = λ d. i.undriven ((driven_from w l).1 d) },
    λ i. record { node = rw (node_count-renumbered S π order each-once) l; undriven = λ d. i.undriven ((driven_from w l).0 d) },
  )

  -- by the number in the sheet
  pub driven_to : (v : ℕ) → v < node_count S → Driven P (π.to v) ↔ Driven S v
  driven_to v l = subst (λ u. Driven P (π.to v) ↔ Driven S u) (π.from_to v l) (driven_from (π.to v) (π.to_below v l))

  pub input_to : (v : ℕ) → v < node_count S → Input P (π.to v) ↔ Input S v
  input_to v l = subst (λ u. Input P (π.to v) ↔ Input S u) (π.from_to v l) (input_from (π.to v) (π.to_below v l))
