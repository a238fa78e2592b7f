-- A chain of modules of delay zero in a renumbered sheet is one in the sheet, so it has no zero-delay loop where the sheet has none. Assumes nothing.
use lib.ListN.{get_or}
use mathlib.Core.List.Memᴰ
use mathlib.Core.List.{List, Memᴰ}
use mathlib.Core.Path.{refl, sym, ap, ◌∙◌, subst₂}
use Prim.Native.Nat.{ℕ}
use Rattle.sheet.specs.Loop.{Feeds, Chain, link, more, OnLoop}
use Rattle.sheet.specs.Sheet.{node_count, module_count, module_of, Sheet}
use Rattle.sheet.specs.Wiring.{used_inputs}
use Rattle.format.specs.Accepted.{Accepted}
use Rattle.network.specs.Order.{Listed}
use Rattle.network.specs.Renumbering.{Permutation, renumbered}
use Rattle.network.specs.Timeline.{at}
use Rattle.network.proofs.Permuting.{to_once}
use Rattle.network.proofs.Renumbered.{module_count-renumbered, module_of-renumbered}
use Rattle.network.proofs.RenumberedModule.{used_renumbered}

module _ (S : Sheet) (acc : Accepted S) (π : Permutation (node_count S)) (order : List ℕ) (each-once : Listed (module_count S) order) where
  abbrev P : Sheet
  P = renumbered S π.to π.from order

  abbrev place : ℕ → ℕ
  place k = get_or order k 0

  feeds : {a b : ℕ} → Feeds P a b → Feeds S (place a) (place b)
  feeds {a} {b} f =
      let h = rw (module_count-renumbered S π order each-once) at f.from in
      let l = rw (module_count-renumbered S π order each-once) at f.to in
      let x = module_of-renumbered S π order each-once a h in
      let y = module_of-renumbered S π order each-once b l in
      let v = Memᴰ.of_map π.to (used_inputs (module_of S (place b))) (subst₂ Memᴰ (ap (λ m. m.output) x) (ap used_inputs y ∙ used_renumbered π.to (module_of S (place b))) f.used) in
      record {
        from = each-once.known a h;
        to = each-once.known b l;
        from_at_once = sym (ap (λ m. m.delay) x) ∙ f.from_at_once;
        to_at_once = sym (ap (λ m. m.delay) y) ∙ f.to_at_once;
        node = (acc.sound_modules _ (each-once.known a h)).output;
        used =
            Memᴰ.cast
            (to_once π _ v.0 (acc.sound_modules _ (each-once.known a h)).output ((acc.sound_modules _ (each-once.known b l)).used v.0 v.1) (sym v.2))
            v.1;
      }

  chain : {a b : ℕ} → Chain P a b → Chain S (place a) (place b)
  chain (link f) = link (feeds f)
  chain (more f c) = more (feeds f) (chain c)

  pub no_loop : (v : ℕ) → OnLoop P v → ⊥
  no_loop v l = acc.no_loop _ (record { driver = place l.driver; closed = chain l.closed; output = refl })
