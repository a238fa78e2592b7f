-- What the records of a listing that is renumbered and sorted again show is what they showed, renumbered and sorted again. Assumes nothing.
use mathlib.Core.List.{List, [], ◌∷◌, ◌++◌, map, map-append, flat_map, Memᴰ}
use mathlib.Core.Bool.{Bool, true, false}
use mathlib.Core.Logic.{◌↔◌}
use mathlib.Core.Path.{◌≡◌, refl, sym, ap₂, ◌∙◌, subst}
use native.Mathlib.Omega.{arith}
use Prim.Native.Nat.{ℕ, ◌<◌}
use Rattle.std.specs.Prelude.{if◌then◌else◌}
use Rattle.sheet.specs.Sheet.{Sheet}
use Rattle.network.specs.Timeline.{Cells}
use Rattle.network.specs.Ends.{Ended, ended_key}
use Rattle.network.specs.Demand2.{Lists}
use Rattle.network.specs.Renumbering.{renumbered_ended, renumbered_listing}
use Rattle.network.proofs.Sort.{sort-mem, sort-is, sort_map_rises}
use Rattle.pulses.specs.Pulse.{Pulse, pulse_key, to_report, pulse_of}
use Rattle.pulses.specs.InListing.{pulse_in}
use Rattle.pulses.specs.Renumbered.{renumbered_pulse, renumbered_report}
use Rattle.pulses.proofs.Records.{shown}
use Rattle.pulses.proofs.Exact.{shown_mem, exact}

module _ (horizon width : ℕ) (to : ℕ → ℕ) where
  -- a record's pulse, renumbered
  one_renumbered : (r : Ended) → pulse_in horizon width (renumbered_ended to r) ≡ map (renumbered_pulse to) (pulse_in horizon width r)
  one_renumbered r = by (to_report horizon width r.start.tick r.end)
    where
      by : (b : Bool) → (if b then pulse_of r.start.tick (to r.start.node) r.end ∷ [] else [])
          ≡ map (renumbered_pulse to) (if b then pulse_of r.start.tick r.start.node r.end ∷ [] else [])
      by true = refl
      by false = refl

  all_renumbered : (records : List Ended) → shown horizon width (map (renumbered_ended to) records) ≡ map (renumbered_pulse to) (shown horizon width records)
  unfolding flat_map
  all_renumbered [] = refl
  all_renumbered (r ∷ rs) = ap₂ ◌++◌ (one_renumbered r) (all_renumbered rs) ∙ sym (map-append (renumbered_pulse to) (pulse_in horizon width r) (shown horizon width rs))

  -- sorted records show the same pulses
  sorted_mem : (records : List Ended) (p : Pulse) → Memᴰ p (shown horizon width (map (renumbered_ended to) records)) ↔ Memᴰ p (shown horizon width (renumbered_listing to records))
  sorted_mem records p = (
    λ m. let h = (shown_mem horizon width (map (renumbered_ended to) records)).0 m in (shown_mem horizon width (renumbered_listing to records)).1 (h.0, (sort-mem ended_key (map (renumbered_ended to) records)).1 h.1, h.2),
    λ m. let h = (shown_mem horizon width (renumbered_listing to records)).0 m in (shown_mem horizon width (map (renumbered_ended to) records)).1 (h.0, (sort-mem ended_key (map (renumbered_ended to) records)).0 h.1, h.2),
  )

-- N watches nodes whose new numbers are bytes, no two the same
module _ (N P : Sheet) (n q : Cells) (horizon width : ℕ) (to : ℕ → ℕ)
    (new_bytes : (v : ℕ) → Memᴰ v N.watched → to v < 256)
    (apart : (u v : ℕ) → Memᴰ u N.watched → Memᴰ v N.watched → to u ≡ to v → u ≡ v) where
  pub renumbered_shown : (records : List Ended) → Lists N n horizon records → Lists P q horizon (renumbered_listing to records)
      → shown horizon width (renumbered_listing to records) ≡ renumbered_report to (shown horizon width records)
  renumbered_shown records L M =
      sym
      (sort-is pulse_key (map (renumbered_pulse to) (shown horizon width records)) (shown horizon width (renumbered_listing to records))
      (sort_map_rises pulse_key (renumbered_pulse to) pulse_key (shown horizon width records) (exact N n horizon width records L).rise key_apart)
      (exact P q horizon width (renumbered_listing to records) M).rise
      (λ p. subst (λ l. Memᴰ p l ↔ Memᴰ p (shown horizon width (renumbered_listing to records))) (all_renumbered horizon width to records) (sorted_mem horizon width to records p)))
    where
      key_apart : (a b : Pulse) → Memᴰ a (shown horizon width records) → Memᴰ b (shown horizon width records) → pulse_key (renumbered_pulse to a) ≡ pulse_key (renumbered_pulse to b) → pulse_key a ≡ pulse_key b
      key_apart a b i j e =
          let f = ((exact N n horizon width records L).short a i).watched in
          let g = ((exact N n horizon width records L).short b j).watched in
          let x = new_bytes a.node f in
          let y = new_bytes b.node g in
          let z = apart a.node b.node f g (omega arith) in
          omega arith
