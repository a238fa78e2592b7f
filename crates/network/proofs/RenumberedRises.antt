-- The drive of a renumbered sheet rises by tick and then by node, and its watched nodes rise: no two nodes get one number, so what rose has no two records
-- alike, and sorting again puts them in order. Assumes nothing.
use mathlib.Core.List.{List, Memᴰ}
use mathlib.Core.Path.{◌≡◌}
use native.Mathlib.Omega.{arith}
use Prim.Native.Nat.{ℕ, ◌<◌}
use Rattle.sheet.specs.Refusal.{key}
use Rattle.sheet.specs.Sheet.{node_count, event_count, event_of, watched_count, watched_node, Sheet, no_event}
use Rattle.sheet.specs.declared.Event.{Event}
use Rattle.format.specs.Accepted.{Accepted}
use Rattle.network.specs.Renumbering.{Permutation, renumbered_event, renumbered}
use Rattle.network.proofs.Drivable.{drivable}
use Rattle.network.proofs.Listing.{watched_nodes}
use Rattle.network.proofs.Permuting.{to_once}
use Rattle.network.proofs.Rising.{rising_at}
use Rattle.network.proofs.Sort.{sort_map_rises}

module _ (S : Sheet) (acc : Accepted S) (π : Permutation (node_count S)) (order : List ℕ) where
  abbrev P : Sheet
  P = renumbered S π.to π.from order

  -- new numbers are bytes, so that a key tells tick and node
  events_apart : (a b : Event) → Memᴰ a S.drive → Memᴰ b S.drive → key (renumbered_event π.to a) ≡ key (renumbered_event π.to b) → key a ≡ key b
  events_apart a b i j e =
      let h = (drivable S acc).on_node a i in
      let l = (drivable S acc).on_node b j in
      let x = π.to_below a.node h in
      let y = π.to_below b.node l in
      let z = to_once π a.node b.node h l (omega (arith, acc.nodes)) in
      omega (arith, acc.nodes)

  pub drive_rises : (a b : ℕ) → a < b → b < event_count P → key (event_of P a) < key (event_of P b)
  unfolding renumbered
  drive_rises a b l h = sort_map_rises key (renumbered_event π.to) key S.drive (rising_at key S.drive no_event acc.drive_rises) events_apart a b l h no_event

  pub watched_rise : (a b : ℕ) → a < b → b < watched_count P → watched_node P a < watched_node P b
  unfolding renumbered
  watched_rise a b l h =
      sort_map_rises (λ v. v) π.to (λ v. v) S.watched (rising_at (λ v. v) S.watched 0 acc.watched_rise)
      (λ u v i j. to_once π u v (watched_nodes S acc u i) (watched_nodes S acc v j)) a b l h 0
