-- The parts of the renumbered sheet, by number: its counts are the sheet's, each node's byte stands at its new number and each module's record where the
-- order has it, of events and watched nodes none is added and none lost, and an input's cells are those of the drive in both. Assumes nothing.
use lib.ListN.{get_or, length-map}
use mathlib.Core.List.{List}
use mathlib.Core.Path.{◌≡◌, refl, sym, ap, ◌∙◌}
use Prim.Native.Nat.{ℕ, ◌<◌}
use Rattle.sheet.specs.Enumerate.{listed}
use Rattle.sheet.specs.Refusal.{key}
use Rattle.sheet.specs.Sheet.{Sheet, node_count, module_count, module_of, node_byte, no_module, event_count, event_of, no_event, watched_count, watched_node}
use Rattle.network.specs.Order.{Listed}
use Rattle.network.specs.Renumbering.{Permutation, renumbered, renumbered_module, renumbered_event}
use Rattle.network.specs.Timeline.{drive_cell}
use Rattle.sheet.proofs.Listed.{length-listed, get_or-listed, get_or-map_within}
use Rattle.network.proofs.Drivable.{Drivable}
use Rattle.network.proofs.Given.{Gives, drive_same}
use Rattle.network.proofs.Listed.{position}
use Rattle.network.proofs.Permuting.{to_once}
use Rattle.network.proofs.Sort.{sort-map-mem, sort-map-length, sorted_back, sorted_there}

module _ (S : Sheet) (π : Permutation (node_count S)) (order : List ℕ) (each-once : Listed (module_count S) order) where
  abbrev P : Sheet
  P = renumbered S π.to π.from order

  pub node_count-renumbered : node_count P ≡ node_count S
  unfolding renumbered
  node_count-renumbered = length-listed (node_count S) (λ w. node_byte S (π.from w))

  pub module_count-renumbered : module_count P ≡ module_count S
  unfolding renumbered
  module_count-renumbered = length-map order (λ m. renumbered_module π.to (module_of S m)) ∙ each-once.count

  pub event_count-renumbered : event_count P ≡ event_count S
  unfolding renumbered
  event_count-renumbered = sort-map-length key (renumbered_event π.to) S.drive

  pub watched_count-renumbered : watched_count P ≡ watched_count S
  unfolding renumbered
  watched_count-renumbered = sort-map-length (λ v. v) π.to S.watched

  pub node_byte-renumbered : (w : ℕ) → w < node_count S → node_byte P w ≡ node_byte S (π.from w)
  unfolding renumbered
  node_byte-renumbered w h = get_or-listed (node_count S) (λ w. node_byte S (π.from w)) w 0 h

  pub module_of-renumbered : (k : ℕ) → k < module_count S → module_of P k ≡ renumbered_module π.to (module_of S (get_or order k 0))
  unfolding renumbered
  module_of-renumbered k h = get_or-map_within (λ m. renumbered_module π.to (module_of S m)) order k 0 no_module (rw each-once.count h)

  -- where a module stands
  pub module_stands : (m : ℕ) → m < module_count S → (k : ℕ) × (k < module_count S) × (module_of P k ≡ renumbered_module π.to (module_of S m))
  module_stands m h =
      let p = position each-once m h in
      (p.0, p.1, module_of-renumbered p.0 p.1 ∙ ap (λ m. renumbered_module π.to (module_of S m)) p.2)

  pub event_back : (e : ℕ) → e < event_count P → (i : ℕ) × (i < event_count S) × (renumbered_event π.to (event_of S i) ≡ event_of P e)
  unfolding renumbered
  event_back = sorted_back key (renumbered_event π.to) S.drive no_event no_event

  pub event_there : (i : ℕ) → i < event_count S → (e : ℕ) × (e < event_count P) × (renumbered_event π.to (event_of S i) ≡ event_of P e)
  unfolding renumbered
  event_there = sorted_there key (renumbered_event π.to) S.drive no_event no_event

  pub watched_back : (k : ℕ) → k < watched_count P → (i : ℕ) × (i < watched_count S) × (π.to (watched_node S i) ≡ watched_node P k)
  unfolding renumbered
  watched_back = sorted_back (λ v. v) π.to S.watched 0 0

  module _ (d : Drivable S) where
    pub drive_renumbered : (v : ℕ) → v < node_count S → (t : ℕ) → drive_cell S.drive v t ≡ drive_cell P.drive (π.to v) t
    unfolding renumbered
    drive_renumbered v h =
        drive_same
        S.drive
        P.drive
        v
        (π.to v)
        (λ t x y g f. sym g.value ∙ d.one_value g.event f.event g.listed f.listed (g.tick ∙ sym f.tick) (g.node ∙ sym f.node) ∙ f.value)
        (λ t x. (there t x, back t x))
      where
        there : (t x : ℕ) → Gives S.drive v t x → Gives P.drive (π.to v) t x
        there t x g =
            record {
              event = renumbered_event π.to g.event;
              listed = (sort-map-mem key (renumbered_event π.to) S.drive).1 (g.event, g.listed, refl);
              tick = g.tick;
              node = ap π.to g.node;
              value = g.value;
            }

        back : (t x : ℕ) → Gives P.drive (π.to v) t x → Gives S.drive v t x
        back t x g =
            let r = (sort-map-mem key (renumbered_event π.to) S.drive).0 g.listed in
            record {
              event = r.0;
              listed = r.1;
              tick = ap (λ e. e.tick) r.2 ∙ g.tick;
              node = to_once π _ v (d.on_node r.0 r.1) h (ap (λ e. e.node) r.2 ∙ g.node);
              value = ap (λ e. e.value) r.2 ∙ g.value;
            }
