-- A renumbered sheet is accepted where the sheet is, condition by condition. Assumes nothing.
use lib.ListN.{get_or}
use mathlib.Core.List.{List}
use mathlib.Core.Path.{◌≡◌, sym, ap, ◌∙◌, subst, subst₂}
use native.Mathlib.Omega.{arith}
use Prim.Native.Nat.{ℕ, ◌<◌}
use Rattle.sheet.specs.Sheet.{node_count, module_count, module_of, event_count, event_of, watched_count, watched_node, Sheet, node_byte}
use Rattle.sheet.specs.Wiring.{inputs}
use Rattle.format.specs.Accepted.{Input, SoundModule, SoundEvent, DrivenAtStart, Accepted}
use Rattle.network.specs.Order.{Listed}
use Rattle.network.specs.Renumbering.{Permutation, renumbered}
use Rattle.network.specs.Timeline.{at}
use Rattle.network.proofs.Listing.{watched_nodes}
use Rattle.network.proofs.Renumbered.{event_back, event_count-renumbered, event_there, module_count-renumbered, module_of-renumbered, node_byte-renumbered, node_count-renumbered, watched_back, watched_count-renumbered}
use Rattle.network.proofs.RenumberedChains.{no_loop}
use Rattle.network.proofs.RenumberedInputs.{driven_from, input_from, input_to}
use Rattle.network.proofs.RenumberedModule.{sound_renumbered}
use Rattle.network.proofs.RenumberedRises.{watched_rise, drive_rises}

module _ (S : Sheet) (acc : Accepted S) (π : Permutation (node_count S)) (order : List ℕ) (each-once : Listed (module_count S) order) where
  abbrev P : Sheet
  P = renumbered S π.to π.from order

  nodes : node_count P ≡ node_count S
  nodes = node_count-renumbered S π order each-once

  node : (w : ℕ) → w < node_count P → w < node_count S
  node w h = rw nodes at h

  listed : (k : ℕ) → k < module_count P → k < module_count S
  listed k h = rw (module_count-renumbered S π order each-once) at h

  node_byte_lem : (w : ℕ) → w < node_count S → node_byte P w ≡ node_byte S (π.from w)
  node_byte_lem = node_byte-renumbered S π order each-once

  sound_module : (k : ℕ) → k < module_count S → SoundModule (node_count P) (module_of P k)
  sound_module k h =
      subst₂ SoundModule (sym nodes) (sym (module_of-renumbered S π order each-once k h))
      (sound_renumbered π.to _ (node_count S) π.to_below (acc.sound_modules (get_or order k 0) (each-once.known k h)))

  sound_event : (e : ℕ) → e < event_count P → SoundEvent P (event_of P e)
  sound_event e h =
      let b = event_back S π order each-once e h in
      let a = acc.sound_events b.0 b.1 in
      subst (SoundEvent P) b.2 (record { tick = a.tick; node = (input_to S acc π order each-once _ a.node.node).1 a.node; value = a.value })

  watched_node_lem : (k : ℕ) → k < watched_count P → watched_node P k < node_count P
  watched_node_lem k h = let b = watched_back S π order each-once k h in omega (arith, π.to_below _ (acc.watched_nodes b.0 b.1), b.2, nodes)

  pub accepted_renumbered : Accepted P
  accepted_renumbered =
      record {
        some_node = omega (arith, acc.some_node, nodes);
        nodes = omega (arith, acc.nodes, nodes);
        modules = omega (arith, acc.modules, module_count-renumbered S π order each-once);
        events = omega (arith, acc.events, event_count-renumbered S π order each-once);
        watched = omega (arith, acc.watched, watched_count-renumbered S π order each-once);
        node_bytes = λ w h. let l = node w h in omega (arith, acc.node_bytes (π.from w) (π.from_below w l), node_byte_lem w l);
        sound_modules = λ k h. sound_module k (listed k h);
        sound_events = sound_event;
        watched_nodes = watched_node_lem;
        initial_values = λ w h d. let l = node w h in omega (arith, acc.initial_values (π.from w) (π.from_below w l) ((driven_from S acc π order each-once w l).0 d), node_byte_lem w l);
        inputs = λ w i. let l = node w i.node in node_byte_lem w l ∙ acc.inputs (π.from w) ((input_from S acc π order each-once w l).0 i);
        drive_rises = drive_rises S acc π order;
        watched_rise = watched_rise S acc π order;
        no_loop = no_loop S acc π order each-once;
      }

  -- driven at tick 0, where all inputs are
  pub started : ((v : ℕ) → Input S v → DrivenAtStart S v) → (w : ℕ) → Input P w → DrivenAtStart P w
  started first w i =
      let l = node w i.node in
      let d = first (π.from w) ((input_from S acc π order each-once w l).0 i) in
      let e = event_there S π order each-once d.event d.listed in
      record {
        event = e.0;
        listed = e.1;
        tick = ap (λ e. e.tick) (sym e.2) ∙ d.tick;
        node = ap (λ e. e.node) (sym e.2) ∙ ap π.to d.node ∙ π.to_from w l;
      }
