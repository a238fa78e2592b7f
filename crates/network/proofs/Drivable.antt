-- What the cells of inputs need of an accepted sheet: its events are on nodes, and no two of one tick and node differ in value. Assumes nothing.
use mathlib.Core.List.{Memᴰ}
use mathlib.Core.Path.{◌≡◌, ap, subst₂}
use native.Mathlib.Decide.{ℕ_discrete, dec_lt}
use native.Mathlib.Omega.{arith}
use Prim.Native.Nat.{ℕ, ◌<◌}
use Rattle.sheet.specs.Sheet.{event_count, event_of, Sheet, node_count, no_event}
use Rattle.sheet.specs.declared.Event.{Event}
use Rattle.format.specs.Accepted.{Accepted}
use Rattle.network.proofs.Rising.{mem_place, members_all}

pub record Drivable (S : Sheet) : Type 0 where
  pub on_node : (e : Event) → Memᴰ e S.drive → e.node < node_count S
  pub one_value : (e f : Event) → Memᴰ e S.drive → Memᴰ f S.drive → e.tick ≡ f.tick → e.node ≡ f.node → e.value ≡ f.value

pub drivable : (S : Sheet) → Accepted S → Drivable S
drivable S acc = record { on_node = members_all (λ e. e.node < node_count S) S.drive no_event (λ i h. (acc.sound_events i h).node.node); one_value = one }
  where
    -- an event stands at one place only, since the drive rises
    place : (i j : ℕ) → i < event_count S → j < event_count S → Dec (i ≡ j) → Dec (i < j) → (event_of S i).tick ≡ (event_of S j).tick → (event_of S i).node ≡ (event_of S j).node → (event_of S i).value ≡ (event_of S j).value
    place i j h k (yes e) d t v = ap (λ m. (event_of S m).value) e
    place i j h k (no e) (yes d) t v = absurd (omega (arith, acc.drive_rises i j d k))
    place i j h k (no e) (no d) t v = absurd (omega (arith, acc.drive_rises j i (omega arith) h))

    one : (e f : Event) → Memᴰ e S.drive → Memᴰ f S.drive → e.tick ≡ f.tick → e.node ≡ f.node → e.value ≡ f.value
    one e f m k =
        let p = mem_place m in
        let q = mem_place k in
        subst₂ (λ e f. e.tick ≡ f.tick → e.node ≡ f.node → e.value ≡ f.value) (p.2 no_event) (q.2 no_event) (place p.0 q.0 p.1 q.1 (ℕ_discrete p.0 q.0) (dec_lt p.0 q.0))
