-- `draw::putting::put_later` meets its contract. The loop's invariant: the events passed are put, and the state and the tick are those before the next one.
-- Assumes nothing.
use Rattle.std.proofs.Common.{◌≡◌, ℕ, ◌*◌, ◌≤◌, length}
use Rattle.sheet.specs.Enumerate.{listed}
use Rattle.format.specs.Encode.{event_bytes, all_bytes}
use Rattle.lent.specs.Lent.{Puts}
use Rattle.draw.specs.Draw.{state_after}
use Rattle.draw.specs.Drive.{tick_draw, tick_before, later_event}
use Rattle.draw.proofs.putting.put_later.Given as goal

abbrev pub invariant-loop : goal.invariant-loop
invariant-loop l =
    record {
      early : l.tick ≤ 64 * l.counter;
      drawn : (seed : ℕ) → l.initial.draws.state ≡ state_after seed (length l.inputs)
          → (l.draws.state ≡ state_after seed (tick_draw l.inputs l.counter)) × (l.tick ≡ tick_before l.inputs seed l.counter)
          × Puts (all_bytes event_bytes (listed l.counter (later_event l.inputs seed))) l.initial.out l.out;
    }
