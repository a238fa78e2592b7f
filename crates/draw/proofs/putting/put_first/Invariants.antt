-- `draw::putting::put_first` meets its contract. The loop's invariant: the inputs passed have their events, and as many draws are made. Assumes nothing.
use Rattle.std.proofs.Common.{◌≡◌}
use Rattle.sheet.specs.Enumerate.{listed}
use Rattle.format.specs.Encode.{event_bytes, all_bytes}
use Rattle.lent.specs.Lent.{Puts}
use Rattle.draw.specs.Draw.{state_after}
use Rattle.draw.specs.Drive.{first_event}
use Rattle.draw.proofs.putting.put_first.Given as goal

abbrev pub invariant-loop-input : goal.invariant-loop-input
invariant-loop-input l =
    record {
      state : l.draws.state ≡ state_after l.initial.draws.state l.input-index;
      puts : Puts (all_bytes event_bytes (listed l.input-index (first_event l.inputs l.initial.draws.state))) l.initial.out l.out;
    }
