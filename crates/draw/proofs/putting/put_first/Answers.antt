-- `draw::putting::put_first` meets its contract. Assumes nothing.
use Rattle.std.proofs.Common.{refl, ap, ◌∙◌, add-one}
use Rattle.lent.proofs.Putting.{puts_none, puts_then}
use Rattle.sheet.specs.Enumerate.{each}
use Rattle.format.specs.Encode.{event_bytes, all_bytes}
use Rattle.draw.specs.Draw.{advanced, state_after}
use Rattle.draw.specs.Drive.{first_event}
use Rattle.draw.proofs.Steps.{one_more}
use Rattle.draw.proofs.putting.put_first.Goals as goal

pub loop-input-init : goal.loop-input-init
unfolding each all_bytes state_after
loop-input-init c = record { state = refl; puts = puts_none _ }

pub loop-input-preserved : goal.loop-input-preserved
unfolding state_after
loop-input-preserved c =
    let inputs = c.args.inputs.now in
    let seed = c.args.draws.now.state in
    let i = c.loop-input.input-index in
    let state = ap advanced c.loop-input.invariant.state in record {
      state = rw (add-one i) (c.first_event.ensures.state ∙ state);
      puts = rw (one_more event_bytes i (first_event inputs seed)) (puts_then c.loop-input.invariant.puts (rw (c.first_event.ensures.drawn, state) at c.put_event.ensures));
    }
