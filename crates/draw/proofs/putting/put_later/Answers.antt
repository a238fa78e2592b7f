-- `draw::putting::put_later` meets its contract. Assumes nothing.
use Rattle.std.proofs.Common.{◌≡◌, refl, sym, ap, ◌∙◌, add-one, arith}
use Rattle.lent.proofs.Putting.{puts_none, puts_then}
use Rattle.sheet.specs.Enumerate.{each}
use Rattle.format.specs.Encode.{event_bytes, all_bytes}
use Rattle.draw.specs.Draw.{state_after}
use Rattle.draw.specs.Drive.{tick_before, later_event}
use Rattle.draw.proofs.Steps.{state_next, tick_next, event_next, one_more}
use Rattle.draw.proofs.putting.put_later.Goals as goal

pub loop-init : goal.loop-init
unfolding each all_bytes tick_before
loop-init c = record { early = omega arith; drawn = λ seed from. (from ∙ ap (state_after seed) (omega arith), refl, puts_none _) }

pub later_event-event-requires : goal.later_event-event-requires
later_event-event-requires c = (c.requires.1 (omega arith), omega (arith, c.requires.0))

pub loop-preserved : goal.loop-preserved
loop-preserved c =
    let inputs = c.args.inputs.now in
    let k = c.loop.counter in
    let event = c.later_event-event.ensures in
    let tick = ap (λ e. e.tick) event.drawn in record {
      early = omega (arith, tick, c.loop.invariant.early);
      drawn =
          λ seed from.
          let before = c.loop.invariant.drawn seed from in (
            event.state ∙ state_next inputs seed k before.0 before.1,
            tick ∙ tick_next inputs seed k before.0 before.1 ∙ ap (tick_before inputs seed) (sym (add-one k)),
            rw (one_more event_bytes k (later_event inputs seed)) (puts_then before.2 (rw (event.drawn ∙ event_next inputs seed k before.0 before.1) at c.put_event.ensures)),
          );
    }

pub returns : goal.returns
returns c seed from = let all : c.loop.counter ≡ c.args.n = omega arith in rw (← all) (c.loop.invariant.drawn seed from).2
