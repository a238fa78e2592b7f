-- A watched node whose value is the one shown last adds no record, any other adds one, for which there is room. Assumes nothing.
use Rattle.std.proofs.Common.{◌∙◌, sym, arith, append_assoc, length-append}
use Rattle.listing.proofs.FreshLists.{fresh_same, fresh_new, fresh_room}
use Rattle.listing.proofs.Holding.{holding_length}
use Rattle.listing.proofs.Listing.write_fresh.Goals as goal
use Rattle.listing.proofs.Listing.write_fresh.Goals.{then-is_fresh, else-is_fresh}

pub write_value-requires-clause-room : goal.write_value-requires-clause-room
write_value-requires-clause-room c =
    let a = c.args in
    let loop = c.loop-node in
    let held = c.requires.held in
    let H = loop.invariant.holding held.0 held.1 held.2 in
    let test = rw loop.invariant.same_values at (sym c.is_fresh.ensures ∙ c.if-is_fresh.true) in
    let room = fresh_room a.values.now a.self.now.values a.t a.watched.now loop.node-index (omega arith) test in
    omega (arith, c.requires.room, held.2.counted, simp length-append at H.counted, room, holding_length H, holding_length held.2)

pub loop-node-preserved : goal.loop-node-preserved
loop-node-preserved c =
    let a = c.args in
    let loop = c.loop-node in
    let same = loop.invariant.same_values in
    elim c.if-is_fresh.branch [
      | then-is_fresh w ↦ record {
        same_values = rw w.self-is (w.write_value.ensures.same_values ∙ same);
        lent = rw w.self-is (w.write_value.ensures.lent ∙ loop.invariant.lent);
        holding = λ buffer before H.
            rw (fresh_new a.values.now a.self.now.values a.t a.watched.now loop.node-index (omega arith) (rw same at (sym c.is_fresh.ensures ∙ w.if-is_fresh.true)), w.self-is, ← append_assoc)
            (rw w.from.ensures at (w.write_value.ensures.holding buffer _ (loop.invariant.holding buffer before H)));
      }
      | else-is_fresh w ↦ record {
        same_values = rw w.self-is same;
        lent = rw w.self-is loop.invariant.lent;
        holding = λ buffer before H.
            rw (fresh_same a.values.now a.self.now.values a.t a.watched.now loop.node-index (omega arith) (rw same at (sym c.is_fresh.ensures ∙ w.if-is_fresh.false)), w.self-is)
            (loop.invariant.holding buffer before H);
      }
    ]
