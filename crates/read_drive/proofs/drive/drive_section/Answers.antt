-- `read_drive::drive::drive_section` meets its contract: the count, then the events one by one, and then the inputs' first events. Assumes nothing.
use Rattle.std.proofs.Common.{Some, refl, sym, ap, ◌∙◌, add-one, arith, length}
use Rattle.std.proofs.lemmas.Result.{err_from_is_err_and}
use Rattle.sheet.specs.Layout.{sheet_of}
use Rattle.sheet.proofs.Told.{stopped}
use Rattle.read_nodes.proofs.Filling.{begun, one_more, stopped_at, all_held}
use Rattle.read_drive.proofs.Begun.{begun_length, begun_none, begun_more}
use Rattle.read_drive.proofs.Passed.{rows_left}
use Rattle.read_drive.proofs.drive.drive_section.Goals as goal

pub returns-in_err-count : goal.returns-in_err-count
returns-in_err-count c =
    let met = rw c.requires.0 at c.in_err-count.ensures in
    let p = err_from_is_err_and c.from_residual.result c.from_residual.ensures.1 in
    rw (p.1, p.2) (stopped _ _ _ met)

pub loop-k-init : goal.loop-k-init
loop-k-init c = record { read = begun (rw c.requires.0 at c.in_ok-count.ensures); last = refl; flagged = begun_none (sheet_of c.args.e c.args.s.now) _ c.requires.4 }

pub loop-k-preserved : goal.loop-k-preserved
loop-k-preserved c =
    let l = c.loop-k in
    let told = c.in_ok-event.ensures c.args.e l.k (omega arith) c.requires.2 c.requires.4 l.invariant.last in
    record {
      read = one_more l.invariant.read c.loop-k-test.true told.0 told.1;
      last = rw add-one (ap Some told.1);
      flagged = rw c.mark.ensures (begun_more c.args.e c.args.s.now l.k _ l.begun l.invariant.flagged told.1 (omega (arith, l.invariant.read.counted)) (omega (arith, begun_length c.in_ok-event.event l.begun, ap length c.mark.ensures)) (omega arith));
    }

pub returns-in_err-event : goal.returns-in_err-event
returns-in_err-event c =
    let l = c.loop-k in
    let met = c.in_err-event.ensures c.args.e l.k (omega arith) c.requires.2 c.requires.4 l.invariant.last in
    let p = err_from_is_err_and c.from_residual-in_err-event.result c.from_residual-in_err-event.ensures.1 in
    rw (p.1, p.2) (stopped _ _ _ (stopped_at l.invariant.read _ c.loop-k-test.true met))

pub returns-in_err-first_events : goal.returns-in_err-first_events
returns-in_err-first_events c =
    let rows = rows_left c.args.strict c.args.e c.args.s.now c.loop-k.invariant (omega arith) c.requires.2 c.requires.3 in
    let p = err_from_is_err_and c.from_residual-in_err-first_events.result c.from_residual-in_err-first_events.ensures.1 in
    rw (p.1, p.2) (rows ∙ sym c.in_err-first_events.ensures)

pub returns : goal.returns
returns c =
    let rows = rows_left c.args.strict c.args.e c.args.s.now c.loop-k.invariant (omega arith) c.requires.2 c.requires.3 in
    (rows ∙ sym c.in_ok-first_events.ensures, all_held c.loop-k.invariant.read (omega arith) (omega arith) _ refl refl)
