-- `tick::work` meets its contract: the passes are the tick's work. Assumes nothing.
use mathlib.Core.Path.{refl, sym, ap, ◌∙◌}
use native.Mathlib.Omega.{arith}
use Rattle.model.specs.Drive.{drive_tick}
use Rattle.tick.specs.Tally.{driven_at}
use Rattle.tick.specs.Tick.{loaded_in, settled}
use Rattle.tick.proofs.Giving.{given-kept, drive_other}
use Rattle.tick.proofs.Rows.{length_modules, module_at}
use Rattle.tick.proofs.Worked.{worked}
use Rattle.tick.proofs.work.Goals as goal

pub returns : goal.returns
returns c =
    let n = c.args.network in
    let rows = n.rows.now in
    let b = c.args.carried.now in
    let p = c.requires in
    let d = c.drive_all-carried.ensures in
    let g = c.give_due.ensures in
    let still = given-kept rows b.present.values (drive_tick n.drive.now c.args.t b.present.values) b.present.kept
    (λ j l. drive_other n.drive.now c.args.t b.present.values (driven_at rows j) (λ i h e. p.apart i j h l (e ∙ ap (λ m. m.output) (sym (module_at rows j))))) in
    let w = worked (loaded_in n) n.horizon c.args.t (settled rows b.present) b.ahead.last b.ahead.pending.kept (length_modules rows) refl (rw (d.1, still) at g.0) g.1 c.settle_all.ensures.0 c.schedule_all.ensures.0 in
    record {
      values_worked = w.0;
      given_worked = w.1;
      last_worked = w.2;
      pending_worked = w.3;
      next = d.0;
      few = omega (arith, p.few_pending, n.few, n.few_delayed, g.2, c.schedule_all.ensures.1);
      tallied = c.settle_all.ensures.1;
    }
