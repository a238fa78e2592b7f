-- `reach::clear`: one row more. Assumes nothing.
use Rattle.std.proofs.Common.{◌∙◌, arith, length-set}
use Rattle.reach.proofs.Matrix.{row_cleared}
use Rattle.reach.proofs.clear.Goals as goal

pub loop-row-preserved : goal.loop-row-preserved
loop-row-preserved c =
    let before = c.loop-row.invariant in
    (length-set _ _ _ ∙ before.0, row_cleared c.loop-row.reach c.loop-row.row-index (omega (arith, before.0, c.loop-row-test.true)) c.clear_row.ensures before.1)
