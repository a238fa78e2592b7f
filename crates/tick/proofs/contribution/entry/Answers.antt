-- `tick::contribution::entry` meets its contract: an entry of a part of the tables. Assumes nothing.
use mathlib.Core.Path.{ap, ◌∙◌}
use native.Mathlib.Omega.{arith}
use lib.ListN.{length}
use Rattle.level.proofs.Gates.{length-tables}
use Rattle.tick.proofs.Parts.{length-part}
use Rattle.tick.proofs.contribution.entry.Goals as goal

pub slice_bounds-row-count : goal.slice_bounds-row-count
slice_bounds-row-count c = let n = ap length c.requires.0 ∙ length-tables in omega (arith, n, c.requires.1)

pub slice_bounds-row-start : goal.slice_bounds-row-start
slice_bounds-row-start c = let n = ap length c.requires.0 ∙ length-tables in omega (arith, n, c.requires.1)

pub bounds-row-i : goal.bounds-row-i
bounds-row-i c = let n = ap length c.requires.0 ∙ length-tables in omega (arith, n, c.requires.1, length-part c.args.gates.now c.args.start)
