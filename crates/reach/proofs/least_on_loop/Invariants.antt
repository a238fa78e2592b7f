-- `reach::least_on_loop`: no node passed leads to itself. Assumes nothing.
use Rattle.std.proofs.Common.{◌≡◌}
use Rattle.sheet.specs.Enumerate.{each}
use Rattle.sheet.specs.Outcome.{finished}
use Rattle.sheet.specs.Refusal.{first}
use Rattle.reach.specs.Links.{entry, diagonal_rows}
use Rattle.reach.proofs.least_on_loop.Given as goal

abbrev pub invariant-loop-v : goal.invariant-loop-v
invariant-loop-v l = first (each l.v (diagonal_rows (entry l.reach))) ≡ finished 0
