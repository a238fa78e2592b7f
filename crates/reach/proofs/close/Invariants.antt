-- `reach::close`: the matrix says which node leads to which over the nodes passed. Assumes nothing.
use Rattle.sheet.specs.Sheet.{Sheet}
use Rattle.sheet.specs.Loop.{leads, leads_over}
use Rattle.reach.specs.Links.{Holds}
use Rattle.reach.proofs.close.Given as goal

abbrev pub invariant-loop-k : goal.invariant-loop-k
invariant-loop-k l = (S : Sheet) → Holds l.initial.reach (leads S) → Holds l.reach (leads_over S l.k)
