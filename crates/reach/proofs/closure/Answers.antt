-- `reach::closure` meets its contract: the links are made, and closed over each node. Assumes nothing.
use Rattle.reach.proofs.Marks.{all_linked}
use Rattle.reach.proofs.closure.Goals as goal

pub returns : goal.returns
returns c S h = rw (h.nodes, ← c.min.ensures) (c.close.ensures S (all_linked h c.cut.ensures.first c.clear.ensures c.mark_modules.ensures))
