-- `reach::loop_refusal` meets its contract: the least node that leads to itself in the closure. Assumes nothing.
use mathlib.Core.Path.{◌∙◌}
use Rattle.reach.proofs.Closing.{diagonal}
use Rattle.reach.proofs.loop_refusal.Goals as goal

pub returns : goal.returns
returns c S h =
    let closed = c.closure in
    c.least_on_loop.ensures ∙ diagonal h closed.new.reach (closed.ensures S h)
