-- `lent::print` meets its contract: a byte that fits. Assumes nothing.
use Rattle.lent.proofs.Putting.{put_fits}
use Rattle.lent.proofs.print.Goals as goal

pub returns-then-at-text : goal.returns-then-at-text
returns-then-at-text c start bytes p = put_fits p c.args.byte c.if-at-text.true
