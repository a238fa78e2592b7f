-- `text::line::put_lines` meets its contract: one line more for each record. Assumes nothing.
use Rattle.std.proofs.Common.{add-one}
use Rattle.sheet.specs.Enumerate.{each}
use Rattle.lent.proofs.Putting.{puts_none, puts_then}
use Rattle.text.proofs.line.put_lines.Goals as goal

pub loop-i-init : goal.loop-i-init
unfolding each
loop-i-init c = puts_none _

pub loop-i-preserved : goal.loop-i-preserved
unfolding each
loop-i-preserved c = rw add-one (puts_then c.loop-i.invariant c.put_record.ensures)
