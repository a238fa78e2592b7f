-- `Conversion::put_records` meets its contract. Assumes nothing.
use Rattle.std.proofs.Common.{add-one}
use Rattle.lent.proofs.Putting.{puts_none, puts_then}
use Rattle.sheet.specs.Enumerate.{each}
use Rattle.convert.proofs.conversion.Conversion.put_records.Goals as goal

pub loop-m-init : goal.loop-m-init
unfolding each
loop-m-init c = puts_none _

pub loop-m-preserved : goal.loop-m-preserved
unfolding each
loop-m-preserved c = rw (add-one c.loop-m.m) (puts_then c.loop-m.invariant (rw c.record_place.ensures at c.put_record.ensures))
