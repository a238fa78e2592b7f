-- `lent::print_all` meets its contract: each byte is printed after those passed. Assumes nothing.
use Rattle.std.proofs.Common.{arith}
use Rattle.std.proofs.lemmas.List.{take_more}
use Rattle.lent.proofs.Putting.{prints_then}
use Rattle.lent.proofs.print_all.Goals as goal

pub loop-byte-preserved : goal.loop-byte-preserved
loop-byte-preserved c = rw (take_more c.args.bytes.now c.loop-byte.byte-index 0 (omega arith)) (prints_then c.loop-byte.invariant c.print-to.ensures)
