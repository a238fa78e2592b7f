-- `lent::print_decimal` meets its contract: one digit, or the digits of a tenth before it. Assumes nothing.
use Rattle.lent.proofs.Putting.{prints_then}
use Rattle.lent.proofs.Digits.{decimal_one, decimal_more}
use Rattle.std.proofs.Common.{arith}
use Rattle.lent.proofs.+print_decimal.Goals as goal

pub returns-then-n-lt10 : goal.returns-then-n-lt10
returns-then-n-lt10 t c = rw (decimal_one c.args.n c.if-n-lt10.true) c.print.ensures

pub returns : goal.returns
returns t c = rw (decimal_more c.args.n c.if-n-lt10.false (omega arith)) (prints_then c.print_decimal-last.ensures c.print-2.ensures)
