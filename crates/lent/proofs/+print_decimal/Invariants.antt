-- `lent::print_decimal` calls itself on a tenth of the number: the number is the measure. Assumes nothing.
use Rattle.lent.proofs.+print_decimal.Given as goal

abbrev pub decreases-print_decimal : goal.decreases-print_decimal
decreases-print_decimal l = l.n
