-- `text::line::put_lines` meets its contract. The loop's invariant: the lines of the records passed are put. Assumes nothing.
use Rattle.lent.specs.Lent.{Puts}
use Rattle.text.specs.Printing.{record_lines}
use Rattle.text.proofs.line.put_lines.Given as goal

abbrev pub invariant-loop-i : goal.invariant-loop-i
invariant-loop-i l = Puts (record_lines l.i l.listing) l.initial.out l.out
