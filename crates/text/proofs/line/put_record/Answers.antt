-- `text::line::put_record` meets its contract: tick, node, value, end and a newline, one after another. Assumes nothing.
use Rattle.std.proofs.Common.{subst}
use Rattle.lent.specs.Lent.{Puts}
use Rattle.text.specs.Printing.{record_line}
use Rattle.lent.proofs.Putting.{puts_then}
use Rattle.text.proofs.line.put_record.Goals as goal

pub returns : goal.returns
returns c =
    subst
    (λ r. Puts (record_line r) c.args.out.now c.put-3.new.self)
    c.record_at-record.ensures
    (puts_then
    (puts_then
    (puts_then c.put_decimal.ensures c.put_field.ensures)
    (puts_then c.put.ensures (puts_then (rw c.value_byte.ensures at c.put-2.ensures) c.put_field-2.ensures)))
    c.put-3.ensures)
