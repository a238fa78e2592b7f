-- `Reporting::put_record` meets its contract: the pulse is put, or nothing. Assumes nothing.
use Rattle.std.proofs.Common.{sym, ◌∙◌}
use Rattle.format.specs.Encode.{all_bytes}
use Rattle.lent.proofs.Putting.{puts_none}
use Rattle.pulses.proofs.reporting.Reporting.put_record.Goals as goal

pub returns-then-to_report : goal.returns-then-to_report
unfolding all_bytes
returns-then-to_report c = rw (sym c.to_report.ensures ∙ c.if-to_report.true) c.put_pulse.ensures

pub returns-else-to_report : goal.returns-else-to_report
unfolding all_bytes
returns-else-to_report c = rw (sym c.to_report.ensures ∙ c.if-to_report.false) (puts_none _)
