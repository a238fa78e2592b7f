-- `pulses::room_answer` meets its contract: the report is too short, or it takes the pulses. Assumes nothing.
use borrow.Author.Tests.{lt-ltb, le-ltb}
use Rattle.std.proofs.Common.{length, ap, arith}
use Rattle.sheet.specs.Outcome.{finished, refused}
use Rattle.pulses.specs.Report.{report_bytes}
use Rattle.pulses.specs.Reporting.{report_short}
use Rattle.pulses.proofs.Length.{report_length}
use Rattle.pulses.proofs.reporting.room_answer.Goals as goal

pub returns-then-bytes-pulses : goal.returns-then-bytes-pulses
returns-then-bytes-pulses c made e =
    let a = c.args in
    rw (lt-ltb a.bytes (length (report_bytes made)) (omega (arith, c.if-bytes-pulses.true, report_length made, e))) (ap (λ n. refused report_short n a.records) e)

pub returns : goal.returns
returns c made e = rw (le-ltb c.args.bytes (length (report_bytes made)) (omega (arith, c.if-bytes-pulses.false, report_length made, e))) (ap finished e)
