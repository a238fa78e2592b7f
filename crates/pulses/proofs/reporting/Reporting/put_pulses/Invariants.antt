-- `Reporting::put_pulses` meets its contract. The loop's invariant: the pulses of the records passed are put. Assumes nothing.
use Rattle.lent.specs.Lent.{Puts}
use Rattle.pulses.specs.Report.{report_bytes}
use Rattle.pulses.specs.InListing.{pulses_in}
use Rattle.pulses.proofs.reporting.Reporting.put_pulses.Given as goal

abbrev pub invariant-loop-i : goal.invariant-loop-i
invariant-loop-i l = Puts (report_bytes (pulses_in l.self.horizon l.self.width l.self.listing.now l.i)) l.initial.out l.out
