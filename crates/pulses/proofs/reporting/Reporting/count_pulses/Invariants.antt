-- `Reporting::count_pulses` meets its contract. The loop's invariant: the count is that of the pulses of the records passed. Assumes nothing.
use Rattle.std.proofs.Common.{◌≡◌, ◌≤◌, length}
use Rattle.pulses.specs.InListing.{pulses_in}
use Rattle.pulses.proofs.reporting.Reporting.count_pulses.Given as goal

abbrev pub invariant-loop-i : goal.invariant-loop-i
invariant-loop-i l =
    record {
      few : l.count ≤ l.i;
      counted : l.count ≡ length (pulses_in l.self.horizon l.self.width l.self.listing.now l.i);
    }
