-- How many pulses a record shows, and how long a report is. Assumes nothing.
use mathlib.Core.Bool.{true, false}
use mathlib.Core.List.{List}
use mathlib.Core.Path.{◌≡◌, refl}
use Prim.Native.Nat.{ℕ, ◌*◌}
use lib.ListN.{length}
use Rattle.format.proofs.AllBytes.{length-all_bytes}
use Rattle.network.specs.Ends.{Ended}
use Rattle.pulses.specs.Pulse.{Pulse, to_report}
use Rattle.pulses.specs.Report.{pulse_size, pulse_bytes, report_bytes}
use Rattle.pulses.specs.InListing.{pulse_in}

module _ (horizon width : ℕ) (r : Ended) where
  pub one_pulse : to_report horizon width r.start.tick r.end ≡ true → length (pulse_in horizon width r) ≡ 1
  one_pulse e = rw e

  pub no_pulse : to_report horizon width r.start.tick r.end ≡ false → length (pulse_in horizon width r) ≡ 0
  no_pulse e = rw e

pub report_length : (pulses : List Pulse) → length (report_bytes pulses) ≡ pulse_size * length pulses
report_length = length-all_bytes pulse_size pulse_bytes (λ p. refl)
