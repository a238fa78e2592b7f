-- Document 02, W-208: a report is renumbered as a listing is: by changing only its node numbers and sorting by tick, then by node.
use Rattle.std.specs.Prelude.{List, map, ℕ}
use Rattle.network.specs.Renumbering.{sort}
use Rattle.pulses.specs.Pulse.{Pulse, pulse_key}

abbrev pub renumbered_pulse : (ℕ → ℕ) → Pulse → Pulse
renumbered_pulse to p = record { start = p.start; node = to p.node; ticks = p.ticks }

abbrev pub renumbered_report : (ℕ → ℕ) → List Pulse → List Pulse
renumbered_report to pulses = sort pulse_key (map (renumbered_pulse to) pulses)
