-- The pulses that the records of a listing show: a record has both ends of its stretch.
use Rattle.std.specs.Prelude.{List, [], ◌∷◌, ℕ, ◌*◌, if◌then◌else◌}
use Rattle.sheet.specs.Enumerate.{each}
use Rattle.network.specs.Ends.{Ended}
use Rattle.network.specs.Buffer.{record_size, record_in}
use Rattle.pulses.specs.Pulse.{Pulse, to_report, pulse_of}

-- the pulse of a record, if it is to be reported
abbrev pub pulse_in : ℕ → ℕ → Ended → List Pulse
pulse_in horizon width r =
    if to_report horizon width r.start.tick r.end then pulse_of r.start.tick r.start.node r.end ∷ [] else []

-- those of the first n records in a listing's bytes
abbrev pub pulses_in : ℕ → ℕ → List ℕ → ℕ → List Pulse
pulses_in horizon width listing n = each n (λ i. pulse_in horizon width (record_in listing (record_size * i)))
