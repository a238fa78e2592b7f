-- Document 02, W-208: the range of a width, and a report's bytes. Nothing else knows a pulse's size.
use Rattle.std.specs.Prelude.{List, ◌∷◌, ◌++◌, ℕ}
use Rattle.format.specs.Encode.{long_bytes, all_bytes}
use Rattle.pulses.specs.Pulse.{Pulse}

-- a width is from 1 to 10,000 ticks
abbrev pub greatest_width : ℕ
greatest_width = 10000

abbrev pub pulse_size : ℕ
pulse_size = 9

-- start tick (4 bytes), node, length (4 bytes)
abbrev pub pulse_bytes : Pulse → List ℕ
pulse_bytes p = long_bytes p.start ++ p.node ∷ long_bytes p.ticks

abbrev pub report_bytes : List Pulse → List ℕ
report_bytes pulses = all_bytes pulse_bytes pulses
