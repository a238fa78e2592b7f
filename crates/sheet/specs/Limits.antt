-- Document 01's limits, each named once. What follows from them is computed from these names.
use Rattle.std.specs.Prelude.{ℕ}

-- "The sheet": the ranges of the counts
abbrev pub least_nodes : ℕ
least_nodes = 1

abbrev pub most_nodes : ℕ
most_nodes = 256

abbrev pub most_modules : ℕ
most_modules = 256

abbrev pub most_events : ℕ
most_events = 1024

abbrev pub most_watched : ℕ
most_watched = 256

-- the byte of a node that is an input; below it stand initial values
abbrev pub input_byte : ℕ
input_byte = 4

-- the greatest value of a cell
abbrev pub last_value : ℕ
last_value = 3

-- "Modules": delay d is 0 to 10,000
abbrev pub longest_delay : ℕ
longest_delay = 10000

-- "Where each refusal is met": the last tick of an event
abbrev pub last_tick : ℕ
last_tick = 999999

-- "Time and values": a run to horizon H, 1 to 1,000,000
abbrev pub greatest_horizon : ℕ
greatest_horizon = 1000000

-- "The listing": the most changes that may be pending after a tick
abbrev pub pending_limit : ℕ
pending_limit = 4096
