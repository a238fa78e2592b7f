-- The drive's events of a tick, put into the nodes' values. Events rise by tick, so those of a tick stand together.
use Rattle.std.specs.Prelude.{List, ℕ, zero, suc, ◌+◌, ◌-◌, ltb, length, get_or, set, if◌then◌else◌}
use Rattle.sheet.specs.declared.Event.{Event}
use Rattle.sheet.specs.Sheet.{no_event}

-- the event of a number
abbrev pub event_in : List Event → ℕ → Event
event_in drive e = get_or drive e no_event

-- how many of the first n events have a tick below t
unfoldable pub events_below : List Event → ℕ → ℕ → ℕ
events_below drive t zero = zero
events_below drive t (suc n) = events_below drive t n + (if ltb (event_in drive n).tick t then 1 else 0)

-- the number of the first event that is not before tick t
abbrev pub next_event : List Event → ℕ → ℕ
next_event drive t = events_below drive t (length drive)

-- j events from number e on, put into the values
unfoldable pub driven : List Event → ℕ → ℕ → List ℕ → List ℕ
driven drive e zero values = values
driven drive e (suc j) values = set (driven drive e j values) (event_in drive (e + j)).node (event_in drive (e + j)).value

abbrev pub drive_tick : List Event → ℕ → List ℕ → List ℕ
drive_tick drive t values = driven drive (next_event drive t) (next_event drive (suc t) - next_event drive t) values
