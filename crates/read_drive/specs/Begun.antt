-- A node has begun if a module drives it or it has an event at tick 0; the code flags those that have.
use Rattle.std.specs.Prelude.{Bool, true, false, not, List, [], ◌∷◌, ℕ, eqb, get_or, set, if◌then◌else◌}
use Rattle.sheet.specs.declared.Event.{Event}
use Rattle.sheet.specs.Enumerate.{each}
use Rattle.sheet.specs.Refusal.{Row, ◌at◌when◌}

-- the flags after one event more
abbrev pub begun_by : Event → List Bool → List Bool
begun_by event flags = if eqb event.tick 0 then set flags event.node true else flags

-- after the drive, by the flags, in a strict check alone: input without an event at tick 0
abbrev pub unbegun_rows : List Bool → ℕ → List Row
unbegun_rows flags v = (15 at v when not (get_or flags v false)) ∷ []

abbrev pub unbegun_section : Bool → ℕ → List Bool → List Row
unbegun_section strict nodes flags = if strict then each nodes (unbegun_rows flags) else []
