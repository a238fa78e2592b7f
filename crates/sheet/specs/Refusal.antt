-- Document 01, "Where each refusal is met", with document 02's W-203 and W-209: refusals 2 to 18, row by row in the order of the table,
-- and the answer of a check. A strict check has the row of 15; a check that is not strict, and so a run, has all the others. A node may
-- have several drivers, so the row of 9 is there no more.
use Rattle.std.specs.Prelude.{Bool, true, false, ◌&&◌, ◌||◌, not, List, [], ◌∷◌, ◌++◌, ℕ, zero, suc, ◌+◌, ◌*◌, eqb, leb, ltb, length, if◌then◌else◌}
use Rattle.sheet.specs.declared.Edition.{Edition}
use Rattle.sheet.specs.declared.Module.{Module}
use Rattle.sheet.specs.declared.Event.{Event}
use Rattle.sheet.specs.Enumerate.{any_of, each}
use Rattle.sheet.specs.Limits.{least_nodes, most_nodes, most_modules, most_events, most_watched}
use Rattle.sheet.specs.Limits.{input_byte, last_value, longest_delay, last_tick}
use Rattle.sheet.specs.Bytes.{word_at, ends_inside}
use Rattle.sheet.specs.Sheet.{Sheet, node_count}
use Rattle.sheet.specs.Layout.{count_size, event_size, nodes_counted, node_place, node_at}
use Rattle.sheet.specs.Layout.{modules_place, modules_counted, module_place, module_at, drive_place, events_counted, event_place, event_at}
use Rattle.sheet.specs.Layout.{watched_place, watched_counted, watch_place, watched_at, sheet_end, sheet_of}
use Rattle.sheet.specs.Outcome.{Outcome, finished, refused}
use Rattle.sheet.specs.Wiring.{used_inputs, unused_inputs, is_driven, is_input, driven_at_start}
use Rattle.sheet.specs.Loop.{is_on_loop}

infix 20 ◌at◌when◌
-- A row of the table at one place of the sheet: the refusal's number, its place, and whether its condition is met there.
pub record Row : Type 0 where
  pub number : ℕ
  pub place : ℕ
  pub met : Bool

abbrev pub ◌at◌when◌ : ℕ → ℕ → Bool → Row
number at place when met = record { number = number; place = place; met = met }

-- each count: outside its range
abbrev pub outside : ℕ → ℕ → ℕ → Bool
outside least greatest n = ltb n least || ltb greatest n

abbrev pub count_rows : List ℕ → ℕ → ℕ → ℕ → List Row
count_rows s p least greatest =
    (2 at p when ends_inside s p count_size)
    ∷ (3 at p when outside least greatest (word_at s p))
    ∷ []

-- a node: byte above 4
abbrev pub node_rows : List ℕ → ℕ → List Row
node_rows s v =
    (2 at node_place v when ends_inside s (node_place v) 1)
    ∷ (4 at node_place v when ltb input_byte (node_at s v))
    ∷ []

-- the parameter is 0 except for kinds 0 and 9, where it is at most 3 and at most 15
abbrev pub greatest_parameter : ℕ → ℕ
greatest_parameter kind = if eqb kind 0 then 3 else if eqb kind 9 then 15 else 0

-- output or used input is no node, or unused input not 0
abbrev pub miswired : ℕ → Module → Bool
miswired nodes m = any_of (leb nodes) (m.output ∷ used_inputs m) || any_of (ltb 0) (unused_inputs m)

-- The rest goes by the edition and the sheet that stands in the bytes.
-- a module: kind above the edition's greatest; parameter not allowed; wrong wiring; delay above 10,000
abbrev pub module_rows : Edition → List ℕ → ℕ → List Row
module_rows e s m =
    (2 at module_place e s m when ends_inside s (module_place e s m) e.size)
    ∷ (5 at module_place e s m when ltb e.greatest (module_at e s m).kind)
    ∷ (6 at module_place e s m when ltb (greatest_parameter (module_at e s m).kind) (module_at e s m).parameter)
    ∷ (7 at module_place e s m when miswired (nodes_counted s) (module_at e s m))
    ∷ (8 at module_place e s m when ltb longest_delay (module_at e s m).delay)
    ∷ []

-- after the modules: driven node with byte 4, or undriven node with 0 to 3
abbrev pub start_rows : Edition → List ℕ → ℕ → List Row
start_rows e s v =
    (10 at v when is_driven (sheet_of e s) v && eqb (node_at s v) input_byte
    || not (is_driven (sheet_of e s) v) && ltb (node_at s v) input_byte) ∷ []

-- by tick, then by node: nodes are bytes
abbrev pub key : Event → ℕ
key e = 256 * e.tick + e.node

-- not above the event before, by tick and then by node
unfoldable pub not_above_event : Edition → List ℕ → ℕ → Bool
not_above_event e s zero = false
not_above_event e s (suc k) = leb (key (event_at e s (suc k))) (key (event_at e s k))

-- a drive event: tick above 999,999; not an input of the sheet; value above 3; not above the event before
abbrev pub event_rows : Edition → List ℕ → ℕ → List Row
event_rows e s k =
    (2 at event_place e s k when ends_inside s (event_place e s k) event_size)
    ∷ (11 at event_place e s k when ltb last_tick (event_at e s k).tick)
    ∷ (12 at event_place e s k when not (is_input (sheet_of e s) (event_at e s k).node))
    ∷ (13 at event_place e s k when ltb last_value (event_at e s k).value)
    ∷ (14 at event_place e s k when not_above_event e s k)
    ∷ []

-- after the drive, in a strict check alone: input without an event at tick 0
abbrev pub first_event_rows : Edition → List ℕ → ℕ → List Row
first_event_rows e s v = (15 at v when is_input (sheet_of e s) v && not (driven_at_start (sheet_of e s) v)) ∷ []

-- not above the watched node before
unfoldable pub not_above_watched : Edition → List ℕ → ℕ → Bool
not_above_watched e s zero = false
not_above_watched e s (suc k) = leb (watched_at e s (suc k)) (watched_at e s k)

-- a watched node: no such node, or not above the one before
abbrev pub watched_rows : Edition → List ℕ → ℕ → List Row
watched_rows e s k =
    (2 at watch_place e s k when ends_inside s (watch_place e s k) 1)
    ∷ (16 at watch_place e s k when leb (nodes_counted s) (watched_at e s k) || not_above_watched e s k)
    ∷ []

-- after the watched: bytes left over; then a zero-delay loop
abbrev pub left_over_rows : Edition → List ℕ → List Row
left_over_rows e s = (17 at sheet_end e s when ltb (sheet_end e s) (length s)) ∷ []

abbrev pub loop_rows : Sheet → ℕ → List Row
loop_rows S v = (18 at v when is_on_loop S v) ∷ []

-- The sections front to back. The least node with a condition is the first, since nodes rise.
abbrev pub nodes_section : List ℕ → List Row
nodes_section s = count_rows s 0 least_nodes most_nodes ++ each (nodes_counted s) (node_rows s)

abbrev pub modules_section : Edition → List ℕ → List Row
modules_section e s = count_rows s (modules_place s) 0 most_modules ++ each (modules_counted s) (module_rows e s)

abbrev pub drive_section : Edition → List ℕ → List Row
drive_section e s = count_rows s (drive_place e s) 0 most_events ++ each (events_counted e s) (event_rows e s)

abbrev pub first_events_section : Bool → Edition → List ℕ → List Row
first_events_section strict e s = if strict then each (nodes_counted s) (first_event_rows e s) else []

abbrev pub watched_section : Edition → List ℕ → List Row
watched_section e s = count_rows s (watched_place e s) 0 most_watched ++ each (watched_counted e s) (watched_rows e s)

unfoldable pub bytes_rows : Bool → Edition → List ℕ → List Row
bytes_rows strict e s =
    nodes_section s
    ++ modules_section e s
    ++ each (nodes_counted s) (start_rows e s)
    ++ drive_section e s
    ++ first_events_section strict e s
    ++ watched_section e s
    ++ left_over_rows e s

-- then the sheet's loops, node by node
abbrev pub loops_section : Sheet → List Row
loops_section S = each (node_count S) (loop_rows S)

unfoldable pub rows : Bool → Edition → List ℕ → List Row
rows strict e s = bytes_rows strict e s ++ loops_section (sheet_of e s)

-- the first row whose condition is met; without one, a finished call with count 0
unfoldable pub first : List Row → Outcome
first [] = finished 0
first (r ∷ rs) = if r.met then refused r.number r.place 0 else first rs

-- what checking a sheet answers, strictly or not
unfoldable pub checked_by : Bool → Edition → List ℕ → Outcome
checked_by strict e s = first (rows strict e s)

abbrev pub checked : Edition → List ℕ → Outcome
checked e s = checked_by false e s

abbrev pub checked_strictly : Edition → List ℕ → Outcome
checked_strictly e s = checked_by true e s
