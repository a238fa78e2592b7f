-- What holds of a sheet that a check does not refuse, whatever the order in which it is read:
-- all that document 01's refusals 2 to 18 rule out, 15 in a strict check alone, as document 02's W-203 has it, and without 9, as its
-- W-209 has it.
use mathlib.Core.List.{List, Memᴰ}
use Rattle.std.specs.Prelude.{◌⊎◌, ◌≡◌, ℕ, ◌<◌, ◌≤◌, length}
use Rattle.level.specs.Kind.{last_kind}
use Rattle.sheet.specs.declared.Edition.{Edition}
use Rattle.sheet.specs.declared.Module.{Module}
use Rattle.sheet.specs.declared.Event.{Event}
use Rattle.sheet.specs.Limits.{least_nodes, most_nodes, most_modules, most_events, most_watched, input_byte, last_value, longest_delay, last_tick}
use Rattle.sheet.specs.Sheet.{Sheet, node_count, node_byte, module_count, module_of, output_of, event_count, event_of, watched_count, watched_node}
use Rattle.sheet.specs.Wiring.{used_inputs, unused_inputs}
use Rattle.sheet.specs.Loop.{OnLoop}
use Rattle.sheet.specs.Layout.{first_edition, second_edition, sheet_end, sheet_of}
use Rattle.sheet.specs.Refusal.{greatest_parameter, key}

-- a module drives the node
pub record Driven (S : Sheet) (v : ℕ) : Type 0 where
  pub driver : ℕ
  pub listed : driver < module_count S
  pub output : output_of S driver ≡ v

-- an input is a node that no module drives
pub record Input (S : Sheet) (v : ℕ) : Type 0 where
  pub node : v < node_count S
  pub undriven : Driven S v → ⊥

-- a module's record by itself, among so many nodes
pub record SoundModule (nodes : ℕ) (m : Module) : Type 0 where
  pub kind : m.kind ≤ last_kind
  pub parameter : m.parameter ≤ greatest_parameter m.kind
  pub output : m.output < nodes
  pub used : (v : ℕ) → Memᴰ v (used_inputs m) → v < nodes
  pub unused : (v : ℕ) → Memᴰ v (unused_inputs m) → v ≡ 0
  pub delay : m.delay ≤ longest_delay

-- an event's record by itself
pub record SoundEvent (S : Sheet) (e : Event) : Type 0 where
  pub tick : e.tick ≤ last_tick
  pub node : Input S e.node
  pub value : e.value ≤ last_value

-- one event before another: by tick, then by node
abbrev pub Before : Event → Event → Type 0
Before a b = (a.tick < b.tick) ⊎ ((a.tick ≡ b.tick) × (a.node < b.node))

pub record Accepted (S : Sheet) : Type 0 where
  -- the counts' ranges
  pub some_node : least_nodes ≤ node_count S
  pub nodes : node_count S ≤ most_nodes
  pub modules : module_count S ≤ most_modules
  pub events : event_count S ≤ most_events
  pub watched : watched_count S ≤ most_watched
  -- the records' fields
  pub node_bytes : (v : ℕ) → v < node_count S → node_byte S v ≤ input_byte
  pub sound_modules : (m : ℕ) → m < module_count S → SoundModule (node_count S) (module_of S m)
  pub sound_events : (e : ℕ) → e < event_count S → SoundEvent S (event_of S e)
  pub watched_nodes : (k : ℕ) → k < watched_count S → watched_node S k < node_count S
  -- driven nodes have an initial value, and inputs have 4
  pub initial_values : (v : ℕ) → v < node_count S → Driven S v → node_byte S v ≤ last_value
  pub inputs : (v : ℕ) → Input S v → node_byte S v ≡ input_byte
  -- the drive rises strictly by tick and then by node
  pub drive_rises : (a b : ℕ) → a < b → b < event_count S → key (event_of S a) < key (event_of S b)
  -- the watched nodes rise
  pub watched_rise : (a b : ℕ) → a < b → b < watched_count S → watched_node S a < watched_node S b
  -- no zero-delay loop
  pub no_loop : (v : ℕ) → OnLoop S v → ⊥

-- the editions of the sheet that there are
pub data Known : Edition → Type 0 where
  the_first : Known first_edition
  the_second : Known second_edition

-- the kinds of a sheet's modules are an edition's
abbrev pub HasKinds : Edition → Sheet → Type 0
HasKinds e S = (m : ℕ) → m < module_count S → (module_of S m).kind ≤ e.greatest

-- Bytes that a check does not refuse in an edition: such a sheet stands in them, its kinds are the edition's,
-- and no byte is missing and none is left over.
pub record AcceptedIn (e : Edition) (s : List ℕ) : Type 0 where
  pub sheet : Accepted (sheet_of e s)
  pub kinds : HasKinds e (sheet_of e s)
  pub whole : length s ≡ sheet_end e s

-- an event at tick 0 drives the node
pub record DrivenAtStart (S : Sheet) (v : ℕ) : Type 0 where
  pub event : ℕ
  pub listed : event < event_count S
  pub tick : (event_of S event).tick ≡ 0
  pub node : (event_of S event).node ≡ v

-- Bytes that a strict check does not refuse either: every input is driven at tick 0 as well.
pub record StrictlyAcceptedIn (e : Edition) (s : List ℕ) : Type 0 where
  pub accepted : AcceptedIn e s
  pub driven_from_start : (v : ℕ) → Input (sheet_of e s) v → DrivenAtStart (sheet_of e s) v
