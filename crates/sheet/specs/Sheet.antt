-- Document 01, "The sheet": four sections in this order, whatever the bytes in which they stand, and their parts by number.
use Rattle.std.specs.Prelude.{List, ℕ, length, get_or}
use Rattle.sheet.specs.declared.Module.{Module}
use Rattle.sheet.specs.declared.Event.{Event}

pub record Sheet : Type 0 where
  pub nodes : List ℕ
  pub modules : List Module
  pub drive : List Event
  pub watched : List ℕ

-- nodes are numbered from 0 in section order; a node's byte is its initial value, or 4 for an input
abbrev pub node_count : Sheet → ℕ
node_count S = length S.nodes

abbrev pub node_byte : Sheet → ℕ → ℕ
node_byte S v = get_or S.nodes v 0

-- what stands past the end
abbrev pub no_module : Module
no_module = record { kind = 0; parameter = 0; output = 0; first = 0; second = 0; third = 0; delay = 0 }

abbrev pub module_count : Sheet → ℕ
module_count S = length S.modules

abbrev pub module_of : Sheet → ℕ → Module
module_of S m = get_or S.modules m no_module

abbrev pub output_of : Sheet → ℕ → ℕ
output_of S m = (module_of S m).output

abbrev pub no_event : Event
no_event = record { tick = 0; node = 0; value = 0 }

abbrev pub event_count : Sheet → ℕ
event_count S = length S.drive

abbrev pub event_of : Sheet → ℕ → Event
event_of S e = get_or S.drive e no_event

abbrev pub watched_count : Sheet → ℕ
watched_count S = length S.watched

abbrev pub watched_node : Sheet → ℕ → ℕ
watched_node S k = get_or S.watched k 0
