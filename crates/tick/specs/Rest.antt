-- What the passes of a tick rest on: known modules, their kinds' starts, values 0 to 3, and a drive whose ticks do not fall.
use mathlib.Core.List.{List, Memᴰ}
use Rattle.std.specs.Prelude.{◌≡◌, ℕ, ◌<◌, ◌≤◌, length, get_or}
use Rattle.level.specs.Kind.{last_kind}
use Rattle.level.specs.Table.{start_of}
use Rattle.sheet.specs.declared.Module.{Module}
use Rattle.sheet.specs.declared.Event.{Event}
use Rattle.sheet.specs.Limits.{most_nodes, last_value}
use Rattle.sheet.specs.Refusal.{greatest_parameter}
use Rattle.model.specs.Change.{Change}
use Rattle.model.specs.Drive.{event_in}
use Rattle.model.specs.Passes.{module_in}
use Rattle.tick.specs.declared.row.Row.{Row}
use Rattle.tick.specs.Rows.{row_in}

-- a kind that has a rule, and a parameter that it allows
pub record Known (kind parameter : ℕ) : Type 0 where
  pub has_rule : kind ≤ last_kind
  pub allowed : parameter ≤ greatest_parameter kind

abbrev pub AllKnown : List Module → Type 0
AllKnown modules = (k : ℕ) → k < length modules → Known (module_in modules k).kind (module_in modules k).parameter

-- the start that is kept at each position is that of the kind there
abbrev pub StartsIn : List Row → Type 0
StartsIn rows = (k : ℕ) → k < length rows → (row_in rows k).start ≡ start_of (row_in rows k).module.kind

-- the values of all nodes that there may be, or of as many modules
pub record Levels (values : List ℕ) : Type 0 where
  pub size : length values ≡ most_nodes
  pub each : (v : ℕ) → get_or values v 0 < 4

pub record Driving (drive : List Event) : Type 0 where
  pub values : (e : ℕ) → e < length drive → (event_in drive e).value ≤ last_value
  pub ticks : (a b : ℕ) → a < b → b < length drive → (event_in drive a).tick ≤ (event_in drive b).tick

-- each change is of one of the first n modules
abbrev pub Placed : ℕ → List Change → Type 0
Placed n changes = (x : Change) → Memᴰ x changes → x.position < n
