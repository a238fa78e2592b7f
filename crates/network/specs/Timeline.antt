-- Document 01, "Time and values" and "Modules", with document 02's W-203 and W-209: cells, an input's cell from the drive, what a module
-- contributes to its output node, and a driven node's cell from the contributions of all its drivers.
use Rattle.std.specs.Prelude.{Bool, ◌&&◌, List, [], ◌∷◌, map, ℕ, zero, suc, ◌-◌, eqb, ltb, if◌then◌else◌}
use Rattle.level.specs.Level.{unknown}
use Rattle.level.specs.Gate.{input_at}
use Rattle.level.specs.Join.{joined}
use Rattle.level.specs.Rule.{Rule, gate, hold}
use Rattle.sheet.specs.declared.Module.{Module}
use Rattle.sheet.specs.declared.Event.{Event}
use Rattle.sheet.specs.Enumerate.{chosen}
use Rattle.sheet.specs.Sheet.{Sheet, node_byte, module_count, module_of, output_of}
use Rattle.sheet.specs.Wiring.{module_rule, used_inputs}

-- cell t of a node is its value from just after tick t up to and including tick t + 1: by tick, then by node
abbrev pub Cells : Type 0
Cells = ℕ → ℕ → ℕ

-- one node's cells, by tick
abbrev pub Timeline : Type 0
Timeline = ℕ → ℕ

-- the value of the event at a tick on a node, and what was there before where there is none
unfoldable pub given : List Event → ℕ → ℕ → ℕ → ℕ
given [] v t before = before
given (e ∷ es) v t before = if eqb e.tick t && eqb e.node v then e.value else given es v t before

-- An input's cell t is the value of its latest drive event with tick at most t, and X until its first event.
unfoldable pub drive_cell : List Event → ℕ → Timeline
drive_cell drive v zero = given drive v zero unknown
drive_cell drive v (suc t) = given drive v (suc t) (drive_cell drive v t)

-- the greatest tick not above u at which the test passes, if there is one
pub data Latest : Type 0 where
  never : Latest
  at : ℕ → Latest

unfoldable pub latest : (ℕ → Bool) → ℕ → Latest
latest test zero = if test zero then at zero else never
latest test (suc u) = if test (suc u) then at (suc u) else latest test u

-- a timeline's cell at that tick; if there is none, the initial value
abbrev pub cell_at : Timeline → ℕ → Latest → ℕ
cell_at a initial never = initial
cell_at a initial (at u) = a u

-- What a module comes to at tick u, before its delay: the rule over its used inputs' cells u.
-- For a memory, cell u of the first input, u being the greatest tick at which the second input's cell is in the set.
abbrev pub comes_to_at : Rule → (ℕ → List ℕ) → ℕ → Timeline
comes_to_at (gate n f) inputs initial u = f (inputs u)
comes_to_at (hold set) inputs initial u = cell_at (λ w. input_at (inputs w) 0) initial (latest (λ w. set (input_at (inputs w) 1)) u)

-- Cell t of the output: that of t - d where t is at least d, and the node's initial value before.
abbrev pub output_cell : Rule → ℕ → (ℕ → List ℕ) → ℕ → Timeline
output_cell rule d inputs initial t = if ltb t d then initial else comes_to_at rule inputs initial (t - d)

-- the cells of a module's used inputs at a tick
abbrev pub input_cells : Cells → Module → ℕ → List ℕ
input_cells c m u = map (c u) (used_inputs m)

-- A module's contribution to its output node, over cells.
abbrev pub contribution : Sheet → Cells → ℕ → Timeline
contribution S c m t =
    output_cell (module_rule (module_of S m)) (module_of S m).delay (input_cells c (module_of S m)) (node_byte S (output_of S m)) t

-- the same by tick, then by module
abbrev pub contributions : Sheet → Cells → ℕ → ℕ → ℕ
contributions S c t m = contribution S c m t

-- what modules give, of those that drive a node, in the order in which they are listed
abbrev pub from_drivers : Sheet → (ℕ → ℕ) → ℕ → List ℕ
from_drivers S give v = chosen (module_count S) (λ m. eqb (output_of S m) v) give

-- A driven node's cell joins the contributions of all its drivers.
abbrev pub driven_cell : Sheet → Cells → ℕ → Timeline
driven_cell S c v t = joined (from_drivers S (contributions S c t) v)
