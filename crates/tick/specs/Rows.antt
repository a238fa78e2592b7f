-- The modules as a tick reads them: a row each, in working order.
use Rattle.std.specs.Prelude.{Bool, true, List, map, ◌≡◌, ℕ, length, get_or}
use Rattle.level.specs.Rule.{comes_to}
use Rattle.level.specs.Table.{start_of}
use Rattle.sheet.specs.declared.Module.{Module}
use Rattle.sheet.specs.Sheet.{no_module}
use Rattle.sheet.specs.Wiring.{module_rule}
use Rattle.model.specs.Passes.{input_values}
use Rattle.tick.specs.declared.row.Row.{Row}

-- what stands past the end
abbrev pub no_row : Row
no_row = record { «module» = no_module; start = 488; alone = true }

-- the row at position k
abbrev pub row_in : List Row → ℕ → Row
row_in rows k = get_or rows k no_row

-- the modules of the rows, and their starts
abbrev pub modules_in : List Row → List Module
modules_in rows = map (λ (r : Row). r.module) rows

abbrev pub starts_in : List Row → List ℕ
starts_in rows = map (λ (r : Row). r.start) rows

-- what a module comes to over the nodes' values, holding a value
abbrev pub comes_to_over : Module → List ℕ → ℕ → ℕ
comes_to_over m values held = comes_to (module_rule m) (input_values m values) held

-- a module's row is put to position k, its start that of the module's kind, and nothing else is touched
pub record ModulePut (rows : List Row) (k : ℕ) (m : Module) (alone : Bool) (rows' : List Row) : Type 0 where
  pub size : length rows' ≡ length rows
  pub module_there : (row_in rows' k).module ≡ m
  pub start_there : (row_in rows' k).start ≡ start_of m.kind
  pub alone_there : (row_in rows' k).alone ≡ alone
  pub others : (j : ℕ) → (j ≡ k → ⊥) → row_in rows' j ≡ row_in rows j
