-- The modules' records in an order.
use Rattle.std.specs.Prelude.{List, ◌++◌, map, ℕ, get_or, take, drop}
use Rattle.sheet.specs.declared.Module.{Module}
use Rattle.sheet.specs.Sheet.{no_module}

abbrev pub record_at : List Module → ℕ → Module
record_at records m = get_or records m no_module

-- at each position the record whose number stands there in the order
abbrev pub in_order : List Module → List ℕ → List Module
in_order records order = map (record_at records) order

-- the first n records in the order, and the rest as they are
abbrev pub first_in_order : List Module → List ℕ → ℕ → List Module
first_in_order records order n = in_order records (take n order) ++ drop n records
