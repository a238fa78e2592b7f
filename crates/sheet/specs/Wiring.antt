-- Document 01, "Modules" and "Working and renumbering": a module's inputs and rule, which nodes are driven,
-- and which are inputs of the sheet.
use Rattle.std.specs.Prelude.{Bool, ◌&&◌, not, ℕ, eqb, ltb, take, drop}
use mathlib.Core.List.{List, [], ◌∷◌, Memᴰ}
use Rattle.level.specs.Rule.{Rule, inputs_of}
use Rattle.level.specs.Kind.{rule_of}
use Rattle.sheet.specs.declared.Module.{Module}
use Rattle.sheet.specs.Enumerate.{any_below}
use Rattle.sheet.specs.Sheet.{Sheet, node_count, module_count, module_of, output_of, event_count, event_of}

-- the inputs that a record has, used or not
abbrev pub inputs : Module → List ℕ
inputs m = m.first ∷ m.second ∷ m.third ∷ []

abbrev pub module_rule : Module → Rule
module_rule m = rule_of m.kind m.parameter

-- a used input is one that the module's kind has
abbrev pub used_inputs : Module → List ℕ
used_inputs m = take (inputs_of (module_rule m)) (inputs m)

abbrev pub unused_inputs : Module → List ℕ
unused_inputs m = drop (inputs_of (module_rule m)) (inputs m)

-- one of the first n modules drives the node
abbrev pub driven_by : Sheet → ℕ → ℕ → Bool
driven_by S n v = any_below n (λ m. eqb (output_of S m) v)

abbrev pub is_driven : Sheet → ℕ → Bool
is_driven S v = driven_by S (module_count S) v

-- an input is a node that no module drives
abbrev pub is_input : Sheet → ℕ → Bool
is_input S v = ltb v (node_count S) && not (is_driven S v)

-- one of the first n events drives the node at tick 0
abbrev pub started_by : Sheet → ℕ → ℕ → Bool
started_by S n v = any_below n (λ e. eqb (event_of S e).tick 0 && eqb (event_of S e).node v)

abbrev pub driven_at_start : Sheet → ℕ → Bool
driven_at_start S v = started_by S (event_count S) v

-- module a drives a used input of module b
abbrev pub DrivesInput : Sheet → ℕ → ℕ → Type 0
DrivesInput S a b = Memᴰ (output_of S a) (used_inputs (module_of S b))
