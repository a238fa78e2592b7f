-- A module's rule: how many inputs it uses, and what it does with the list of their values.
use Rattle.std.specs.Prelude.{Bool, List, ℕ, if◌then◌else◌}
use Rattle.level.specs.Gate.{input_at}

-- a gate of so many inputs, with a function of their values; a memory of two, with its set of values
pub data Rule : Type 0 where
  gate : ℕ → (List ℕ → ℕ) → Rule
  hold : (ℕ → Bool) → Rule

-- how many inputs it uses, from the first on
abbrev pub inputs_of : Rule → ℕ
inputs_of (gate n f) = n
inputs_of (hold set) = 2

-- What a rule comes to at the values of the inputs that it uses.
-- A memory comes to its first input where the second is in its set, and otherwise to the value that it held.
abbrev pub comes_to : Rule → List ℕ → ℕ → ℕ
comes_to (gate n f) inputs held = f inputs
comes_to (hold set) inputs held = if set (input_at inputs 1) then input_at inputs 0 else held
