-- The value of a node before tick 0, by its byte.
use Rattle.std.specs.Prelude.{ℕ, eqb, if◌then◌else◌}
use Rattle.level.specs.Level.{unknown}
use Rattle.sheet.specs.Limits.{input_byte}

-- its initial value, and X for an input
abbrev pub first_of : ℕ → ℕ
first_of b = if eqb b input_byte then unknown else b
