-- Document 01, "Where each refusal is met", and document 02, W-208: a horizon or a width that is 0 or above its greatest is refused before anything
-- is read.
use Rattle.std.specs.Prelude.{Bool, ◌||◌, ℕ, eqb, ltb, if◌then◌else◌}
use Rattle.sheet.specs.Limits.{greatest_horizon}
use Rattle.sheet.specs.Outcome.{Outcome, finished, refused}

abbrev pub zero_or_above : ℕ → ℕ → Bool
zero_or_above greatest n = eqb n 0 || ltb greatest n

-- its place is 0
abbrev pub range_answer : ℕ → ℕ → ℕ → Outcome
range_answer number greatest n = if zero_or_above greatest n then refused number 0 0 else finished 0

-- 1 horizon 0 or above 1,000,000
abbrev pub horizon_answer : ℕ → Outcome
horizon_answer horizon = range_answer 1 greatest_horizon horizon
