-- Numbers that are to rise: the least that the next may be is 0 at first, and then one more than the last.
use Rattle.std.specs.Prelude.{ℕ, zero, suc, ◌+◌}

abbrev pub least_after : (ℕ → ℕ) → ℕ → ℕ
least_after f zero = 0
least_after f (suc k) = f k + 1
