-- `reach::clear`: the rows passed have no flag. Assumes nothing.
use Rattle.std.proofs.Common.{false, ◌≡◌, ℕ, ◌<◌, [], length, get_or, replicate}
use Rattle.reach.proofs.clear.Given as goal

abbrev pub invariant-loop-row : goal.invariant-loop-row
invariant-loop-row l = (length l.reach ≡ 256) × ((a : ℕ) → a < l.row-index → get_or l.reach a [] ≡ replicate 256 false)
