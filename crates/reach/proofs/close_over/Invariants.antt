-- `reach::close_over`: the rows passed are joined with row k where they lead to node k, and the rest are as they were. Assumes nothing.
use Rattle.std.proofs.Common.{false, ◌&&◌, ◌||◌, ◌≡◌, ℕ, ◌<◌, ◌≤◌, [], get_or}
use Rattle.reach.specs.Links.{entry}
use Rattle.reach.proofs.close_over.Given as goal

abbrev pub invariant-loop-row : goal.invariant-loop-row
invariant-loop-row l =
    ((a v : ℕ) → a < l.row-index → v < 256 → entry l.reach a v ≡ (entry l.initial.reach a v || entry l.initial.reach a l.k && get_or l.from_k v false))
    × ((a : ℕ) → l.row-index ≤ a → get_or l.reach a [] ≡ get_or l.initial.reach a [])
