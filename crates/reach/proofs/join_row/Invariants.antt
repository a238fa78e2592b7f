-- `reach::join_row`: the columns passed are joined, and the rest are as they were. Assumes nothing.
use Rattle.std.proofs.Common.{false, ◌||◌, ◌≡◌, ℕ, ◌<◌, ◌≤◌, get_or}
use Rattle.reach.proofs.join_row.Given as goal

abbrev pub invariant-loop-v : goal.invariant-loop-v
invariant-loop-v l =
    ((c : ℕ) → c < l.v → get_or l.row c false ≡ (get_or l.initial.row c false || get_or l.with c false))
    × ((c : ℕ) → l.v ≤ c → get_or l.row c false ≡ get_or l.initial.row c false)
