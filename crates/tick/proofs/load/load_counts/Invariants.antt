-- `tick::load::load_counts` meets its contract. The loop's invariant: what the modules passed give is counted. Assumes nothing.
use Rattle.std.proofs.Common.{◌≡◌, ℕ, ◌<◌, length}
use Rattle.tick.specs.Tally.{CountedAt}
use Rattle.tick.proofs.load.load_counts.Given as goal

abbrev pub invariant-loop-k : goal.invariant-loop-k
invariant-loop-k l = (length l.counts ≡ 1024) × ((v : ℕ) → v < 256 → CountedAt l.rows l.k l.kept l.counts v)
