-- `load::load_values` meets its contract. The loop's invariant: the nodes passed have their first values. Assumes nothing.
use Rattle.std.proofs.Common.{◌≡◌, ℕ, ◌<◌, get_or}
use Rattle.tick.specs.Rest.{Levels}
use Rattle.load.specs.First.{first_of}
use Rattle.load.proofs.load_values.Given as goal

abbrev pub invariant-loop-v : goal.invariant-loop-v
invariant-loop-v l = ((u : ℕ) → u < l.v → get_or l.values u 0 ≡ first_of (get_or l.nodes u 0)) × Levels l.values
