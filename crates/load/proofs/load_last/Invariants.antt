-- `load::load_last` meets its contract. The loop's invariant: the modules passed have their outputs' values. Assumes nothing.
use Rattle.std.proofs.Common.{◌≡◌, ℕ, ◌<◌, get_or}
use Rattle.model.specs.Passes.{module_in}
use Rattle.tick.specs.Rest.{Levels}
use Rattle.load.proofs.load_last.Given as goal

abbrev pub invariant-loop-k : goal.invariant-loop-k
invariant-loop-k l = ((j : ℕ) → j < l.k → get_or l.last j 0 ≡ get_or l.values (module_in l.modules j).output 0) × Levels l.last
