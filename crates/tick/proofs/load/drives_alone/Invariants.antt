-- `tick::load::drives_alone` meets its contract. The loop's invariant: no other of the modules passed drives the node. Assumes nothing.
use Rattle.std.proofs.Common.{◌≡◌, ℕ, ◌<◌}
use Rattle.model.specs.Passes.{module_in}
use Rattle.tick.proofs.load.drives_alone.Given as goal

abbrev pub invariant-loop-j : goal.invariant-loop-j
invariant-loop-j l = (i : ℕ) → i < l.j → (module_in l.modules i).output ≡ (module_in l.modules l.k).output → i ≡ l.k
