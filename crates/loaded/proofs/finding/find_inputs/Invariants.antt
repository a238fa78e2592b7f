-- `loaded::finding::find_inputs` meets its contract. The loop's invariant: the inputs among the nodes passed are put. Assumes nothing.
use Rattle.std.proofs.Common.{eqb}
use Rattle.sheet.specs.Enumerate.{chosen}
use Rattle.sheet.specs.Layout.{node_at}
use Rattle.sheet.specs.Limits.{input_byte}
use Rattle.lent.specs.Lent.{Puts}
use Rattle.loaded.proofs.finding.find_inputs.Given as goal

abbrev pub invariant-loop-v : goal.invariant-loop-v
invariant-loop-v l = Puts (chosen l.v (λ u. eqb (node_at l.sheet u) input_byte) (λ u. u)) l.initial.inputs l.inputs
