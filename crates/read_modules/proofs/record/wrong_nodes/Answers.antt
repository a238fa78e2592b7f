-- `read_modules::record::wrong_nodes` meets its contract: the test of all nodes, node by node. Assumes nothing.
use mathlib.Core.Bool.{◌||◌}
use mathlib.Core.Path.{◌≡◌, sym, ◌∙◌}
use borrow.Author.Tests.{le-leb, lt-leb}
use lib.Dec.{leb, ltb}
use Rattle.read_modules.proofs.Wiring.{wrong, by_node}
use Rattle.read_modules.proofs.record.wrong_nodes.Goals as goal
use Rattle.read_modules.proofs.record.wrong_nodes.Goals.{then-nodes-m, else-nodes-m, then-wrong_input, else-wrong_input}

pub returns-then-wrong_input-2 : goal.returns-then-wrong_input-2
returns-then-wrong_input-2 c =
    let one : c.if-nodes-m.value ≡ (leb c.args.nodes c.args.m.output || wrong c.args.nodes (ltb 0 c.inputs-n.result) c.args.m.first) =
    elim c.if-nodes-m.branch [
      | then-nodes-m w ↦ simp (w.value-is, le-leb _ _ w.if-nodes-m.true)
      | else-nodes-m w ↦ simp (w.value-is, lt-leb _ _ w.if-nodes-m.false, w.wrong_input.ensures)
    ] in
    let two : c.if-wrong_input.value ≡ (c.if-nodes-m.value || wrong c.args.nodes (ltb 1 c.inputs-n.result) c.args.m.second) =
    elim c.if-wrong_input.branch [
      | then-wrong_input w ↦ simp (w.value-is, w.if-wrong_input.true)
      | else-wrong_input w ↦ simp (w.value-is, w.if-wrong_input.false, w.wrong_input-else-wrong_input.ensures)
    ] in
    sym (by_node _ c.args.m _ (c.inputs-n.ensures _) ∙ simp (← one, ← two, c.if-wrong_input-2.true))

pub returns-else-wrong_input-2 : goal.returns-else-wrong_input-2
returns-else-wrong_input-2 c =
    let one : c.if-nodes-m.value ≡ (leb c.args.nodes c.args.m.output || wrong c.args.nodes (ltb 0 c.inputs-n.result) c.args.m.first) =
    elim c.if-nodes-m.branch [
      | then-nodes-m w ↦ simp (w.value-is, le-leb _ _ w.if-nodes-m.true)
      | else-nodes-m w ↦ simp (w.value-is, lt-leb _ _ w.if-nodes-m.false, w.wrong_input.ensures)
    ] in
    let two : c.if-wrong_input.value ≡ (c.if-nodes-m.value || wrong c.args.nodes (ltb 1 c.inputs-n.result) c.args.m.second) =
    elim c.if-wrong_input.branch [
      | then-wrong_input w ↦ simp (w.value-is, w.if-wrong_input.true)
      | else-wrong_input w ↦ simp (w.value-is, w.if-wrong_input.false, w.wrong_input-else-wrong_input.ensures)
    ] in
    sym (by_node _ c.args.m _ (c.inputs-n.ensures _) ∙ simp (← one, ← two, c.if-wrong_input-2.false, c.wrong_input-else-wrong_input-2.ensures))
