-- `read_nodes::nodes::nodes_section` meets its contract. The loop's invariant: the nodes passed are read. Assumes nothing.
use Rattle.sheet.specs.Layout.{nodes_counted, node_at}
use Rattle.sheet.specs.Refusal.{count_rows, node_rows}
use Rattle.read_nodes.proofs.Filling.{Reading}
use Rattle.read_nodes.proofs.nodes.nodes_section.Given as goal

abbrev pub invariant-loop-v : goal.invariant-loop-v
invariant-loop-v l = Reading (count_rows l.s 0 1 256) (node_rows l.s) 256 0 (nodes_counted l.s) (node_at l.s) l.count l.v l.records
