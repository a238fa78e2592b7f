-- `read_nodes::watched::watched_section` meets its contract. The loop's invariant: the watched nodes passed are read, and the least that the next may be
-- is known. Assumes nothing.
use mathlib.Core.Path.{◌≡◌}
use Rattle.sheet.specs.Layout.{watched_place, watched_counted, watched_at}
use Rattle.sheet.specs.Refusal.{count_rows, watched_rows}
use Rattle.read_nodes.specs.Rising.{least_after}
use Rattle.read_nodes.proofs.Filling.{Reading}
use Rattle.read_nodes.proofs.watched.watched_section.Given as goal

abbrev pub invariant-loop-k : goal.invariant-loop-k
invariant-loop-k l =
    let e = l.fn.e in
    Reading (count_rows l.s (watched_place e l.s) 0 256) (watched_rows e l.s) 256 0 (watched_counted e l.s) (watched_at e l.s) l.count l.k l.records
    × (l.least ≡ least_after (watched_at e l.s) l.k)
