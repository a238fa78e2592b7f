-- `read_nodes::nodes::nodes_section` meets its contract: the count, and then the nodes one by one. Assumes nothing.
use mathlib.Core.Path.{refl}
use native.Mathlib.Omega.{arith}
use Rattle.std.proofs.lemmas.Result.{err_from_is_err_and}
use Rattle.sheet.proofs.Told.{stopped}
use Rattle.read_nodes.proofs.Filling.{begun, one_more, stopped_at, all_passed, all_held}
use Rattle.read_nodes.proofs.nodes.nodes_section.Goals as goal

pub returns-in_err-count : goal.returns-in_err-count
returns-in_err-count c =
    let met = rw c.requires at c.in_err-count.ensures in
    let p = err_from_is_err_and c.from_residual.result c.from_residual.ensures.1 in
    rw (p.1, p.2) (stopped _ _ _ met)

pub loop-v-init : goal.loop-v-init
loop-v-init c = begun (rw c.requires at c.in_ok-count.ensures)

pub returns-in_err-records : goal.returns-in_err-records
returns-in_err-records c =
    let met = c.in_err-records.ensures c.loop-v.v (omega arith) in
    let p = err_from_is_err_and c.from_residual-in_err-records.result c.from_residual-in_err-records.ensures.1 in
    rw (p.1, p.2) (stopped_at c.loop-v.invariant _ (omega arith) met)

pub loop-v-preserved : goal.loop-v-preserved
loop-v-preserved c = let told = c.in_ok-records.ensures c.loop-v.v (omega arith) in one_more c.loop-v.invariant (omega arith) told.0 told.1

pub returns : goal.returns
returns c =
    let read = c.loop-v.invariant in
    (all_passed read (omega arith) (omega arith), all_held read (omega arith) (omega arith) _ refl refl)
