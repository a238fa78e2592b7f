-- `read_modules::node_bytes::first_byte_refusal` meets its contract. Assumes nothing.
use mathlib.Core.Path.{sym}
use Rattle.std.proofs.lemmas.Result.{err_from_is_err_and}
use Rattle.sheet.proofs.Rows.{none_yet, passed_each}
use Rattle.sheet.proofs.Told.{stopped_each}
use Rattle.read_modules.proofs.node_bytes.first_byte_refusal.Goals as goal
use Rattle.read_modules.proofs.node_bytes.first_byte_refusal.Invariants.{rows}

pub loop-v-init : goal.loop-v-init
loop-v-init c = none_yet _

pub returns-in_err-byte_refusal : goal.returns-in_err-byte_refusal
returns-in_err-byte_refusal c =
    let p = err_from_is_err_and c.from_residual.result c.from_residual.ensures.1 in
    let met = sym c.in_err-byte_refusal.ensures in
    rw (p.1, p.2) (sym (stopped_each _ (rows c.args.nodes.now c.args.driven.now) _ _ c.loop-v-test.true c.loop-v.invariant met))

pub loop-v-preserved : goal.loop-v-preserved
loop-v-preserved c =
    passed_each (rows c.args.nodes.now c.args.driven.now) _ c.loop-v.invariant (sym c.in_ok-byte_refusal.ensures)
