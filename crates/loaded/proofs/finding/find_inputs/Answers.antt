-- `loaded::finding::find_inputs` meets its contract. Assumes nothing.
use Rattle.std.proofs.Common.{◌≡◌, arith, rules, add-one, eq-eqb, ne_eqb, sym, ◌∙◌}
use Rattle.lent.proofs.Putting.{puts_none, puts_then, from_start}
use Rattle.sheet.specs.Enumerate.{each}
use Rattle.sheet.specs.Layout.{node_at}
use Rattle.sheet.specs.Limits.{input_byte}
use Rattle.loaded.proofs.finding.find_inputs.Goals as goal
use Rattle.loaded.proofs.finding.find_inputs.Goals.{then-byte-eq-INPUT, else-byte-eq-INPUT}

pub loop-v-init : goal.loop-v-init
unfolding each
loop-v-init c = puts_none _

pub loop-v-preserved : goal.loop-v-preserved
unfolding each
loop-v-preserved c =
    let v = c.loop-v.v in
    let byte = sym c.byte.ensures in
    elim c.if-byte-eq-INPUT.branch [
      | then-byte-eq-INPUT w ↦ rw (add-one v, eq-eqb (node_at c.args.sheet.now v) input_byte (byte ∙ w.if-byte-eq-INPUT.true), w.inputs-is) (puts_then c.loop-v.invariant w.put.ensures)
      | else-byte-eq-INPUT w ↦ rw (add-one v, ne_eqb (node_at c.args.sheet.now v) input_byte (λ e. w.if-byte-eq-INPUT.false (c.byte.ensures ∙ e)), w.inputs-is) (puts_then c.loop-v.invariant (puts_none _))
    ]

pub returns : goal.returns
returns c =
    let all : c.loop-v.v ≡ c.args.nodes = omega arith in
    let found = from_start c.new-inputs.ensures.start c.loop-v.invariant in
    rw (← all) (search rules)
