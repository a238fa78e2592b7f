-- `tick::contribution::rule` meets its contract: the gates, a constant, and a memory that takes its input or holds. Assumes nothing.
use native.Mathlib.Omega.{arith}
use Rattle.level.proofs.Gates.{of_one, of_two, of_three}
use Rattle.tick.proofs.Rules.{bounded, constant_of, gate_at}
use Rattle.tick.proofs.contribution.rule.Goals as goal

-- a gate comes to its entry in the tables
pub returns-then-start-lt-START_OF_TWO : goal.returns-then-start-lt-START_OF_TWO
returns-then-start-lt-START_OF_TWO c =
    let a = c.args in
    let m = a.row.now.module in
    let p = c.requires in
    let gate = of_one m.kind (omega (arith, p.3, c.if-start-lt-START_OF_TWO.true)) in
    bounded m a.present.now.values a.held a.present.now.values_levels p.1 p.2
    (gate_at m a.present.now.values a.held a.present.now.values_levels gate _ _ c.entry.ensures p.3 (omega (arith, c.from.ensures, c.input_at-first.ensures.0)))

pub returns-then-start-lt-START_OF_THREE : goal.returns-then-start-lt-START_OF_THREE
returns-then-start-lt-START_OF_THREE c =
    let a = c.args in
    let m = a.row.now.module in
    let p = c.requires in
    let gate = of_two m.kind (omega (arith, p.3, c.if-start-lt-START_OF_TWO.false)) (omega (arith, p.3, c.if-start-lt-START_OF_THREE.true)) in
    bounded m a.present.now.values a.held a.present.now.values_levels p.1 p.2
    (gate_at m a.present.now.values a.held a.present.now.values_levels gate _ _ c.entry-then-start-lt-START_OF_THREE.ensures p.3
    (omega (arith, c.from-then-start-lt-START_OF_THREE-2.ensures, c.from-then-start-lt-START_OF_THREE.ensures, c.input_at-first.ensures.0, c.input_at-second.ensures.0)))

pub returns-then-row-eq-CONSTANT : goal.returns-then-row-eq-CONSTANT
returns-then-row-eq-CONSTANT c =
    let a = c.args in
    let m = a.row.now.module in
    let p = c.requires in
    bounded m a.present.now.values a.held a.present.now.values_levels p.1 p.2
    (constant_of m a.present.now.values a.held a.present.now.values_levels c.if-row-eq-CONSTANT.true c.constant.ensures)

pub returns : goal.returns
returns c =
    let a = c.args in
    let m = a.row.now.module in
    let p = c.requires in
    let gate = of_three m.kind (omega (arith, p.3, c.if-start-lt-START_OF_THREE.false)) (omega (arith, p.3, c.if-start-ge-NO_TABLE.false)) in
    bounded m a.present.now.values a.held a.present.now.values_levels p.1 p.2
    (gate_at m a.present.now.values a.held a.present.now.values_levels gate _ _ c.entry-2.ensures p.3
    (omega (arith, c.from-4.ensures, c.from-3.ensures, c.from-2.ensures, c.input_at-first.ensures.0, c.input_at-second.ensures.0, c.input_at-third.ensures.0)))
