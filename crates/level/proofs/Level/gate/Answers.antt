-- `level::Level::gate` meets its contract: a gate's entry is what its rule comes to, a constant of parameter 0 and a memory of no values come to 0, a further kind to X.
-- Assumes nothing.
use Prim.Native.Nat.{◌%◌, ◌<◌}
use native.Mathlib.Nat.{mod-lt, add_assoc}
use native.Mathlib.Omega.{arith}
use lib.Dec.{lit<}
use Rattle.level.specs.Table.{tables}
use Rattle.level.proofs.Gates.{of_one, of_two, of_three, entry_at}
use Rattle.level.proofs.Level.gate.Goals as goal

pub bounds-start-then-start-lt-NO_TABLE : goal.bounds-start-then-start-lt-NO_TABLE
bounds-start-then-start-lt-NO_TABLE c =
    let a = c.args in
    let f : a.first % 4 < 4 = mod-lt _ (lit< tt) in
    let s : a.second % 4 < 4 = mod-lt _ (lit< tt) in
    let t : a.third % 4 < 4 = mod-lt _ (lit< tt) in
    let k = of_three a.kind (omega (arith, c.if-start-lt-START_OF_THREE.false, c.start-start.ensures)) (omega (arith, c.if-start-lt-NO_TABLE.true, c.start-start.ensures)) in
    omega (arith, k.within, c.start-start.ensures)

pub returns-then-start-lt-START_OF_TWO : goal.returns-then-start-lt-START_OF_TWO
unfolding tables
returns-then-start-lt-START_OF_TWO c =
    let a = c.args in
    let f : a.first % 4 < 4 = mod-lt _ (lit< tt) in
    let k = of_one a.kind (omega (arith, c.if-start-lt-START_OF_TWO.true, c.start-start.ensures)) in
    rw (c.start-start.ensures, k.inputs) (entry_at k _ _ (omega arith) (f, tt) (omega arith))

pub returns-then-start-lt-START_OF_THREE : goal.returns-then-start-lt-START_OF_THREE
unfolding tables
returns-then-start-lt-START_OF_THREE c =
    let a = c.args in
    let f : a.first % 4 < 4 = mod-lt _ (lit< tt) in
    let s : a.second % 4 < 4 = mod-lt _ (lit< tt) in
    let k = of_two a.kind (omega (arith, c.if-start-lt-START_OF_TWO.false, c.start-start.ensures)) (omega (arith, c.if-start-lt-START_OF_THREE.true, c.start-start.ensures)) in
    rw (add_assoc, c.start-start.ensures, k.inputs) (entry_at k _ _ (omega arith) (f, (s, tt)) (omega arith))

pub returns-then-start-lt-NO_TABLE : goal.returns-then-start-lt-NO_TABLE
unfolding tables
returns-then-start-lt-NO_TABLE c =
    let a = c.args in
    let f : a.first % 4 < 4 = mod-lt _ (lit< tt) in
    let s : a.second % 4 < 4 = mod-lt _ (lit< tt) in
    let t : a.third % 4 < 4 = mod-lt _ (lit< tt) in
    let k = of_three a.kind (omega (arith, c.if-start-lt-START_OF_THREE.false, c.start-start.ensures)) (omega (arith, c.if-start-lt-NO_TABLE.true, c.start-start.ensures)) in
    rw (add_assoc, add_assoc, c.start-start.ensures, k.inputs) (entry_at k _ _ (omega arith) (f, (s, (t, tt))) (omega arith))
