-- `Conversion::kind_refusal` meets its contract. Assumes nothing.
use borrow.Author.Tests.{lt-ltb, le-ltb}
use Rattle.std.proofs.Common.{sym, arith}
use Rattle.sheet.specs.Refusal.{first}
use Rattle.sheet.specs.Layout.{modules_counted}
use Rattle.sheet.proofs.Rows.{none_yet, passed_each, refused_each}
use Rattle.convert.specs.Conversion.{kind_rows}
use Rattle.convert.proofs.conversion.Conversion.kind_refusal.Goals as goal

pub loop-m-init : goal.loop-m-init
loop-m-init c = none_yet _

pub returns-then-self-byte : goal.returns-then-self-byte
unfolding first
returns-then-self-byte c =
    let self = c.args.self.now in
    let place = c.record_place-place.ensures in
    rw place
    (sym
    (refused_each (kind_rows self.from self.to self.sheet.now) c.loop-m.m (modules_counted self.sheet.now) (omega (arith, self.counted)) c.loop-m.invariant
    (rw (← place, ← c.byte.ensures, lt-ltb self.to.greatest c.byte.result c.if-self-byte.true, place))))

pub loop-m-preserved : goal.loop-m-preserved
unfolding first
loop-m-preserved c =
    let self = c.args.self.now in
    passed_each (kind_rows self.from self.to self.sheet.now) c.loop-m.m c.loop-m.invariant
    (rw (← c.record_place-place.ensures, ← c.byte.ensures, le-ltb self.to.greatest c.byte.result c.if-self-byte.false))
