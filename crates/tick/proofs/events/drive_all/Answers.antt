-- `tick::events::drive_all` meets its contract. The loop's invariant: the events passed are of tick t, and are put into the values. Assumes nothing.
use mathlib.Core.Path.{◌≡◌, sym, ap, ◌∙◌}
use Prim.Native.Nat.{◌+◌}
use lib.ListN.{length}
use native.Mathlib.Nat.{add-zero, add_assoc}
use native.Mathlib.Omega.{arith}
use Rattle.sheet.specs.declared.Event.{Event}
use Rattle.sheet.specs.Sheet.{no_event}
use Rattle.tick.proofs.Parts.{length-part, get_or-part}
use Rattle.tick.proofs.Drive.{first_within, none-put, one_put, all_put}
use Rattle.tick.proofs.events.drive_all.Goals as goal

pub offset_bounds-drive-next : goal.offset_bounds-drive-next
offset_bounds-drive-next c = omega (arith, c.requires.1, first_within c.args.drive.now c.args.t c.requires.0)

pub slice_bounds-rest-count : goal.slice_bounds-rest-count
slice_bounds-rest-count c = rw c.requires.1 (first_within c.args.drive.now c.args.t c.requires.0)

pub slice_bounds-rest-start : goal.slice_bounds-rest-start
slice_bounds-rest-start c = rw c.requires.1 (first_within c.args.drive.now c.args.t c.requires.0)

pub loop-i-init : goal.loop-i-init
loop-i-init c = rw add-zero (none-put c.requires.0 c.requires.1 c.requires.2)

pub returns-then-event-t : goal.returns-then-event-t
returns-then-event-t c =
    let a = c.args in
    all_put c.requires.0 c.requires.1 c.loop-i.invariant (λ h e. c.if-event-t.true (ap (λ (x : Event). x.tick) (get_or-part a.drive.now a.next c.loop-i.i no_event) ∙ e))

pub loop-i-preserved : goal.loop-i-preserved
loop-i-preserved c =
    let a = c.args in
    let i = c.loop-i.i in
    let here = get_or-part a.drive.now a.next i no_event in
    rw (c.from.ensures, ← add_assoc a.next i 1)
    (one_put c.requires.0 c.requires.1 c.loop-i.invariant (omega (arith, length-part a.drive.now a.next)) (sym here) c.if-event-t.false)

pub returns : goal.returns
returns c =
    let a = c.args in
    let e : a.next + c.loop-i.i ≡ length a.drive.now = omega (arith, c.loop-i.invariant.within, length-part a.drive.now a.next) in
    let p = all_put c.requires.0 c.requires.1 c.loop-i.invariant (λ h. absurd (omega arith)) in
    (sym e ∙ p.0, p.1, p.2)
