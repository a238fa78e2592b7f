-- `Conversion::put_record` meets its contract: the fields that stand in every edition, the third input, the delay. Assumes nothing.
use Rattle.std.proofs.Common.{◌≡◌, ◌+◌, ◌-◌, arith}
use Rattle.lent.proofs.Putting.{puts_then}
use Rattle.convert.proofs.conversion.Conversion.put_record.Goals as goal

pub returns : goal.returns
returns c =
    let place = c.args.place in
    let delay = c.delay_place-delay.result in
    let five : place + 5 - place ≡ 5 = omega arith in
    let two : delay + 2 - delay ≡ 2 = omega arith in
    puts_then (puts_then (rw five at c.put_all.ensures) c.put_third.ensures) (rw (two, c.delay_place-delay.ensures.0) at c.put_all-2.ensures)
