-- `Conversion::put_sheet` meets its contract: the bytes before the records, the records, the bytes after them. Assumes nothing.
use Rattle.std.proofs.Common.{◌≡◌, ◌+◌, ◌-◌, ◌*◌, length, take, drop, length-drop, arith}
use Rattle.std.proofs.lemmas.List.{take_all}
use Rattle.lent.proofs.Putting.{puts_then}
use Rattle.convert.specs.Converted.{converted}
use Rattle.convert.proofs.conversion.Conversion.put_sheet.Goals as goal

pub returns : goal.returns
unfolding converted
returns c =
    let self = c.args.self.now in
    let s = self.sheet.now in
    let drive = self.place + self.from.size * self.n in
    let rest : take (length s - drive) (drop drive s) ≡ drop drive s = take_all (length s - drive) (drop drive s) (omega (arith, length-drop drive s)) in
    puts_then (puts_then (rw self.placed at c.put_all.ensures) (rw self.counted at c.put_records.ensures)) (rw (rest, self.placed, self.counted) at c.put_all-2.ensures)
