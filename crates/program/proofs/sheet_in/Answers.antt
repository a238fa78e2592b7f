-- `program::sheet_in` meets its contract: what of the input lies past the horizon, and no more than is read of a sheet. Assumes nothing.
use Rattle.std.proofs.Common.{◌≡◌, ◌-◌, min, length, drop, arith, length-drop}
use Rattle.std.proofs.lemmas.List.{take_min, drop_min}
use Rattle.program.proofs.sheet_in.Goals as goal

pub returns : goal.returns
returns c =
    let input = c.args.input.now in
    let from : c.min.result ≡ min 4 (length input) = omega arith in
    let bytes : c.min-2.result - c.min.result ≡ min 8457 (length (drop 4 input)) = omega (arith, length-drop 4 input) in
    rw (bytes, from, drop_min 4 input) (take_min 8457 (drop 4 input))
