-- `draw::putting::put_drive` meets its contract: the count, the inputs' first events, the others. Assumes nothing.
use Rattle.lent.proofs.Putting.{puts_then}
use Rattle.draw.proofs.Steps.{section_parts}
use Rattle.draw.proofs.putting.put_drive.Goals as goal

pub returns : goal.returns
returns c =
    let a = c.args in
    let first = c.put_first.ensures in
    rw (← section_parts a.inputs.now a.seed a.n) (puts_then (puts_then (rw c.to_le_bytes.ensures at c.put_all.ensures) first.puts) (c.put_later.ensures a.seed first.state))
