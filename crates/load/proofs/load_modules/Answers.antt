-- `load::load_modules` meets its contract: all modules are passed. Assumes nothing.
use Rattle.std.proofs.Common.{arith}
use Rattle.load.proofs.Loading.{rows_of}
use Rattle.load.proofs.load_modules.Goals as goal

pub returns : goal.returns
returns c =
    let i = c.loop-k.invariant in
    let e = rows_of c.loop-k.rows c.args.modules.now i.same_size (λ j h. i.put j (omega arith)) in
    (e, rw e (λ k h. i.flagged k (omega arith)), λ s k h. i.none_shared s k (omega arith), λ k h. i.started k (omega arith))
