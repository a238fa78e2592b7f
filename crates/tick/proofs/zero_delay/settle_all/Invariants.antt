-- `tick::zero_delay::settle_all` meets its contract. The loop's invariant: what the modules passed leave. Assumes nothing.
use Rattle.std.proofs.Common.{◌≡◌, ◌-◌}
use Rattle.model.specs.Passes.{settle}
use Rattle.tick.specs.Rows.{modules_in}
use Rattle.tick.specs.Tick.{settled, TalliedIn}
use Rattle.tick.proofs.zero_delay.settle_all.Given as goal

abbrev pub invariant-loop-k : goal.invariant-loop-k
invariant-loop-k l =
    let rows = l.network.rows.now in
    (settled rows l.present ≡ settle (modules_in rows) l.network.delayed (l.k - l.network.delayed) (settled rows l.initial.present)) × TalliedIn l.network l.present
