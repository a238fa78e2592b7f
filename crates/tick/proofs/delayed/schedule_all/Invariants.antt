-- `tick::delayed::schedule_all` meets its contract. The loop's invariant: what the modules passed leave. Assumes nothing.
use Rattle.std.proofs.Common.{◌≡◌, ◌+◌, ◌≤◌}
use Rattle.model.specs.Passes.{schedule}
use Rattle.pending.specs.Kept.{arrangement}
use Rattle.tick.specs.Rows.{modules_in}
use Rattle.tick.specs.Tick.{scheduled}
use Rattle.tick.proofs.delayed.schedule_all.Given as goal

abbrev pub invariant-loop-k : goal.invariant-loop-k
invariant-loop-k l =
    (scheduled l.ahead ≡ schedule arrangement (modules_in l.network.rows.now) l.t l.network.horizon l.present.values l.k (scheduled l.initial.ahead))
    × (arrangement.count l.ahead.pending.kept ≤ arrangement.count l.initial.ahead.pending.kept + l.k)
