-- The loop's invariant: what is carried and the listing are what the model has before tick t. Assumes nothing.
use Rattle.std.proofs.Common.{◌≡◌}
use Rattle.run.specs.Ready.{kept}
use Rattle.run.proofs.BetweenTicks.{BetweenTicks}
use Rattle.run.proofs.ticks.ticks.Given as goal

abbrev pub invariant-loop-t : goal.invariant-loop-t
invariant-loop-t g l = record {
  lent : l.listing.bytes.ghost_name ≡ l.initial.listing.bytes.ghost_name;
  between : BetweenTicks g.sheet l.network (kept l.network l.initial.carried l.initial.listing) l.initial.listing.bytes.now l.t l.carried l.listing;
}
