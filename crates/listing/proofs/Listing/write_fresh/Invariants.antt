-- The loop's invariant: the records of the nodes passed are written. Assumes nothing.
use Rattle.std.proofs.Common.{◌≡◌, ◌++◌, ℕ, List, take}
use Rattle.network.specs.Listing.{Record}
use Rattle.model.specs.Fresh.{fresh}
use Rattle.listing.specs.Ends.{Holding}
use Rattle.listing.proofs.Listing.write_fresh.Given as goal

abbrev pub invariant-loop-node : goal.invariant-loop-node
invariant-loop-node l = record {
  same_values : l.self.values ≡ l.initial.self.values;
  lent : l.self.bytes.ghost_name ≡ l.initial.self.bytes.ghost_name;
  holding : (buffer : List ℕ) (before : List Record) → Holding buffer before l.initial.self
      → Holding buffer (before ++ fresh l.t l.values l.initial.self.values (take l.node-index l.watched)) l.self;
}
