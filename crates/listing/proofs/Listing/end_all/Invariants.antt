-- The loop's invariant: the last records of the nodes passed have the end. Assumes nothing.
use Rattle.std.proofs.Common.{◌≡◌, ℕ, List, length}
use Rattle.network.specs.Listing.{Record}
use Rattle.network.specs.Buffer.{buffer_after}
use Rattle.listing.specs.Ends.{with_ends, ends_for, Holding}
use Rattle.listing.proofs.Listing.end_all.Given as goal

abbrev pub invariant-loop-node : goal.invariant-loop-node
invariant-loop-node l = record {
  same_length : length l.self.bytes.now ≡ length l.initial.self.bytes.now;
  rest : l.self ≡ record l.initial.self { bytes = l.self.bytes };
  lent : l.self.bytes.ghost_name ≡ l.initial.self.bytes.ghost_name;
  ended : (buffer : List ℕ) (records : List Record) (n : ℕ) → Holding buffer records (record l.initial.self { written = n })
      → l.self.bytes.now ≡ buffer_after (with_ends (ends_for l.watched l.end l.node-index) records) buffer;
}
