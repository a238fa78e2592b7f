-- The place of a node's last record is one in the listing, which keeps its length. Assumes nothing.
use Rattle.std.proofs.Common.{ap, arith}
use Rattle.listing.proofs.Holding.{place_known}
use Rattle.listing.proofs.Listing.end_all.Goals as goal

pub end_last-requires : goal.end_last-requires
end_last-requires c =
    let loop = c.loop-node.invariant in
    rw (loop.same_length, ap (λ l. l.places) loop.rest) (place_known c.requires.1.2 c.from.result (omega arith))
