-- The node's last record gets its end, and then the new one is written and remembered. Assumes nothing.
use Rattle.std.proofs.Common.{arith, refl, get_or, None}
use Rattle.network.specs.Listing.{Record}
use Rattle.listing.specs.Ends.{Last, not_ended}
use Rattle.listing.proofs.Holding.{place_known, one_more}
use Rattle.listing.proofs.Listing.write_value.Goals as goal

pub end_last-requires : goal.end_last-requires
end_last-requires c = place_known c.requires.held.2 _ (omega arith)

pub returns-clause-holding : goal.returns-clause-holding
returns-clause-holding c buffer records H =
    let a = c.args in
    let r : Record = record { tick = a.t; node = a.node; value = a.value } in
    let wide = c.from-v in
    let here : Last a.node records (get_or a.self.now.places wide.result None) = rw wide.ensures (H.placed.last a.node (omega arith)) in
    one_more H r (omega arith) c.requires.room _ (c.end_last.ensures buffer not_ended records a.node H.fits H.bytes here) _ refl (rw wide.ensures) c.write_record.ensures
