-- No more is added up than there are watched nodes. Assumes nothing.
use Rattle.std.proofs.Common.{arith, rules, ◌-◌, ◌^◌}
use Rattle.std.proofs.lemmas.Iterator.{YieldsList-from_slice}
use Rattle.std.proofs.lemmas.Iterator.Adapters.{fits_from_length, at_most_from_yields_List}
use Rattle.listing.proofs.Listing.count_fresh.Goals as goal

pub sum-requires-clause-fits : goal.sum-requires-clause-fits
sum-requires-clause-fits c =
    fits_from_length _ _ (2 ^ 64 - 1) (2 ^ 64) (at_most_from_yields_List (YieldsList-from_slice c.args.watched.now cc) (omega arith)) c.map.ensures.closure (omega arith)
    (λ x r q k. search rules)
