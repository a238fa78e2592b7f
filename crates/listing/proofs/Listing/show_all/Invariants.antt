-- The loop's invariant: the values of the nodes passed are shown. Assumes nothing.
use Rattle.std.proofs.Common.{◌≡◌, take}
use Rattle.model.specs.Fresh.{show_all}
use Rattle.listing.proofs.Listing.show_all.Given as goal

abbrev pub invariant-loop-node : goal.invariant-loop-node
invariant-loop-node l = l.self ≡ record l.initial.self { values = show_all l.values l.initial.self.values (take l.node-index l.watched) }
