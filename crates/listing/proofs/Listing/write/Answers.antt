-- A tick without records leaves all as it is. Assumes nothing.
use Rattle.std.proofs.Common.{sym, ◌∙◌, arith}
use Rattle.listing.proofs.Quiet.{nothing_written}
use Rattle.listing.proofs.Listing.write.Goals as goal

pub returns-then-records-eq0-clause-told : goal.returns-then-records-eq0-clause-told
returns-then-records-eq0-clause-told c buffer before H =
    nothing_written c.args.t (sym c.requires.counted ∙ c.if-records-eq0.true) (omega arith) H
