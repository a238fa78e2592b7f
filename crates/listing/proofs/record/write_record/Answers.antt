-- `listing::record::write_record` meets its contract: its stores, one after the other. Assumes nothing.
use Rattle.std.proofs.Common.{◌∙◌, arith}
use Rattle.listing.specs.Record.{record_of}
use Rattle.listing.proofs.Buffer.{record_stores}
use Rattle.listing.proofs.record.write_record.Goals as goal

pub returns : goal.returns
returns c =
    let a = c.args in
    c.write_long-2.ensures ∙ rw c.write_long.ensures (record_stores a.n (record_of a.listed) a.listing.now (omega arith))
