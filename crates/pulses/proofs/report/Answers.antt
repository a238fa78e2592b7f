-- `pulses::report` meets its contract: a refusal writes nothing, and a success is the pulses, whole. Assumes nothing.
use Rattle.std.proofs.Common.{refl, rules}
use Rattle.lent.proofs.Putting.{from_start}
use Rattle.pulses.specs.InListing.{pulses_in}
use Rattle.pulses.specs.Reporting.{report_of}
use Rattle.pulses.proofs.Making.{made_of}
use Rattle.pulses.proofs.report.Goals as goal

pub returns : goal.returns
returns c =
    let a = c.args in
    let pulses = pulses_in a.horizon a.width a.listing.now a.n in
    let printed = from_start c.new-out.ensures.start c.put_pulses.ensures in
    made_of refl (report_of pulses a.n) a.report.now {at = c.put_pulses.new.out.at} (c.in_ok-pulses.ensures pulses c.count_pulses.ensures) (search rules)
