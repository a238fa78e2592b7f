-- `Reporting::put_pulses` meets its contract. Assumes nothing.
use Rattle.std.proofs.Common.{◌*◌, add-one, subst}
use Rattle.sheet.specs.Enumerate.{each}
use Rattle.format.specs.Encode.{all_bytes}
use Rattle.format.proofs.AllBytes.{all_bytes-append}
use Rattle.network.specs.Buffer.{record_size, record_in}
use Rattle.lent.specs.Lent.{Puts}
use Rattle.lent.proofs.Putting.{puts_none, puts_then}
use Rattle.pulses.specs.Report.{pulse_bytes, report_bytes}
use Rattle.pulses.specs.InListing.{pulse_in, pulses_in}
use Rattle.pulses.proofs.reporting.Reporting.put_pulses.Goals as goal

pub loop-i-init : goal.loop-i-init
unfolding each all_bytes
loop-i-init c = puts_none _

pub loop-i-preserved : goal.loop-i-preserved
unfolding each
loop-i-preserved c =
    let self = c.args.self.now in
    let i = c.loop-i.i in
    let before = pulses_in self.horizon self.width self.listing.now i in
    let here = pulse_in self.horizon self.width (record_in self.listing.now (record_size * i)) in
    let put = subst (λ r. Puts (report_bytes (pulse_in self.horizon self.width r)) c.loop-i.out c.put_record.new.out) c.record_at.ensures c.put_record.ensures in
    rw (add-one i, all_bytes-append pulse_bytes before here) (puts_then c.loop-i.invariant put)
