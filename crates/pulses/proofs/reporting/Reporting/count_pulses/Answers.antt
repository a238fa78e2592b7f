-- `Reporting::count_pulses` meets its contract. Assumes nothing.
use Rattle.std.proofs.Common.{◌*◌, length, length-append, refl, sym, ap, ◌∙◌, add-one, arith}
use Rattle.sheet.specs.Enumerate.{each}
use Rattle.network.specs.Buffer.{record_size, record_in}
use Rattle.listing.specs.Record.{record_of}
use Rattle.pulses.specs.InListing.{pulse_in, pulses_in}
use Rattle.pulses.proofs.Length.{one_pulse, no_pulse}
use Rattle.pulses.proofs.reporting.Reporting.count_pulses.Goals as goal
use Rattle.pulses.proofs.reporting.Reporting.count_pulses.Goals.{then-to_report, else-to_report}

pub loop-i-init : goal.loop-i-init
unfolding each
loop-i-init c = record { few = omega arith; counted = refl }

pub loop-i-preserved : goal.loop-i-preserved
unfolding each
loop-i-preserved c =
    let self = c.args.self.now in
    let i = c.loop-i.i in
    let so_far = c.loop-i.invariant.counted in
    let told = sym c.to_report.ensures in
    let here = pulse_in self.horizon self.width (record_in self.listing.now (record_size * i)) in
    let more = length-append (pulses_in self.horizon self.width self.listing.now i) here in
    let same = ap (λ r. length (pulse_in self.horizon self.width r)) c.record_at.ensures in
    let read = record_of c.record_at.result in
    elim c.if-to_report.branch [
      | then-to_report w ↦ record { few = omega arith; counted = rw add-one (omega (arith, so_far, more, same, one_pulse self.horizon self.width read (told ∙ w.if-to_report.true))) }
      | else-to_report w ↦ record { few = omega arith; counted = rw add-one (omega (arith, so_far, more, same, no_pulse self.horizon self.width read (told ∙ w.if-to_report.false))) }
    ]
