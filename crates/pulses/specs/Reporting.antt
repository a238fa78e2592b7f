-- Document 02, W-208: what reporting the short pulses of a sheet answers, and what listing and report then hold, for any bytes, horizon,
-- width and lengths.
use Rattle.std.specs.Prelude.{List, ◌≡◌, ℕ, length}
use Rattle.sheet.specs.declared.Edition.{Edition}
use Rattle.sheet.specs.Layout.{sheet_of}
use Rattle.sheet.specs.Outcome.{Outcome, or_else}
use Rattle.sheet.specs.Range.{range_answer, horizon_answer}
use Rattle.format.specs.Made.{Made, Makes}
use Rattle.network.specs.Buffer.{buffer_after}
use Rattle.network.specs.Run.{Written, cells_of, unless_refused, ran}
use Rattle.pulses.specs.Pulse.{Pulse, short_pulses}
use Rattle.pulses.specs.Report.{greatest_width, report_bytes}

-- 24 the width is outside its range
abbrev pub width_outside : ℕ
width_outside = 24

-- 25 the report is shorter than its pulses
abbrev pub report_short : ℕ
report_short = 25

-- 1 a horizon outside its range, then 24; both have place 0
abbrev pub asked : ℕ → ℕ → Outcome
asked horizon width = or_else (horizon_answer horizon) (range_answer width_outside greatest_width width)

-- after these nothing is run
abbrev pub ran_for : Edition → List ℕ → ℕ → ℕ → ℕ → Written
ran_for e s horizon width bytes = unless_refused (asked horizon width) (ran e s horizon bytes)

-- the short pulses of a sheet's bytes, by its cells
abbrev pub pulses_of : Edition → List ℕ → ℕ → ℕ → List Pulse
pulses_of e s horizon width = short_pulses (sheet_of e s) (cells_of (sheet_of e s) horizon) horizon width

-- a report of pulses from a listing of so many records: 25 has the count of pulses for its place, and that of the listing for its count;
-- a success answers the count of pulses
abbrev pub report_of : List Pulse → ℕ → Made
report_of pulses records = record { bytes = report_bytes pulses; number = report_short; place = length pulses; count = records; answer = length pulses }

-- The listing holds what the run left, and the report is made once it has finished.
pub record Reports (e : Edition) (s : List ℕ) (horizon width : ℕ) (listing report : List ℕ) (answer : Outcome) (listed reported : List ℕ) : Type 0 where
  pub left : listed ≡ buffer_after (ran_for e s horizon width (length listing)).records listing
  pub makes : Makes (ran_for e s horizon width (length listing)).answer
      (report_of (pulses_of e s horizon width) (length (ran_for e s horizon width (length listing)).records)) report answer reported
