-- The definitions compute: reports of small sheets, whole, short and refused. Assumes nothing.
use mathlib.Core.List.{[], ◌∷◌}
use mathlib.Core.Path.{◌≡◌, refl}
use Prim.Native.Nat.{ℕ}
use lib.ListN.{replicate}
use Rattle.sheet.specs.Enumerate.{any_below, each}
use Rattle.sheet.specs.Layout.{first_edition, second_edition, sheet_of}
use Rattle.sheet.specs.Loop.{leads_over}
use Rattle.sheet.specs.Outcome.{finished, refused}
use Rattle.sheet.specs.Refusal.{not_above_event, not_above_watched, bytes_rows, rows, first, checked_by}
use Rattle.sheet.specs.WorkingOrder.{leading_to, working_order}
use Rattle.format.specs.Encode.{all_bytes}
use Rattle.format.specs.Made.{made_answer, output_after}
use Rattle.network.specs.Examples.{worked_sheet, three_sheet}
use Rattle.network.specs.Ends.{first_from}
use Rattle.network.specs.Listing.{records_at}
use Rattle.network.specs.Run.{first_tick, written_of, ran, wrote}
use Rattle.network.specs.Timeline.{given, drive_cell, latest}
use Rattle.network.specs.Working.{unworked, standing, work, work_all, contributed, worked}
use Rattle.pulses.specs.Pulse.{Pulse, pulses_at}
use Rattle.pulses.specs.Reporting.{ran_for, pulses_of, report_of}
use Rattle.pulses.specs.Examples.{pulse_sheet}

abbrev pulse : ℕ → ℕ → ℕ → Pulse
pulse t v n = record { start = t; node = v; ticks = n }

-- Of the worked run the NAND's 1 from tick 3 lasts 5 ticks and its 0 from tick 8 lasts 3; its X lasts from tick 0, and its 1 from tick 11 and the
-- input's from tick 5 to the horizon. Width 3 is no longer above 3.
pub worked_pulses : (pulses_of first_edition worked_sheet 12 6 ≡ pulse 3 1 5 ∷ pulse 8 1 3 ∷ []) × (pulses_of first_edition worked_sheet 12 4 ≡ pulse 8 1 3 ∷ []) × (pulses_of first_edition worked_sheet 12 3 ≡ [])
unfolding sheet_of working_order leading_to leads_over any_below each given drive_cell latest unworked standing work work_all contributed worked first_from pulses_at
worked_pulses = (refl, refl, refl)

-- with a horizon of 11 no change ends the 0
pub ended_below : pulses_of first_edition worked_sheet 11 6 ≡ pulse 3 1 5 ∷ []
unfolding sheet_of working_order leading_to leads_over any_below each given drive_cell latest unworked standing work work_all contributed worked first_from pulses_at
ended_below = refl

-- stretches of Z and of X count; width 1 reports nothing
pub unknown_pulses : (pulses_of first_edition pulse_sheet 6 3 ≡ pulse 2 0 1 ∷ pulse 3 0 2 ∷ []) × (pulses_of first_edition pulse_sheet 6 2 ≡ pulse 2 0 1 ∷ []) × (pulses_of first_edition pulse_sheet 6 1 ≡ [])
unfolding sheet_of working_order leading_to leads_over any_below each given drive_cell latest unworked standing work work_all contributed worked first_from pulses_at
unknown_pulses = (refl, refl, refl)

-- two nodes, in listing order, from a sheet of the second edition
pub two_nodes : pulses_of second_edition three_sheet 8 3 ≡ pulse 2 3 2 ∷ pulse 2 4 2 ∷ pulse 4 3 1 ∷ pulse 4 4 2 ∷ pulse 6 4 1 ∷ []
unfolding sheet_of working_order leading_to leads_over any_below each given drive_cell latest unworked standing work work_all contributed worked first_from pulses_at
two_nodes = refl

-- Refusal 1 comes before 24, and 24 before the sheet's, here of no bytes; a sheet's and a run's come after it, with the run's count.
pub in_order : (ran_for first_edition [] 0 0 60 ≡ wrote (refused 1 0 0) []) × (ran_for first_edition [] 12 0 60 ≡ wrote (refused 24 0 0) []) × (ran_for first_edition [] 12 10001 60 ≡ wrote (refused 24 0 0) [])
    × (ran_for first_edition [] 12 10000 60 ≡ wrote (refused 2 0 0) []) × ((ran_for first_edition worked_sheet 12 6 59).answer ≡ refused 19 11 5)
unfolding sheet_of checked_by rows bytes_rows first not_above_event not_above_watched working_order leading_to leads_over any_below each given drive_cell latest unworked standing work work_all contributed worked records_at first_from first_tick written_of ran
in_order = (refl, refl, refl, refl, refl)

-- Two pulses from six records: 17 bytes, one too few, are refused with 25, the pulses' count for its place and the listing's for its count, and left as
-- they were; 18 suffice, and of 20 the last two stay. After a run's refusal there is no 25.
pub lengths : (made_answer (finished 6) (report_of (pulse 3 1 5 ∷ pulse 8 1 3 ∷ []) 6) 17 ≡ refused 25 2 6)
    × (output_after (refused 25 2 6) (report_of (pulse 3 1 5 ∷ pulse 8 1 3 ∷ []) 6).bytes (replicate 17 99) ≡ replicate 17 99)
    × (made_answer (finished 6) (report_of (pulse 3 1 5 ∷ pulse 8 1 3 ∷ []) 6) 18 ≡ finished 2)
    × (output_after (finished 2) (report_of (pulse 3 1 5 ∷ pulse 8 1 3 ∷ []) 6).bytes (replicate 20 99)
    ≡ 3 ∷ 0 ∷ 0 ∷ 0 ∷ 1 ∷ 5 ∷ 0 ∷ 0 ∷ 0 ∷ 8 ∷ 0 ∷ 0 ∷ 0 ∷ 1 ∷ 3 ∷ 0 ∷ 0 ∷ 0 ∷ 99 ∷ 99 ∷ [])
    × (made_answer (refused 19 11 5) (report_of (pulse 3 1 5 ∷ pulse 8 1 3 ∷ []) 6) 0 ≡ refused 19 11 5)
unfolding all_bytes
lengths = (refl, refl, refl, refl, refl)
