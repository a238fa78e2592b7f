-- The starred examples of document 01, as one table with those of inputs that start unknown, of gates of three inputs and of nodes with several drivers, and whole runs. Assumes nothing.
use lib.ListN.{length, replicate}
use mathlib.Core.List.{[], ◌∷◌}
use mathlib.Core.Path.{◌≡◌, refl}
use Prim.Native.Nat.{ℕ}
use Rattle.level.specs.Examples.{Hold}
use Rattle.sheet.specs.Enumerate.{any_below, each}
use Rattle.sheet.specs.Layout.{first_edition, second_edition, sheet_of}
use Rattle.sheet.specs.Loop.{leads_over}
use Rattle.sheet.specs.Outcome.{finished, refused}
use Rattle.sheet.specs.Refusal.{not_above_event, not_above_watched, bytes_rows, rows, first, checked_by, checked, checked_strictly}
use Rattle.sheet.specs.WorkingOrder.{leading_to, working_order}
use Rattle.format.specs.Encode.{all_bytes}
use Rattle.network.specs.Buffer.{buffer_after}
use Rattle.network.specs.Examples.{worked_sheet, memory_sheet, start_sheet, three_sheet, bus_sheet, examples}
use Rattle.network.specs.LaterEvents.{events_below}
use Rattle.network.specs.Ends.{first_from, Ended}
use Rattle.network.specs.Listing.{records_at}
use Rattle.network.specs.Run.{wrote, first_tick, written_of, ran}
use Rattle.network.specs.Timeline.{given, drive_cell, latest}
use Rattle.network.specs.Working.{unworked, standing, work, work_all, contributed, worked}
use Rattle.level.proofs.Examples.{computed}

pub examples_hold : Hold examples
unfolding sheet_of working_order leading_to leads_over any_below each given drive_cell latest unworked standing work work_all contributed worked
examples_hold = computed _ tt

-- both sheets are accepted
pub accepted_examples : (checked first_edition worked_sheet ≡ finished 0) × (checked first_edition memory_sheet ≡ finished 0)
unfolding sheet_of checked_by rows bytes_rows first not_above_event not_above_watched leads_over any_below each
accepted_examples = (refl, refl)

abbrev listed : ℕ → ℕ → ℕ → ℕ → Ended
listed t v x e = record { start = record { tick = t; node = v; value = x }; end = e }

-- the worked run, from its bytes: a buffer of 60 bytes takes its six records
pub worked_run : ran first_edition worked_sheet 12 60 ≡ wrote (finished 6) (listed 0 0 0 5 ∷ listed 0 1 2 3 ∷ listed 3 1 1 8 ∷ listed 5 0 1 12 ∷ listed 8 1 0 11 ∷ listed 11 1 1 12 ∷ [])
unfolding sheet_of checked_by rows bytes_rows first not_above_event not_above_watched working_order leading_to leads_over any_below each given drive_cell latest unworked standing work work_all contributed worked records_at first_from first_tick written_of ran
worked_run = refl

-- 59 give refusal 19 at tick 11 with 5 records, and both nodes' values end there
pub short_run : ran first_edition worked_sheet 12 59 ≡ wrote (refused 19 11 5) (listed 0 0 0 5 ∷ listed 0 1 2 3 ∷ listed 3 1 1 8 ∷ listed 5 0 1 11 ∷ listed 8 1 0 11 ∷ [])
unfolding sheet_of checked_by rows bytes_rows first not_above_event not_above_watched working_order leading_to leads_over any_below each given drive_cell latest unworked standing work work_all contributed worked records_at first_from first_tick written_of ran
short_run = refl

-- and in a buffer of 62 bytes, each 99 before, the six records' bytes stand first and the last two bytes stay
pub worked-buffer : buffer_after (ran first_edition worked_sheet 12 62).records (replicate 62 99)
    ≡ 0 ∷ 0 ∷ 0 ∷ 0 ∷ 0 ∷ 0 ∷ 5 ∷ 0 ∷ 0 ∷ 0
    ∷ 0 ∷ 0 ∷ 0 ∷ 0 ∷ 1 ∷ 2 ∷ 3 ∷ 0 ∷ 0 ∷ 0
    ∷ 3 ∷ 0 ∷ 0 ∷ 0 ∷ 1 ∷ 1 ∷ 8 ∷ 0 ∷ 0 ∷ 0
    ∷ 5 ∷ 0 ∷ 0 ∷ 0 ∷ 0 ∷ 1 ∷ 12 ∷ 0 ∷ 0 ∷ 0
    ∷ 8 ∷ 0 ∷ 0 ∷ 0 ∷ 1 ∷ 0 ∷ 11 ∷ 0 ∷ 0 ∷ 0
    ∷ 11 ∷ 0 ∷ 0 ∷ 0 ∷ 1 ∷ 1 ∷ 12 ∷ 0 ∷ 0 ∷ 0
    ∷ 99 ∷ 99 ∷ []
unfolding sheet_of checked_by rows bytes_rows first not_above_event not_above_watched working_order leading_to leads_over any_below each given drive_cell latest unworked standing work work_all contributed worked records_at first_from first_tick written_of ran buffer_after all_bytes
worked-buffer = refl

-- inputs that start unknown: a check accepts them, a strict check does not, and a run lists them as X
pub start_checked : (checked first_edition start_sheet ≡ finished 0) × (checked_strictly first_edition start_sheet ≡ refused 15 0 0)
unfolding sheet_of checked_by rows bytes_rows first not_above_event not_above_watched leads_over any_below each
start_checked = (refl, refl)

pub start_run : ran first_edition start_sheet 6 120
    ≡ wrote (finished 12)
    (listed 0 0 2 6 ∷ listed 0 1 2 3 ∷ listed 0 2 0 2 ∷ listed 0 3 3 1 ∷ listed 0 4 1 2 ∷ listed 1 3 0 3 ∷ listed 2 2 1 4 ∷ listed 2 4 2 4 ∷ listed 3 1 1 6 ∷ listed 3 3 1 6 ∷ listed 4 2 0 6 ∷ listed 4 4 1 6 ∷ [])
unfolding sheet_of checked_by rows bytes_rows first not_above_event not_above_watched working_order leading_to leads_over any_below each given drive_cell latest unworked standing work work_all contributed worked records_at first_from first_tick written_of ran
start_run = refl

-- gates of three inputs: a sheet of the second edition, which the first refuses at its first module's kind
pub three_checked : (checked_strictly second_edition three_sheet ≡ refused 15 2 0) × (checked first_edition three_sheet ≡ refused 5 9 0)
unfolding sheet_of checked_by rows bytes_rows first not_above_event not_above_watched leads_over any_below each
three_checked = (refl, refl)

pub three_run : ran second_edition three_sheet 8 90
    ≡ wrote (finished 9)
    (listed 0 3 2 2 ∷ listed 0 4 0 2 ∷ listed 2 3 1 4 ∷ listed 2 4 2 4 ∷ listed 4 3 0 5 ∷ listed 4 4 0 6 ∷ listed 5 3 2 8 ∷ listed 6 4 1 7 ∷ listed 7 4 2 8 ∷ [])
unfolding sheet_of checked_by rows bytes_rows first not_above_event not_above_watched working_order leading_to leads_over any_below each given drive_cell latest unworked standing work work_all contributed worked records_at first_from first_tick written_of ran
three_run = refl

-- a node with two drivers: a check accepts it, strictly too, and the run lists what they come to together
pub bus_checked : (checked first_edition bus_sheet ≡ finished 0) × (checked_strictly first_edition bus_sheet ≡ finished 0)
unfolding sheet_of checked_by rows bytes_rows first not_above_event not_above_watched leads_over any_below each
bus_checked = (refl, refl)

pub bus_run : ran first_edition bus_sheet 12 50 ≡ wrote (finished 5) (listed 0 4 3 3 ∷ listed 3 4 1 6 ∷ listed 6 4 2 7 ∷ listed 7 4 0 10 ∷ listed 10 4 1 12 ∷ [])
unfolding sheet_of checked_by rows bytes_rows first not_above_event not_above_watched working_order leading_to leads_over any_below each given drive_cell latest unworked standing work work_all contributed worked records_at first_from first_tick written_of ran
bus_run = refl

-- of the worked run's two events, at ticks 0 and 5, one is below horizon 5, and both are below horizon 6
pub events_below_lem : (length (events_below 5 (sheet_of first_edition worked_sheet).drive) ≡ 1) × (length (events_below 6 (sheet_of first_edition worked_sheet).drive) ≡ 2)
unfolding sheet_of events_below each
events_below_lem = (refl, refl)
