-- Document 01 before W-209, which had one driver for each node: what it said of cells, of pending changes and of a run, so that a theorem can
-- say that nothing of it has changed for sheets with one driver a node.
use Rattle.std.specs.Prelude.{T, ltb, length, ◌&&◌, false, List, [], ◌∷◌, ◌≡◌, ℕ, suc, ◌+◌, ◌<◌, if◌then◌else◌}
use Rattle.sheet.specs.declared.Edition.{Edition}
use Rattle.sheet.specs.Enumerate.{each}
use Rattle.sheet.specs.Limits.{pending_limit}
use Rattle.sheet.specs.Outcome.{refused}
use Rattle.sheet.specs.Sheet.{Sheet, module_count, module_of, output_of}
use Rattle.sheet.specs.Layout.{sheet_of}
use Rattle.sheet.specs.Wiring.{is_input}
use Rattle.format.specs.OneDriver.{checked_with9}
use Rattle.network.specs.Timeline.{Cells, drive_cell, contribution}
use Rattle.network.specs.Listing.{Pending, changes, listing}
use Rattle.network.specs.Ends.{ended_listing}
use Rattle.network.specs.Buffer.{room}
use Rattle.network.specs.Run.{TickRow, Written, first_tick, is_horizon_outside, unless_refused, wrote}

-- each input's cells are those of the drive, and each driven node's cells those of its driver's equation
pub record SatisfiedByOne (S : Sheet) (horizon : ℕ) (c : Cells) : Type 0 where
  pub inputs : (t v : ℕ) → t < horizon → T (is_input S v) → c t v ≡ drive_cell S.drive v t
  pub modules : (t m : ℕ) → t < horizon → m < module_count S → c t (output_of S m) ≡ contribution S c m t

-- a module's pending changes were those of its output: where cell u differs from cell u - 1
abbrev pub pending_at_output : Sheet → Cells → ℕ → ℕ → ℕ → List Pending
pending_at_output S c horizon t m =
    each (module_of S m).delay
    (λ k. if ltb (t + suc k) horizon && changes c (output_of S m) (t + suc k) then record { driver = m; due = t + suc k } ∷ [] else [])

abbrev pub pending_at_outputs : Sheet → Cells → ℕ → ℕ → List Pending
pending_at_outputs S c horizon t = each (module_count S) (pending_at_output S c horizon t)

-- a run, over the cells of a set of timelines: refusals 19 and 20 with these changes
abbrev pub tick_rows_before : Sheet → Cells → ℕ → ℕ → ℕ → List TickRow
tick_rows_before S c horizon bytes t =
    record { number = 19; tick = t; met = ltb (room bytes) (length (listing S c (suc t))); left = ended_listing S c t }
    ∷ record { number = 20; tick = t; met = ltb pending_limit (length (pending_at_outputs S c horizon t)); left = ended_listing S c (suc t) }
    ∷ []

abbrev pub written_before : Sheet → Cells → ℕ → ℕ → Written
written_before S c horizon bytes = first_tick (each horizon (tick_rows_before S c horizon bytes)) (ended_listing S c horizon)

-- 1, then the sheet's refusals with 9 among them, then the ticks
abbrev pub ran_before : Edition → List ℕ → Cells → ℕ → ℕ → Written
ran_before e s c horizon bytes =
    if is_horizon_outside horizon then wrote (refused 1 0 0) []
    else unless_refused (checked_with9 false e s) (written_before (sheet_of e s) c horizon bytes)
