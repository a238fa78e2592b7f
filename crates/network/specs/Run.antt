-- Document 01, "Where each refusal is met": what a run answers and what the buffer then holds, for any bytes, horizon and buffer.
use Rattle.std.specs.Prelude.{Bool, List, [], ◌∷◌, ◌≡◌, ℕ, suc, ltb, length, if◌then◌else◌}
use Rattle.sheet.specs.declared.Edition.{Edition}
use Rattle.sheet.specs.Enumerate.{each}
use Rattle.sheet.specs.Limits.{greatest_horizon, pending_limit}
use Rattle.sheet.specs.Outcome.{Outcome, finished, refused}
use Rattle.sheet.specs.Range.{zero_or_above}
use Rattle.sheet.specs.Sheet.{Sheet}
use Rattle.sheet.specs.WorkingOrder.{working_order}
use Rattle.sheet.specs.Layout.{sheet_of}
use Rattle.sheet.specs.Refusal.{checked}
use Rattle.network.specs.Timeline.{Cells}
use Rattle.network.specs.Working.{worked}
use Rattle.network.specs.Listing.{listing, pending}
use Rattle.network.specs.Ends.{Ended, ended_listing}
use Rattle.network.specs.Buffer.{room, buffer_after}

-- A refusal at a tick: its number, the tick, whether its condition is met, and the records that it leaves.
pub record TickRow : Type 0 where
  pub number : ℕ
  pub tick : ℕ
  pub met : Bool
  pub left : List Ended

-- 19 the buffer cannot take all records of this tick; then 20 more than 4,096 changes pending after it.
-- 19 leaves the records of all earlier ticks, and values that still last end at its tick; 20 those and its own tick's, and such values
-- end at the tick after.
abbrev pub tick_rows : Sheet → Cells → ℕ → ℕ → ℕ → List TickRow
tick_rows S c horizon bytes t =
    record { number = 19; tick = t; met = ltb (room bytes) (length (listing S c (suc t))); left = ended_listing S c t }
    ∷ record { number = 20; tick = t; met = ltb pending_limit (length (pending S c horizon t)); left = ended_listing S c (suc t) }
    ∷ []

-- what a run answers, and the records that it has written
pub record Written : Type 0 where
  pub answer : Outcome
  pub records : List Ended

abbrev pub wrote : Outcome → List Ended → Written
wrote answer records = record { answer = answer; records = records }

-- the first row that is met; without one, a finished run with the count of all records
unfoldable pub first_tick : List TickRow → List Ended → Written
first_tick [] all = wrote (finished (length all)) all
first_tick (r ∷ rs) all = if r.met then wrote (refused r.number r.tick (length r.left)) r.left else first_tick rs all

-- what cells give for a horizon and a buffer of so many bytes
unfoldable pub written_of : Sheet → Cells → ℕ → ℕ → Written
written_of S c horizon bytes = first_tick (each horizon (tick_rows S c horizon bytes)) (ended_listing S c horizon)

-- the cells of a sheet: worked in its working order
abbrev pub cells_of : Sheet → ℕ → Cells
cells_of S horizon = worked S (λ t. working_order S) horizon

-- the run of a sheet that is accepted, to a horizon in its range
abbrev pub ran_sheet : Sheet → ℕ → ℕ → Written
ran_sheet S horizon bytes = written_of S (cells_of S horizon) horizon bytes

-- a refusal before any tick writes nothing
abbrev pub unless_refused : Outcome → Written → Written
unless_refused (finished n) run = run
unless_refused (refused n p k) run = wrote (refused n p k) []

abbrev pub after_check : Sheet → ℕ → ℕ → Outcome → Written
after_check S horizon bytes check = unless_refused check (ran_sheet S horizon bytes)

abbrev pub is_horizon_outside : ℕ → Bool
is_horizon_outside horizon = zero_or_above greatest_horizon horizon

-- 1 horizon 0 or above 1,000,000; then the sheet's refusals; then the ticks
unfoldable pub ran : Edition → List ℕ → ℕ → ℕ → Written
ran e s horizon bytes = if is_horizon_outside horizon then wrote (refused 1 0 0) [] else after_check (sheet_of e s) horizon bytes (checked e s)

-- What a run leaves: the answer of what it wrote, and its records in the buffer.
pub record Leaves (run : Written) (before : List ℕ) (answer : Outcome) (after : List ℕ) : Type 0 where
  pub answered : answer ≡ run.answer
  pub left : after ≡ buffer_after run.records before

-- the run of a sheet's bytes over a buffer
abbrev pub RunLeaves : Edition → List ℕ → ℕ → List ℕ → Outcome → List ℕ → Type 0
RunLeaves e s horizon buffer answer after = Leaves (ran e s horizon (length buffer)) buffer answer after
