-- Document 01, "Where each refusal is met", of a run: each of its answers with the condition in words, and the records that it leaves.
use Rattle.std.specs.Prelude.{List, [], ◌⊎◌, ◌≡◌, ℕ, suc, ◌<◌, ◌≤◌, length}
use Rattle.sheet.specs.declared.Edition.{Edition}
use Rattle.sheet.specs.Limits.{greatest_horizon, pending_limit}
use Rattle.sheet.specs.Outcome.{finished, refused}
use Rattle.sheet.specs.Sheet.{Sheet}
use Rattle.sheet.specs.Layout.{sheet_of}
use Rattle.format.specs.Condition.{Condition, FirstCondition}
use Rattle.network.specs.Timeline.{Cells}
use Rattle.network.specs.Listing.{listing, pending}
use Rattle.network.specs.Ends.{Ended, ended_listing}
use Rattle.network.specs.Buffer.{room}
use Rattle.network.specs.Run.{Written, wrote}

-- a tick passes: its records find room, and no more changes are pending after it than may be
pub record Passed (S : Sheet) (c : Cells) (horizon bytes t : ℕ) : Type 0 where
  pub room_left : length (listing S c (suc t)) ≤ room bytes
  pub few_pending : length (pending S c horizon t) ≤ pending_limit

-- a horizon in its range, and a sheet that meets the condition of no refusal
pub record Begins (e : Edition) (s : List ℕ) (horizon : ℕ) : Type 0 where
  pub some_tick : 0 < horizon
  pub few_ticks : horizon ≤ greatest_horizon
  pub none_met : (n p : ℕ) → Condition e s n p → ⊥

-- over cells c: those of a set of timelines that satisfies the sheet
module _ (e : Edition) (s : List ℕ) (c : Cells) (horizon bytes : ℕ) where
  abbrev pub Passes : ℕ → Type 0
  Passes = Passed (sheet_of e s) c horizon bytes

  -- the records of the ticks below a bound, with their ends
  abbrev pub listed : ℕ → List Ended
  listed = ended_listing (sheet_of e s) c

  -- the first tick that does not pass
  pub record FirstNotPassed (t : ℕ) : Type 0 where
    pub begins : Begins e s horizon
    pub below : t < horizon
    pub passed : (u : ℕ) → u < t → Passes u

  -- what a run has written, under the condition of its answer
  pub data RunCondition : Written → Type 0 where
    -- before reading: 1 horizon 0 or above 1,000,000
    horizon_outside : (horizon ≡ 0) ⊎ (greatest_horizon < horizon) → RunCondition (wrote (refused 1 0 0) [])
    -- then the sheet's refusals, 2 to 18 but 15: the first whose condition is met, front to back
    sheet_refused : {n p : ℕ} → 0 < horizon → horizon ≤ greatest_horizon → FirstCondition e s n p
        → RunCondition (wrote (refused n p 0) [])
    -- each tick, watched changes: 19 the buffer cannot take all records of this tick
    no_room : (t : ℕ) → FirstNotPassed t → room bytes < length (listing (sheet_of e s) c (suc t))
        → RunCondition (wrote (refused 19 t (length (listed t))) (listed t))
    -- each tick, then: 20 more than 4,096 changes pending after it
    crowded : (t : ℕ) → FirstNotPassed t → length (listing (sheet_of e s) c (suc t)) ≤ room bytes
        → pending_limit < length (pending (sheet_of e s) c horizon t)
        → RunCondition (wrote (refused 20 t (length (listed (suc t)))) (listed (suc t)))
    -- no refusal: a finished run
    whole : Begins e s horizon → ((t : ℕ) → t < horizon → Passes t)
        → RunCondition (wrote (finished (length (listed horizon))) (listed horizon))
