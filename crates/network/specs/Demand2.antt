-- The mission, demand 2: what stands in a listing, and what a run answers and writes, both by a set of timelines.
use Rattle.std.specs.Prelude.{T, length, get_or, ◌↔◌, ◌≡◌, ℕ, suc, ◌<◌, ◌≤◌}
use mathlib.Core.List.{List, Memᴰ}
use Rattle.sheet.specs.declared.Edition.{Edition}
use Rattle.sheet.specs.Outcome.{finished, refused}
use Rattle.sheet.specs.Sheet.{Sheet}
use Rattle.sheet.specs.Layout.{sheet_of}
use Rattle.network.specs.Timeline.{Cells}
use Rattle.network.specs.Listing.{Record, changes}
use Rattle.network.specs.Ends.{Ended, ended_key}
use Rattle.network.specs.Run.{Written, ran}
use Rattle.network.specs.RunConditions.{RunCondition}

-- A watched node's first value, or its change, at a tick below a bound, with that cell's value.
pub record Shown (S : Sheet) (c : Cells) (bound : ℕ) (r : Record) : Type 0 where
  pub below : r.tick < bound
  pub watched : Memᴰ r.node S.watched
  pub change : T (changes c r.node r.tick)
  pub value : r.value ≡ c r.tick r.node

-- The end of the value that a node has from tick t on: up to it every cell is the same, and there the node changes, or it is the bound.
pub record Lasts (c : Cells) (bound v t end : ℕ) : Type 0 where
  pub later : t < end
  pub within : end ≤ bound
  pub same : (u : ℕ) → t ≤ u → u < end → c u v ≡ c t v
  pub change : end < bound → T (changes c v end)

-- such a record, with the end that the timelines give
pub record ShownUntil (S : Sheet) (c : Cells) (bound : ℕ) (r : Ended) : Type 0 where
  pub start : Shown S c bound r.start
  pub end : Lasts c bound r.start.node r.start.tick r.end

-- A listing has exactly these records; they rise by tick, then by node, so none stands twice.
pub record Lists (S : Sheet) (c : Cells) (bound : ℕ) (records : List Ended) : Type 0 where
  pub shown : (r : Ended) → Memᴰ r records → ShownUntil S c bound r
  pub all : (r : Ended) → ShownUntil S c bound r → Memᴰ r records
  pub rise : (j k : ℕ) → j < k → k < length records → (d : Ended) → ended_key (get_or records j d) < ended_key (get_or records k d)

-- What a run of the bytes s answers and writes, by the cells c of a set of timelines that satisfies the sheet.
pub record RunOf (e : Edition) (s : List ℕ) (horizon bytes : ℕ) (c : Cells) : Type 0 where
  -- each answer, with the records that it leaves, is given under its condition and under no other
  pub answers : (w : Written) → (ran e s horizon bytes ≡ w) ↔ RunCondition e s c horizon bytes w
  -- a finished run has written exactly the first values and changes, and answers their number
  pub lists : (count : ℕ) → (ran e s horizon bytes).answer ≡ finished count
      → Lists (sheet_of e s) c horizon (ran e s horizon bytes).records
  pub counts : (count : ℕ) → (ran e s horizon bytes).answer ≡ finished count → count ≡ length (ran e s horizon bytes).records
  -- 19 leaves exactly those below the tick that it refuses, 20 those below the tick after it; values that still last end there
  pub left_by_19 : (t count : ℕ) → (ran e s horizon bytes).answer ≡ refused 19 t count
      → Lists (sheet_of e s) c t (ran e s horizon bytes).records
  pub left_by_20 : (t count : ℕ) → (ran e s horizon bytes).answer ≡ refused 20 t count
      → Lists (sheet_of e s) c (suc t) (ran e s horizon bytes).records
