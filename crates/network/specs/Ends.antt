-- Document 02, W-204: the listing with ends. A record gets the end of its value: the tick of its node's next change below a bound, or the
-- bound. The bound is the horizon; after refusal 19 it is the refused tick, after 20 the tick after it.
use Rattle.std.specs.Prelude.{Bool, List, map, ℕ, zero, suc, ◌-◌, if◌then◌else◌}
use Rattle.sheet.specs.Sheet.{Sheet}
use Rattle.network.specs.Timeline.{Cells}
use Rattle.network.specs.Listing.{Record, record_key, changes, listing}

-- the first of n ticks from t on at which the test passes, and the tick after them where there is none
unfoldable pub first_from : (ℕ → Bool) → ℕ → ℕ → ℕ
first_from test t zero = t
first_from test t (suc n) = if test t then t else first_from test (suc t) n

-- the tick of a node's next change after tick t and below the bound, or the bound
abbrev pub next_change : Cells → ℕ → ℕ → ℕ → ℕ
next_change c bound v t = first_from (changes c v) (suc t) (bound - suc t)

-- a record as it is listed: where a value starts, as document 01 has it, and where it ends
pub record Ended : Type 0 where
  pub start : Record
  pub end : ℕ

-- ends do not matter to the order
abbrev pub ended_key : Ended → ℕ
ended_key r = record_key r.start

abbrev pub ended_of : Cells → ℕ → Record → Ended
ended_of c bound r = record { start = r; end = next_change c bound r.node r.tick }

-- the listing of the ticks below a bound, with the ends that its values have below it
abbrev pub ended_listing : Sheet → Cells → ℕ → List Ended
ended_listing S c bound = map (ended_of c bound) (listing S c bound)
