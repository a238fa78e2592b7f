-- Document 01, "The listing", with document 02's W-209: the records that cells give, and the changes pending after a tick.
use Rattle.std.specs.Prelude.{Bool, true, ◌&&◌, not, List, [], ◌∷◌, ℕ, zero, suc, ◌+◌, ◌*◌, eqb, ltb, if◌then◌else◌}
use Rattle.sheet.specs.Enumerate.{each}
use Rattle.sheet.specs.Sheet.{Sheet, module_count, module_of}
use Rattle.network.specs.Timeline.{Cells, contributions}

-- a node, or a module's contribution, has a first value or a change at a tick: tick 0, or a value that differs from the one before
abbrev pub changes : Cells → ℕ → ℕ → Bool
changes c v zero = true
changes c v (suc t) = not (eqb (c (suc t) v) (c t v))

-- a record of document 01's listing: tick, node, value; Ends has the end that it gets
pub record Record : Type 0 where
  pub tick : ℕ
  pub node : ℕ
  pub value : ℕ

-- by tick, then by node: nodes are bytes
abbrev pub record_key : Record → ℕ
record_key r = 256 * r.tick + r.node

abbrev pub record_of : Cells → ℕ → ℕ → Record
record_of c t v = record { tick = t; node = v; value = c t v }

-- the records of a tick, over nodes that rise
unfoldable pub records_at : Cells → ℕ → List ℕ → List Record
records_at c t [] = []
records_at c t (v ∷ vs) = if changes c v t then record_of c t v ∷ records_at c t vs else records_at c t vs

-- the records of all ticks below a bound
abbrev pub listing : Sheet → Cells → ℕ → List Record
listing S c n = each n (λ t. records_at c t S.watched)

-- A pending change: a module and the tick at which its contribution changes.
pub record Pending : Type 0 where
  pub driver : ℕ
  pub due : ℕ

-- those of a module after tick t: ticks u above t, at most t + d and below the horizon, where its contribution at u differs from that at
-- u - 1
abbrev pub pending_of : Sheet → Cells → ℕ → ℕ → ℕ → List Pending
pending_of S c horizon t m =
    each (module_of S m).delay
    (λ k. if ltb (t + suc k) horizon && changes (contributions S c) m (t + suc k) then record { driver = m; due = t + suc k } ∷ [] else [])

-- the changes pending after tick t
abbrev pub pending : Sheet → Cells → ℕ → ℕ → List Pending
pending S c horizon t = each (module_count S) (pending_of S c horizon t)
