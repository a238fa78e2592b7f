-- Document 02, W-208: pulses by the cells of watched nodes, and those of them that are shorter than a width.
use Rattle.std.specs.Prelude.{ltb, length, get_or, Bool, ◌&&◌, ◌≡◌, ℕ, ◌+◌, ◌-◌, ◌*◌, ◌<◌, if◌then◌else◌}
use mathlib.Core.List.{List, [], ◌∷◌, Memᴰ}
use Rattle.sheet.specs.Enumerate.{each}
use Rattle.sheet.specs.Sheet.{Sheet}
use Rattle.network.specs.Timeline.{Cells}
use Rattle.network.specs.Listing.{changes}
use Rattle.network.specs.Ends.{next_change}

-- the tick at which a stretch of a node's cells starts, the node, and its length in ticks
pub record Pulse : Type 0 where
  pub start : ℕ
  pub node : ℕ
  pub ticks : ℕ

-- in listing order: by tick, then by node, which is a byte
abbrev pub pulse_key : Pulse → ℕ
pulse_key p = 256 * p.start + p.node

-- A pulse (document 02's term) is a longest stretch of equal cells that starts after tick 0 and is ended by a change below the horizon.
pub record IsPulse (c : Cells) (horizon : ℕ) (p : Pulse) : Type 0 where
  pub after_first : 0 < p.start
  pub starts : c p.start p.node ≡ c (p.start - 1) p.node → ⊥
  pub equal : (k : ℕ) → k < p.ticks → c (p.start + k) p.node ≡ c p.start p.node
  pub ended : c (p.start + p.ticks) p.node ≡ c p.start p.node → ⊥
  pub below : p.start + p.ticks < horizon

-- one of a watched node that is shorter than the width
pub record IsShort (S : Sheet) (c : Cells) (horizon width : ℕ) (p : Pulse) : Type 0 where
  pub pulse : IsPulse c horizon p
  pub watched : Memᴰ p.node S.watched
  pub shorter : p.ticks < width

-- every such pulse and no other; they rise by tick, then by node, so none stands twice
pub record Pulses (S : Sheet) (c : Cells) (horizon width : ℕ) (pulses : List Pulse) : Type 0 where
  pub short : (p : Pulse) → Memᴰ p pulses → IsShort S c horizon width p
  pub all : (p : Pulse) → IsShort S c horizon width p → Memᴰ p pulses
  pub rise : (j k : ℕ) → j < k → k < length pulses → (d : Pulse) → pulse_key (get_or pulses j d) < pulse_key (get_or pulses k d)

-- A stretch that starts at a tick after tick 0, is ended below the horizon, and is shorter than the width.
abbrev pub to_report : ℕ → ℕ → ℕ → ℕ → Bool
to_report horizon width start end = ltb 0 start && ltb end horizon && ltb (end - start) width

-- from a tick up to its end
abbrev pub pulse_of : ℕ → ℕ → ℕ → Pulse
pulse_of start node end = record { start = start; node = node; ticks = end - start }

-- those that start at a tick, over nodes that rise: the node changes there, and the stretch lasts up to its next change
unfoldable pub pulses_at : Cells → ℕ → ℕ → ℕ → List ℕ → List Pulse
pulses_at c horizon width t [] = []
pulses_at c horizon width t (v ∷ vs) =
    if changes c v t && to_report horizon width t (next_change c horizon v t)
    then pulse_of t v (next_change c horizon v t) ∷ pulses_at c horizon width t vs
    else pulses_at c horizon width t vs

-- those of all ticks below the horizon
abbrev pub short_pulses : Sheet → Cells → ℕ → ℕ → List Pulse
short_pulses S c horizon width = each horizon (λ t. pulses_at c horizon width t S.watched)
