-- What the check of an event tells: the first of its rows that is met, and without one the event.
use Rattle.std.specs.Prelude.{Bool, false, List, ◌≡◌, ℕ, zero, suc, leb, Option, None, Some, Result}
use Rattle.sheet.specs.declared.Edition.{Edition}
use Rattle.sheet.specs.declared.Event.{Event}
use Rattle.sheet.specs.declared.refusal.Refusal.{Refusal}
use Rattle.sheet.specs.Flags.{Flags}
use Rattle.sheet.specs.Layout.{nodes_counted, event_place, event_at, sheet_of}
use Rattle.sheet.specs.Refusal.{key, event_rows}
use Rattle.sheet.specs.Told.{Told}
use Rattle.sheet.specs.Wiring.{is_driven}

-- the event before: none before the first
abbrev pub event_before : Edition → List ℕ → ℕ → Option Event
event_before e s zero = None
event_before e s (suc k) = Some (event_at e s k)

-- not above the event before, by tick and then by node
abbrev pub is_not_above : Event → Option Event → Bool
is_not_above event None = false
is_not_above event (Some last) = leb (key event) (key last)

-- of the event that stands at a place, where the nodes are counted, those that modules drive are flagged, and the event before is known
abbrev pub EventTold : List ℕ → ℕ → ℕ → List Bool → Option Event → Result Event Refusal → Type 0
EventTold s at nodes driven before r =
    (e : Edition) (k : ℕ) → at ≡ event_place e s k → nodes ≡ nodes_counted s
    → Flags driven (is_driven (sheet_of e s)) → before ≡ event_before e s k
    → Told (event_rows e s k) (λ x. x ≡ event_at e s k) r
