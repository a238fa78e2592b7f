-- Pending changes in a flat list of numbers, in the order in which they were put.
use Rattle.std.specs.Prelude.{List, [], ◌∷◌, ◌++◌, ℕ, ◌+◌, ◌*◌, ◌/◌, ◌%◌, ◌<◌, eqb, if◌then◌else◌}
use Rattle.sheet.specs.Limits.{most_modules, pending_limit}
use Rattle.model.specs.Change.{Change}

-- as many as may be pending after a tick, and one more of each module
abbrev pub places : ℕ
places = pending_limit + most_modules

-- a change in one number
abbrev pub packed : Change → ℕ
packed x = x.due * 1024 + x.position * 4 + x.value

abbrev pub unpacked : ℕ → Change
unpacked p = record { due = p / 1024; position = p / 4 % 256; value = p % 4 }

-- what a change must be for its number to give it back
pub record Packable (x : Change) : Type 0 where
  pub position : x.position < 256
  pub value : x.value < 4

-- the numbers are those of the changes, in turn
pub data FlatHolds : List ℕ → List Change → Type 0 where
  none : FlatHolds [] []
  one : {x : Change} {k : List ℕ} {held : List Change} → Packable x → FlatHolds k held → FlatHolds (packed x ∷ k) (x ∷ held)

abbrev pub flat_put : List ℕ → Change → List ℕ
flat_put k x = k ++ packed x ∷ []

unfoldable pub flat_due : List ℕ → ℕ → List Change
flat_due [] t = []
flat_due (p ∷ k) t = if eqb (unpacked p).due t then unpacked p ∷ flat_due k t else flat_due k t

unfoldable pub flat_rest : List ℕ → ℕ → List ℕ
flat_rest [] t = []
flat_rest (p ∷ k) t = if eqb (unpacked p).due t then flat_rest k t else p ∷ flat_rest k t
