-- What keeps the pending changes, behind its laws: how it keeps them is known nowhere else.
use mathlib.Core.List.{List, [], ◌∷◌, ◌++◌, Memᴰ}
use Rattle.std.specs.Prelude.{◌↔◌, ◌≡◌, ℕ, ◌+◌, ◌<◌, ◌≤◌, length}
use Rattle.sheet.specs.Limits.{most_modules, last_value, longest_delay}
use Rattle.model.specs.Change.{Change, not_due}

-- a change that may be kept at tick t: due later, within the longest delay, of one of so many modules, with a value
pub record Keepable (t : ℕ) (x : Change) : Type 0 where
  pub later : t < x.due
  pub near : x.due ≤ t + longest_delay
  pub position : x.position < most_modules
  pub value : x.value ≤ last_value

-- a change that is put beside those held: all may be kept, and none of them is of its module and tick
pub record Fits (t : ℕ) (held : List Change) (x : Change) : Type 0 where
  pub keepable : Keepable t x
  pub others : (y : Change) → Memᴰ y held → Keepable t y
  pub apart : (y : Change) → Memᴰ y held → y.position ≡ x.position → y.due ≡ x.due → ⊥

pub record Store : Type 1 where
  -- what is kept, and that it holds exactly the changes of a list
  pub Kept : Type 0
  pub Holds : Kept → List Change → Type 0
  -- nothing kept; one change more; those due at a tick; what is kept without them; how many are kept
  pub nothing : Kept
  pub put : Kept → Change → Kept
  pub due : Kept → ℕ → List Change
  pub rest : Kept → ℕ → Kept
  pub count : Kept → ℕ
  -- the laws
  pub holds_nothing : Holds nothing []
  pub holds_put : (k : Kept) (held : List Change) (t : ℕ) (x : Change) → Holds k held → Fits t held x → Holds (put k x) (held ++ x ∷ [])
  pub tells_due : (k : Kept) (held : List Change) (t : ℕ) → Holds k held → (x : Change)
      → Memᴰ x (due k t) ↔ (Memᴰ x held × (x.due ≡ t))
  pub holds_rest : (k : Kept) (held : List Change) (t : ℕ) → Holds k held → Holds (rest k t) (not_due t held)
  pub rest_same : (k : Kept) (held : List Change) (t : ℕ) → Holds k held → due k t ≡ [] → rest k t ≡ k
  pub counts : (k : Kept) (held : List Change) → Holds k held → count k ≡ length held
