-- Zero-delay links between nodes, and a matrix that says of every two nodes whether one leads to the other.
-- It has a row and a column for every node that there may be.
use Rattle.std.specs.Prelude.{Bool, false, ◌||◌, List, [], ◌∷◌, ◌≡◌, ℕ, ◌<◌, min, get_or, take}
use Rattle.sheet.specs.declared.Module.{Module}
use Rattle.sheet.specs.Enumerate.{any_below}
use Rattle.sheet.specs.Limits.{most_nodes, most_modules}
use Rattle.sheet.specs.Sheet.{Sheet, no_module, node_count}
use Rattle.sheet.specs.Refusal.{Row, ◌at◌when◌}
pub use Rattle.sheet.specs.Loop.{links}

-- the sheet has these records for its modules, and so many nodes; what is past a greatest count is left out
pub record Network (records : List Module) (count : ℕ) (S : Sheet) : Type 0 where
  pub modules : S.modules ≡ take most_modules records
  pub nodes : node_count S ≡ min count most_nodes

-- one of the first n modules links the nodes
abbrev pub links_below : List Module → ℕ → ℕ → ℕ → Bool
links_below modules n u v = any_below n (λ m. links (get_or modules m no_module) u v)

-- what a matrix says of two nodes
abbrev pub entry : List (List Bool) → ℕ → ℕ → Bool
entry matrix u v = get_or (get_or matrix u []) v false

-- of every two bytes the matrix says what the test says
abbrev pub Holds : List (List Bool) → (ℕ → ℕ → Bool) → Type 0
Holds matrix test = (u v : ℕ) → u < most_nodes → v < most_nodes → entry matrix u v ≡ test u v

-- of every two bytes it says what it said before, or what the test says
pub record Adds (before : List (List Bool)) (test : ℕ → ℕ → Bool) (after : List (List Bool)) : Type 0 where
  pub says : Holds after (λ u v. entry before u v || test u v)

-- the same of one row
pub record RowAdds (before : List Bool) (test : ℕ → Bool) (after : List Bool) : Type 0 where
  pub says : (v : ℕ) → v < most_nodes → get_or after v false ≡ (get_or before v false || test v)

-- a node that a test says to lead to itself
abbrev pub diagonal_rows : (ℕ → ℕ → Bool) → ℕ → List Row
diagonal_rows test v = (18 at v when test v v) ∷ []
