-- A pending change: the tick at which it is due, the module's position in the working order, and the value that it gives.
use Rattle.std.specs.Prelude.{List, [], ◌∷◌, ℕ, eqb, if◌then◌else◌}

pub record Change : Type 0 where
  pub due : ℕ
  pub position : ℕ
  pub value : ℕ

-- the changes that stay pending after tick t
unfoldable pub not_due : ℕ → List Change → List Change
not_due t [] = []
not_due t (x ∷ xs) = if eqb x.due t then not_due t xs else x ∷ not_due t xs
