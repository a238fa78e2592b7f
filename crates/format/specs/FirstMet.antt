-- A row of the refusals' table is the first that is met, front to back.
use Rattle.std.specs.Prelude.{true, false, ◌≡◌, ℕ}
use mathlib.Core.List.{List, ◌∷◌, ◌++◌, Memᴰ}
use Rattle.sheet.specs.Refusal.{Row, ◌at◌when◌}

pub record FirstMet (rows : List Row) (number place : ℕ) : Type 0 where
  pub before : List Row
  pub after : List Row
  -- the row stands there with its condition met
  pub there : rows ≡ before ++ (number at place when true) ∷ after
  -- and none before it is
  pub none_before : (r : Row) → Memᴰ r before → r.met ≡ false
