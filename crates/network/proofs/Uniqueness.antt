-- Timelines that satisfy a sheet are the same, so they are the worked ones: inputs' cells are the drive's, and a driven node's equation has one value
-- over the same cells. Assumes nothing.
use mathlib.Core.List.{List}
use mathlib.Core.Path.{◌≡◌, sym, ap, ◌∙◌}
use Prim.Native.Nat.{ℕ, ◌<◌}
use Rattle.level.specs.Join.{joined}
use Rattle.sheet.specs.Sheet.{Sheet, node_count}
use Rattle.network.specs.Order.{ValidOrder}
use Rattle.network.specs.Satisfied.{Satisfied}
use Rattle.network.specs.Timeline.{Cells, contributions}
use Rattle.network.specs.Working.{worked}
use Rattle.network.proofs.Equation.{equation_local}
use Rattle.network.proofs.Existence.{existence, from_drivers_same}
use Rattle.network.proofs.Induction.{every_cell}
use Rattle.network.proofs.Wired.{Wired}

module _ (S : Sheet) (w : Wired S) (orders : ℕ → List ℕ) (horizon : ℕ) (valid : (t : ℕ) → t < horizon → ValidOrder S (orders t)) where
  -- any two that satisfy the sheet
  pub agree : (c c' : Cells) → Satisfied S horizon c → Satisfied S horizon c' → (t v : ℕ) → t < horizon → v < node_count S → c t v ≡ c' t v
  agree c c' s s' =
      every_cell S w (λ t v. c t v ≡ c' t v) horizon
      (λ t v h i. s.inputs t v h i ∙ sym (s'.inputs t v h i))
      (λ t v h d read.
      s.driven t v h d
      ∙ ap joined (from_drivers_same S (contributions S c t) (contributions S c' t) v (λ m l e. equation_local S c c' m t (read m l e)))
      ∙ sym (s'.driven t v h d))
      orders valid

  pub uniqueness : (c : Cells) → Satisfied S horizon c → (t v : ℕ) → t < horizon → v < node_count S → c t v ≡ worked S orders horizon t v
  uniqueness c s = agree c (worked S orders horizon) s (existence S orders horizon valid)
