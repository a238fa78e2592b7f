-- The rows' modules: how many, and which; and their starts. Assumes nothing.
use mathlib.Core.List.{List, [], ◌∷◌}
use mathlib.Core.Path.{◌≡◌, refl, sym, ap, ◌∙◌}
use Prim.Native.Nat.{ℕ, zero, suc, ◌<◌}
use native.Mathlib.Nat.{le_of_suc-le-suc, not-suc-le-zero}
use lib.ListN.{length, get_or, length-map}
use Rattle.level.specs.Table.{start_of}
use Rattle.sheet.specs.declared.Module.{Module}
use Rattle.sheet.proofs.Listed.{get_or-map_within}
use Rattle.model.specs.Passes.{module_in}
use Rattle.model.specs.Starts.{StartsOf}
use Rattle.tick.specs.declared.row.Row.{Row}
use Rattle.tick.specs.Rows.{no_row, row_in, modules_in, starts_in}
use Rattle.tick.specs.Rest.{Known, AllKnown, StartsIn}
use Rattle.tick.specs.Tally.{driven_at}

pub length_modules : (rows : List Row) → length (modules_in rows) ≡ length rows
length_modules rows = length-map rows (λ (r : Row). r.module)

pub module_at : (rows : List Row) (k : ℕ) → module_in (modules_in rows) k ≡ (row_in rows k).module
module_at [] k = refl
module_at (r ∷ rows) zero = refl
module_at (r ∷ rows) (suc k) = module_at rows k

-- what is read at a position is the row there
pub row_read : (rows : List Row) (k : ℕ) (r : Row) → k < length rows → get_or rows k r ≡ row_in rows k
row_read [] k r h = absurd (not-suc-le-zero h)
row_read (x ∷ rows) zero r h = refl
row_read (x ∷ rows) (suc k) r h = row_read rows k r (le_of_suc-le-suc h)

-- a number that was read as a module's output
pub node_read : (rows : List Row) (k : ℕ) (r : Row) {w : ℕ} → k < length rows → w ≡ (get_or rows k r).module.output → w ≡ driven_at rows k
node_read rows k r h e = e ∙ ap (λ (x : Row). x.module.output) (row_read rows k r h)

module _ (rows : List Row) where
  pub known_at : AllKnown (modules_in rows) → (k : ℕ) → k < length rows → Known (row_in rows k).module.kind (row_in rows k).module.parameter
  known_at all k h = rw (module_at rows k) at (all k (rw (length_modules rows) h))

  -- at each module's position stands the start that its kind gives
  pub starts_of : StartsIn rows → StartsOf (modules_in rows) (starts_in rows)
  starts_of kept k h =
      let l : k < length rows = rw (length_modules rows) at h in
      get_or-map_within (λ (r : Row). r.start) rows k no_row 0 l
      ∙ kept k l
      ∙ ap (λ (m : Module). start_of m.kind) (sym (module_at rows k))
