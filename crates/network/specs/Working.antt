-- Document 01, "Working and renumbering", with document 02's W-209: a sheet is worked from its bytes, the horizon and an order of its
-- modules for each tick.
use Rattle.std.specs.Prelude.{◌&&◌, List, [], ◌∷◌, ℕ, zero, suc, eqb, if◌then◌else◌}
use Rattle.level.specs.Join.{joined}
use Rattle.level.specs.Level.{unknown}
use Rattle.sheet.specs.Sheet.{Sheet}
use Rattle.sheet.specs.Wiring.{is_input}
use Rattle.network.specs.Timeline.{Cells, drive_cell, contribution, from_drivers}

-- what modules contribute, as it stands: by tick, then by module
abbrev pub Contributions : Type 0
Contributions = ℕ → ℕ → ℕ

-- At first no module's contribution is settled: it stands at X.
unfoldable pub unworked : Contributions
unworked t m = unknown

-- The cells as contributions stand. Inputs' cells are settled. A driven node's joins what stands of all its drivers: it is X until all
-- their contributions are settled, since X joined with any value is X, and then it is their join.
unfoldable pub standing : Sheet → Contributions → Cells
standing S k t v = if is_input S v then drive_cell S.drive v t else joined (from_drivers S (k t) v)

-- To work a module at a tick is to settle its contribution at that tick by its equation over the cells as they then stand.
unfoldable pub work : Sheet → ℕ → Contributions → ℕ → Contributions
work S t k m u n = if eqb u t && eqb n m then contribution S (standing S k) m t else k u n

-- the modules of a list, one after the other, each over the cells left so far
unfoldable pub work_all : Sheet → ℕ → Contributions → List ℕ → Contributions
work_all S t k [] = k
work_all S t k (m ∷ ms) = work_all S t (work S t k m) ms

-- Ticks are taken in turn; in each, the modules are worked in that tick's order. Nothing else settles a contribution.
unfoldable pub contributed : Sheet → (ℕ → List ℕ) → ℕ → Contributions
contributed S orders zero = unworked
contributed S orders (suc t) = work_all S t (contributed S orders t) (orders t)

-- the cells that the ticks below a bound leave
unfoldable pub worked : Sheet → (ℕ → List ℕ) → ℕ → Cells
worked S orders t = standing S (contributed S orders t)
