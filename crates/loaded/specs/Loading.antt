-- Document 02, W-210: what loading a sheet answers, and what the output then holds.
use Rattle.std.specs.Prelude.{Bool, false, ◌&&◌, ◌||◌, List, [], ◌∷◌, ◌++◌, ℕ, ◌+◌, eqb, ltb, length}
use Rattle.sheet.specs.declared.Edition.{Edition}
use Rattle.sheet.specs.Limits.{most_events}
use Rattle.sheet.specs.Outcome.{Outcome}
use Rattle.sheet.specs.Refusal.{Row, ◌at◌when◌, rows, first}
use Rattle.format.specs.Made.{Makes, sheet_made}
use Rattle.loaded.specs.Loaded.{inputs_in, loaded}

-- 26 inputs plus n above 1,024, or n above 0 with no input
abbrev pub drawn_too_many : ℕ
drawn_too_many = 26

abbrev pub too_many : ℕ → ℕ → Bool
too_many inputs n = ltb most_events (inputs + n) || ltb 0 n && eqb inputs 0

abbrev pub drawn_rows : ℕ → ℕ → List Row
drawn_rows inputs n = (drawn_too_many at 0 when too_many inputs n) ∷ []

-- the sheet's check in its own edition, then 26
unfoldable pub load_rows : Edition → List ℕ → ℕ → List Row
load_rows e s n = rows false e s ++ drawn_rows (length (inputs_in e s)) n

-- then 23
abbrev pub Loads : Edition → List ℕ → ℕ → ℕ → List ℕ → Outcome → List ℕ → Type 0
Loads e s seed n output answer after = Makes (first (load_rows e s n)) (sheet_made (loaded e s seed n)) output answer after
