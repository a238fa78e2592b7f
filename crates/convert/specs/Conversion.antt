-- Document 02, W-207: what converting a sheet answers, and what the output then holds.
use Rattle.std.specs.Prelude.{false, List, [], ◌∷◌, ◌++◌, ℕ, ltb}
use Rattle.sheet.specs.declared.Edition.{Edition}
use Rattle.sheet.specs.Enumerate.{each}
use Rattle.sheet.specs.Layout.{modules_counted, module_place, module_at}
use Rattle.sheet.specs.Outcome.{Outcome}
use Rattle.sheet.specs.Refusal.{Row, ◌at◌when◌, rows, first}
use Rattle.format.specs.Made.{Makes, sheet_made}
use Rattle.convert.specs.Converted.{converted}

-- 22 a kind above 9 for the first edition; the second has every kind of the first
abbrev pub kind_not_in_first : ℕ
kind_not_in_first = 22

-- its place is the record's first byte in the given sheet
abbrev pub kind_rows : Edition → Edition → List ℕ → ℕ → List Row
kind_rows from to s m = (kind_not_in_first at module_place from s m when ltb to.greatest (module_at from s m).kind) ∷ []

-- the sheet's check in its own edition, then 22
unfoldable pub conversion_rows : Edition → Edition → List ℕ → List Row
conversion_rows from to s = rows false from s ++ each (modules_counted s) (kind_rows from to s)

-- then 23
abbrev pub Converts : Edition → Edition → List ℕ → List ℕ → Outcome → List ℕ → Type 0
Converts from to s output answer after = Makes (first (conversion_rows from to s)) (sheet_made (converted from to s)) output answer after
