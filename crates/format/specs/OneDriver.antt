-- Document 02, W-209: sheets with one driver a node, and the table of refusals with the row of 9, which it had until then.
use Rattle.std.specs.Prelude.{Bool, List, [], ◌∷◌, ◌++◌, ◌≡◌, ℕ, ◌<◌}
use Rattle.sheet.specs.declared.Edition.{Edition}
use Rattle.sheet.specs.Enumerate.{each}
use Rattle.sheet.specs.Limits.{most_modules}
use Rattle.sheet.specs.Sheet.{Sheet, module_count, output_of}
use Rattle.sheet.specs.Layout.{nodes_counted, modules_place, modules_counted, module_place, module_at, sheet_of}
use Rattle.sheet.specs.Wiring.{driven_by}
use Rattle.sheet.specs.Outcome.{Outcome}
use Rattle.sheet.specs.Refusal.{Row, ◌at◌when◌, count_rows, module_rows, start_rows, first}
use Rattle.sheet.specs.Refusal.{nodes_section, drive_section, first_events_section, watched_section, left_over_rows, loops_section}

-- no two modules drive one node
abbrev pub OneDriver : Sheet → Type 0
OneDriver S = (a b : ℕ) → a < module_count S → b < module_count S → output_of S a ≡ output_of S b → a ≡ b

-- a module: output already driven by an earlier record
abbrev pub already_driven_rows : Edition → List ℕ → ℕ → List Row
already_driven_rows e s m = (9 at module_place e s m when driven_by (sheet_of e s) m (module_at e s m).output) ∷ []

-- it stood after the module's other rows
abbrev pub modules_section_with9 : Edition → List ℕ → List Row
modules_section_with9 e s =
    count_rows s (modules_place s) 0 most_modules ++ each (modules_counted s) (λ m. module_rows e s m ++ already_driven_rows e s m)

unfoldable pub rows_with9 : Bool → Edition → List ℕ → List Row
rows_with9 strict e s =
    nodes_section s
    ++ modules_section_with9 e s
    ++ each (nodes_counted s) (start_rows e s)
    ++ drive_section e s
    ++ first_events_section strict e s
    ++ watched_section e s
    ++ left_over_rows e s
    ++ loops_section (sheet_of e s)

-- what checking a sheet answered, strictly or not
abbrev pub checked_with9 : Bool → Edition → List ℕ → Outcome
checked_with9 strict e s = first (rows_with9 strict e s)
