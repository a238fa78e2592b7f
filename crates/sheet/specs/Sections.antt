-- The four sections by their number, 0 the nodes' to 3 the watched nodes':
-- where each stands, the rows met in it and right after it, and what reading it gives.
use Rattle.std.specs.Prelude.{Bool, List, ◌++◌, ◌≡◌, ℕ, zero, suc}
use Rattle.sheet.specs.declared.Edition.{Edition}
use Rattle.sheet.specs.declared.contents.Section.{Section}
use Rattle.sheet.specs.Enumerate.{each, listed}
use Rattle.sheet.specs.Contents.{filled}
use Rattle.sheet.specs.Layout.{nodes_counted, modules_place, drive_place, watched_place, sheet_end}
use Rattle.sheet.specs.Refusal.{Row}
use Rattle.sheet.specs.Refusal.{nodes_section, modules_section, start_rows, drive_section}
use Rattle.sheet.specs.Refusal.{first_events_section, watched_section, left_over_rows}

-- the place of a section; past the last, the sheet's end
abbrev pub place_of : Edition → List ℕ → ℕ → ℕ
place_of e s zero = 0
place_of e s (suc zero) = modules_place s
place_of e s (suc (suc zero)) = drive_place e s
place_of e s (suc (suc (suc zero))) = watched_place e s
place_of e s (suc (suc (suc (suc k)))) = sheet_end e s

-- after the modules, the nodes' bytes
abbrev pub rows_of_modules : Edition → List ℕ → List Row
rows_of_modules e s = modules_section e s ++ each (nodes_counted s) (start_rows e s)

-- after the drive, in a strict check, the inputs' first events
abbrev pub rows_of_drive : Bool → Edition → List ℕ → List Row
rows_of_drive strict e s = drive_section e s ++ first_events_section strict e s

-- after the watched nodes, the bytes left over
abbrev pub rows_of_watched : Edition → List ℕ → List Row
rows_of_watched e s = watched_section e s ++ left_over_rows e s

abbrev pub rows_of : Bool → Edition → List ℕ → ℕ → List Row
rows_of strict e s zero = nodes_section s
rows_of strict e s (suc zero) = rows_of_modules e s
rows_of strict e s (suc (suc zero)) = rows_of_drive strict e s
rows_of strict e s (suc (suc (suc k))) = rows_of_watched e s

-- What reading a section gives where none of its rows is met: the count and the records that stand there, in an array filled up with blanks.
pub record SectionRead {A : Type 0} {most : ℕ} (blank : A) (n : ℕ) (stands : ℕ → A) (r : Section A most) : Type 0 where
  pub counted : r.count ≡ n
  pub held : r.records ≡ filled most blank (listed n stands)
