-- One section after another: the bytes' rows are those of the four sections in their order, and once those before are passed, the next one's first row
-- met decides. Assumes nothing.
use mathlib.Core.Bool.{Bool}
use mathlib.Core.List.{List, [], ◌++◌, append_assoc}
use mathlib.Core.Path.{◌≡◌, ap, ◌∙◌}
use Prim.Native.Nat.{ℕ, ◌<◌}
use Rattle.sheet.specs.declared.Edition.{Edition}
use Rattle.sheet.specs.declared.refusal.Refusal.{Refusal}
use Rattle.sheet.specs.Enumerate.{each}
use Rattle.sheet.specs.Layout.{nodes_counted}
use Rattle.sheet.specs.Outcome.{finished}
use Rattle.sheet.specs.Refusal.{Row, first, start_rows, left_over_rows, nodes_section, modules_section, drive_section, first_events_section, watched_section, bytes_rows}
use Rattle.sheet.specs.Sections.{rows_of, rows_of_modules, rows_of_drive, rows_of_watched}
use Rattle.sheet.specs.Told.{as_refused}
use Rattle.sheet.proofs.Rows.{none_yet, passed_each}
use Rattle.sheet.proofs.Told.{stopped_each}

regroup : (a b c d e f g : List Row) → a ++ b ++ c ++ d ++ e ++ f ++ g ≡ ((([] ++ a) ++ (b ++ c)) ++ (d ++ e)) ++ (f ++ g)
regroup a b c d e f g = simp append_assoc

module _ (strict : Bool) (e : Edition) (s : List ℕ) where
  pub front_to_back : bytes_rows strict e s ≡ each 4 (rows_of strict e s)
  unfolding bytes_rows each
  front_to_back =
      regroup (nodes_section s) (modules_section e s) (each (nodes_counted s) (start_rows e s)) (drive_section e s) (first_events_section strict e s) (watched_section e s) (left_over_rows e s)

  abbrev rows : ℕ → List Row
  rows = rows_of strict e s

  -- a refusal met in section k, where the sections before it are passed
  pub stopped_in : (k : ℕ) (r : Refusal) → k < 4 → first (each k rows) ≡ finished 0 → first (rows k) ≡ as_refused r → first (bytes_rows strict e s) ≡ as_refused r
  stopped_in k r h before met = ap first front_to_back ∙ stopped_each r rows k 4 h before met

  -- the sections that are passed
  pub past_none : first (each 0 rows) ≡ finished 0
  past_none = none_yet rows

  module _ (nodes : first (nodes_section s) ≡ finished 0) where
    pub past_nodes : first (each 1 rows) ≡ finished 0
    past_nodes = passed_each rows 0 past_none nodes

    module _ (modules : first (rows_of_modules e s) ≡ finished 0) where
      pub past_modules : first (each 2 rows) ≡ finished 0
      past_modules = passed_each rows 1 past_nodes modules

      module _ (drive : first (rows_of_drive strict e s) ≡ finished 0) where
        pub past_drive : first (each 3 rows) ≡ finished 0
        past_drive = passed_each rows 2 past_modules drive

        pub past_all : first (rows_of_watched e s) ≡ finished 0 → first (bytes_rows strict e s) ≡ finished 0
        past_all watched = ap first front_to_back ∙ passed_each rows 3 past_drive watched
