-- How long a loaded sheet is: as many bytes as the given one, but for its events. Assumes nothing.
use lib.ListN.{length, length-append, length-take, length-drop, take, drop}
use mathlib.Core.List.{List, ◌++◌}
use mathlib.Core.Path.{◌≡◌, ◌∙◌}
use native.Mathlib.Omega.{arith}
use Prim.Native.Nat.{ℕ, ◌+◌, ◌-◌, ◌*◌, ◌≤◌}
use Rattle.sheet.specs.declared.Edition.{Edition}
use Rattle.sheet.specs.declared.Event.{Event}
use Rattle.sheet.specs.Layout.{nodes_counted, drive_place, watched_place, sheet_of}
use Rattle.sheet.proofs.Parts.{counts_nodes}
use Rattle.format.specs.Accepted.{Known, AcceptedIn}
use Rattle.format.proofs.Accepted.{few_bytes, conversely}
use Rattle.format.proofs.Theorems.{longest}
use Rattle.draw.specs.Drive.{drawn_drive, drive_bytes}
use Rattle.loaded.specs.Loaded.{with_section, inputs_in, loaded, needed}
use Rattle.draw.proofs.Drive.{drawn_length}
use Rattle.loaded.proofs.Inputs.{few_inputs}
use Rattle.loaded.proofs.Written.{drive_length}

-- between two places of a list
pub section_length : (s : List ℕ) (from to : ℕ) (drive : List Event) → from ≤ length s → length (with_section s from to drive) ≡ from + 2 + 6 * length drive + (length s - to)
section_length s from to drive h =
    length-append (take from s ++ drive_bytes drive) (drop to s)
    ∙ omega (arith, length-append (take from s) (drive_bytes drive), length-take from s, length-drop to s, drive_length drive, h)

-- what stands before and after the drive's section, and the drawn one
pub parts_length : (before after inputs : List ℕ) (seed n : ℕ) → length (before ++ drive_bytes (drawn_drive inputs seed n) ++ after) ≡ length before + 2 + 6 * (length inputs + n) + length after
parts_length before after inputs seed n =
    length-append (before ++ drive_bytes (drawn_drive inputs seed n)) after
    ∙ omega (arith, length-append before (drive_bytes (drawn_drive inputs seed n)), drive_length (drawn_drive inputs seed n), drawn_length inputs seed n)

module _ {e : Edition} (known : Known e) (s : List ℕ) (ok : AcceptedIn e s) where
  pub drive_within : drive_place e s ≤ length s
  drive_within = omega (arith, ok.whole)

  pub watched_within : watched_place e s ≤ length s
  watched_within = omega (arith, ok.whole)

  pub short_sheet : length s ≤ 65535
  short_sheet = omega (arith, longest known s (conversely e known s ok), few_bytes known)

  pub few_nodes : nodes_counted s ≤ 256
  few_nodes = omega (arith, ok.sheet.nodes, counts_nodes e s)

  pub inputs_below : length (inputs_in e s) ≤ 256
  inputs_below = omega (arith, few_inputs (sheet_of e s), ok.sheet.nodes)

  pub loaded-length : (seed n : ℕ) → length (loaded e s seed n) ≡ needed e s n
  unfolding loaded
  loaded-length seed n =
      section_length s (drive_place e s) (watched_place e s) (drawn_drive (inputs_in e s) seed n) drive_within
      ∙ omega (arith, drawn_length (inputs_in e s) seed n, ok.whole)
