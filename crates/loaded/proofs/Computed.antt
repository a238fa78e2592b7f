-- The definitions compute: small sheets loaded, and refused. Assumes nothing.
use lib.ListN.{replicate, take}
use mathlib.Core.List.{[], ◌∷◌, ◌++◌}
use mathlib.Core.Path.{◌≡◌, refl}
use Rattle.sheet.specs.Enumerate.{any_below, each}
use Rattle.sheet.specs.Layout.{first_edition, sheet_of}
use Rattle.sheet.specs.Loop.{leads_over}
use Rattle.sheet.specs.Outcome.{finished, refused}
use Rattle.sheet.specs.Refusal.{not_above_event, not_above_watched, bytes_rows, rows, first}
use Rattle.format.specs.Encode.{all_bytes}
use Rattle.format.specs.Made.{made_answer, output_after, sheet_made}
use Rattle.network.specs.Examples.{worked_sheet, start_sheet}
use Rattle.draw.specs.Draw.{state_after}
use Rattle.draw.specs.Drive.{tick_before, drawn_drive}
use Rattle.loaded.specs.Loaded.{inputs_in, loaded}
use Rattle.loaded.specs.Loading.{load_rows}
use Rattle.loaded.specs.Examples.{worked_loaded, start_loaded, no_input}

pub inputs_found : (inputs_in first_edition start_sheet ≡ 0 ∷ 1 ∷ 2 ∷ []) × (inputs_in first_edition no_input ≡ [])
unfolding sheet_of each any_below
inputs_found = (refl, refl)

pub loaded_so : (loaded first_edition worked_sheet 0 0 ≡ worked_loaded) × (loaded first_edition start_sheet 0 3 ≡ start_loaded) × (loaded first_edition no_input 7 0 ≡ no_input)
unfolding loaded drawn_drive tick_before state_after all_bytes sheet_of each any_below
loaded_so = (refl, refl, refl)

-- Refusal 26: with three inputs 1,021 events more are taken, 1,022 are not, and a count near 2 to the power 32 does not wrap around; without an input
-- none is taken.
pub counts_refused : (first (load_rows first_edition start_sheet 1021) ≡ finished 0) × (first (load_rows first_edition start_sheet 1022) ≡ refused 26 0 0)
    × (first (load_rows first_edition start_sheet 4294967295) ≡ refused 26 0 0)
    × (first (load_rows first_edition no_input 0) ≡ finished 0) × (first (load_rows first_edition no_input 1) ≡ refused 26 0 0)
unfolding load_rows rows bytes_rows sheet_of first each any_below leads_over not_above_event not_above_watched
counts_refused = (refl, refl, refl, refl, refl)

-- it comes before 23, and the sheet's own refusal, here of its missing last byte, before both
pub own_refusal_first : (made_answer (first (load_rows first_edition no_input 1)) (sheet_made (loaded first_edition no_input 0 1)) 0 ≡ refused 26 0 0)
    × (made_answer (first (load_rows first_edition (take 16 no_input) 1)) (sheet_made (loaded first_edition (take 16 no_input) 0 1)) 0 ≡ refused 2 16 0)
unfolding load_rows rows bytes_rows sheet_of first each any_below leads_over not_above_event not_above_watched
own_refusal_first = (refl, refl)

-- an output of 67 bytes, one too few, is refused and left as it was; 68 suffice, and of 70 the last two stay
pub lengths : (made_answer (finished 0) (sheet_made start_loaded) 67 ≡ refused 23 68 0) × (output_after (refused 23 68 0) start_loaded (replicate 67 99) ≡ replicate 67 99)
    × (made_answer (finished 0) (sheet_made start_loaded) 68 ≡ finished 68) × (output_after (finished 68) start_loaded (replicate 70 99) ≡ start_loaded ++ 99 ∷ 99 ∷ [])
lengths = (refl, refl, refl, refl)
