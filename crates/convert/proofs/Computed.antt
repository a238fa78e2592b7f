-- The definitions compute: small sheets converted both ways, and refused. Assumes nothing.
use mathlib.Core.List.{[], ◌∷◌, ◌++◌}
use mathlib.Core.Path.{◌≡◌, refl}
use lib.ListN.{replicate, take}
use Rattle.sheet.specs.Enumerate.{any_below, each}
use Rattle.sheet.specs.Layout.{first_edition, second_edition, sheet_of}
use Rattle.sheet.specs.Loop.{leads_over}
use Rattle.sheet.specs.Outcome.{finished, refused}
use Rattle.sheet.specs.Refusal.{not_above_event, not_above_watched, bytes_rows, rows, first}
use Rattle.format.specs.Made.{made_answer, output_after, sheet_made}
use Rattle.network.specs.Examples.{worked_sheet}
use Rattle.convert.specs.Converted.{converted}
use Rattle.convert.specs.Conversion.{conversion_rows}
use Rattle.convert.specs.Examples.{worked_in_second, last_kinds, first_kinds, first_kinds_in_first}

-- there, and back
pub worked-converted : (converted first_edition second_edition worked_sheet ≡ worked_in_second) × (converted second_edition first_edition worked_in_second ≡ worked_sheet)
unfolding converted each
worked-converted = (refl, refl)

pub three_converted : (converted second_edition first_edition first_kinds ≡ first_kinds_in_first) × (converted first_edition second_edition first_kinds_in_first ≡ first_kinds)
unfolding converted each
three_converted = (refl, refl)

-- Refusal 22 is met at the second record, byte 16 of the given sheet; the first edition, with its shorter records, would count 15.
pub kind_refused : (first (conversion_rows second_edition first_edition last_kinds) ≡ refused 22 16 0) × (first (conversion_rows second_edition first_edition first_kinds) ≡ finished 0)
unfolding conversion_rows rows bytes_rows sheet_of first each any_below leads_over not_above_event not_above_watched
kind_refused = (refl, refl)

-- it comes before 23, and the sheet's own refusal, here of its missing last byte, before both
pub own_refusal_first : (made_answer (first (conversion_rows second_edition first_edition last_kinds)) (sheet_made (converted second_edition first_edition last_kinds)) 0 ≡ refused 22 16 0)
    × (made_answer (first (conversion_rows second_edition first_edition (take 36 last_kinds))) (sheet_made (converted second_edition first_edition (take 36 last_kinds))) 0 ≡ refused 2 36 0)
unfolding conversion_rows rows bytes_rows sheet_of first each any_below leads_over not_above_event not_above_watched
own_refusal_first = (refl, refl)

-- an output of 31 bytes, one too few, is refused and left as it was; 32 suffice, and of 34 the last two stay
pub lengths : (made_answer (finished 0) (sheet_made worked_in_second) 31 ≡ refused 23 32 0) × (output_after (refused 23 32 0) worked_in_second (replicate 31 99) ≡ replicate 31 99)
    × (made_answer (finished 0) (sheet_made worked_in_second) 32 ≡ finished 32) × (output_after (finished 32) worked_in_second (replicate 34 99) ≡ worked_in_second ++ 99 ∷ 99 ∷ [])
lengths = (refl, refl, refl, refl)
