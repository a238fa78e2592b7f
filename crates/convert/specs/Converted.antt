-- Document 02, W-207: a sheet of one edition in the other. Each module record gains a third input of 0 or loses it, and all other bytes
-- stay in their order.
use Rattle.std.specs.Prelude.{List, [], ◌∷◌, ◌++◌, ℕ, ◌+◌, ◌-◌, ◌*◌, length, take, drop, if◌then◌else◌}
use Rattle.sheet.specs.declared.Edition.{Edition}
use Rattle.sheet.specs.Enumerate.{each}
use Rattle.sheet.specs.Layout.{count_size, modules_place, modules_counted, module_place, has_third, third_at, delay_place, drive_place}

-- so many bytes, from a place on
abbrev pub part : List ℕ → ℕ → ℕ → List ℕ
part s place n = take n (drop place s)

-- the third input that a record has in the edition converted to: 0 if it had none; nothing if the edition has no third input
abbrev pub third_in : Edition → Edition → List ℕ → ℕ → List ℕ
third_in from to s p = if has_third to then third_at from s p ∷ [] else []

-- kind, parameter, output, first input, second input; the third input; delay
abbrev pub converted_record : Edition → Edition → List ℕ → ℕ → List ℕ
converted_record from to s p = part s p 5 ++ third_in from to s p ++ part s (delay_place from p) 2

-- the place of the first module record
abbrev pub records_place : List ℕ → ℕ
records_place s = modules_place s + count_size

unfoldable pub converted : Edition → Edition → List ℕ → List ℕ
converted from to s =
    take (records_place s) s
    ++ each (modules_counted s) (λ m. converted_record from to s (module_place from s m))
    ++ drop (drive_place from s) s

-- the length needed: the sheet's own, with records of the other edition's size
abbrev pub needed : Edition → Edition → List ℕ → ℕ
needed from to s = length s - from.size * modules_counted s + to.size * modules_counted s
