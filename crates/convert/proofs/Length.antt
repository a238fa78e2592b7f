-- How long a converted sheet is: as many bytes as the given one, but for its module records. Assumes nothing.
use mathlib.Core.List.{List, ◌++◌}
use mathlib.Core.Path.{◌≡◌, ◌∙◌}
use Prim.Native.Nat.{ℕ, ◌+◌, ◌-◌, ◌*◌, ◌≤◌}
use native.Mathlib.Omega.{arith}
use lib.ListN.{length, take, drop, length-append, length-take, length-drop}
use Rattle.sheet.specs.declared.Edition.{Edition}
use Rattle.sheet.specs.Enumerate.{each}
use Rattle.sheet.specs.Layout.{first_edition, second_edition, modules_counted, module_place, delay_place, drive_place}
use Rattle.sheet.proofs.Each.{each-length}
use Rattle.sheet.proofs.Parts.{counts_modules}
use Rattle.format.specs.Accepted.{Known, the_first, the_second, AcceptedIn}
use Rattle.format.proofs.Accepted.{few_bytes, conversely}
use Rattle.format.proofs.Theorems.{longest}
use Rattle.convert.specs.Converted.{part, converted_record, records_place, converted, needed}
use Rattle.convert.proofs.Record.{part_length, delay_ends, least_size}
use Rattle.convert.proofs.Written.{record_within}

record_length : {from to : Edition} → Known from → Known to → (s : List ℕ) (p : ℕ) → p + from.size ≤ length s → length (converted_record from to s p) ≡ to.size
record_length {from} known known' s p h = sized known'
  where
    fields : length (part s p 5) ≡ 5
    fields = part_length s p 5 (omega (arith, least_size known))

    delay : length (part s (delay_place from p) 2) ≡ 2
    delay = part_length s (delay_place from p) 2 (omega (arith, delay_ends known p))

    sized : {to : Edition} → Known to → length (converted_record from to s p) ≡ to.size
    sized the_first = rw (length-append, length-append, fields, delay)
    sized the_second = rw (length-append, length-append, fields, delay)

module _ {from : Edition} (known : Known from) (s : List ℕ) (ok : AcceptedIn from s) where
  pub records_within : records_place s + from.size * modules_counted s ≤ length s
  records_within = omega (arith, ok.whole)

  pub few_modules : modules_counted s ≤ 256
  few_modules = omega (arith, ok.sheet.modules, counts_modules from s)

  pub short_sheet : length s ≤ 65535
  short_sheet = omega (arith, longest known s (conversely from known s ok), few_bytes known)

  pub converted-length : {to : Edition} → Known to → length (converted from to s) ≡ needed from to s
  unfolding converted
  converted-length {to} known' =
      length-append (take (records_place s) s ++ records) (drop (drive_place from s) s)
      ∙ omega (arith, length-append (take (records_place s) s) records, length-take (records_place s) s, length-drop (drive_place from s) s, recorded, records_within)
    where
      records : List ℕ
      records = each (modules_counted s) (λ m. converted_record from to s (module_place from s m))

      recorded : length records ≡ to.size * modules_counted s
      recorded = each-length to.size (modules_counted s) _ (λ m h. record_length known known' s (module_place from s m) (record_within known s ok m h))

-- a byte more for each module, or one less
pub longer : (s : List ℕ) → AcceptedIn first_edition s → needed first_edition second_edition s ≡ length s + modules_counted s
longer s ok = omega (arith, ok.whole)

pub shorter : (s : List ℕ) → AcceptedIn second_edition s → needed second_edition first_edition s ≡ length s - modules_counted s
shorter s ok = omega (arith, ok.whole)
