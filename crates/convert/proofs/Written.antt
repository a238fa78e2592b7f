-- A sheet that its edition accepts, converted to an edition that has its kinds, is what the sheet in its bytes is written as there. So it is read as the
-- same sheet, accepted where the given one was, and converted back to it. Assumes nothing.
use mathlib.Core.List.{List, ◌++◌, append_assoc}
use mathlib.Core.Path.{◌≡◌, sym, ap, ◌∙◌}
use Prim.Native.Nat.{ℕ, ◌+◌, ◌<◌, ◌≤◌}
use native.Mathlib.Nat.{mul-le-mul_left, mul-suc}
use native.Mathlib.Omega.{arith}
use lib.ListN.{length, take, drop, length-append}
use lib.Seq.{take_at, drop_at}
use Rattle.sheet.specs.declared.Edition.{Edition}
use Rattle.sheet.specs.Enumerate.{each}
use Rattle.sheet.specs.Layout.{modules_counted, module_place, module_at, drive_place, sheet_of}
use Rattle.sheet.specs.Sheet.{Sheet}
use Rattle.sheet.proofs.Each.{each_same}
use Rattle.sheet.proofs.Parts.{counts_nodes, counts_modules}
use Rattle.format.specs.Accepted.{Known, HasKinds, AcceptedIn, StrictlyAcceptedIn}
use Rattle.format.specs.Encode.{word_bytes, module_bytes, event_bytes, all_bytes, encode, Bytes}
use Rattle.format.proofs.AllBytes.{each_bytes, length-all_bytes}
use Rattle.format.proofs.EncodeRead.{reading_encoded}
use Rattle.format.proofs.EncodeRecord.{module_length}
use Rattle.network.proofs.Written.{read_back, written_bytes, written_accepted, written_strictly}
use Rattle.convert.specs.Converted.{converted_record, records_place, converted}
use Rattle.convert.proofs.Record.{converted_record_lem}

-- what stands before the module records, and after them
front : Sheet → List ℕ
front S = word_bytes (length S.nodes) ++ S.nodes ++ word_bytes (length S.modules)

back : Sheet → List ℕ
back S = word_bytes (length S.drive) ++ all_bytes event_bytes S.drive ++ word_bytes (length S.watched) ++ S.watched

regroup : (a b c d e f g h : List ℕ) → a ++ b ++ c ++ d ++ e ++ f ++ g ++ h ≡ a ++ b ++ c ++ d ++ (e ++ f ++ g ++ h)
regroup a b c d e f g h = simp append_assoc

-- which is the same in both editions
three_parts : (E : Edition) (S : Sheet) → encode E S ≡ front S ++ all_bytes (module_bytes E) S.modules ++ back S
unfolding encode front back
three_parts E S =
    regroup (word_bytes (length S.nodes)) S.nodes (word_bytes (length S.modules)) (all_bytes (module_bytes E) S.modules) (word_bytes (length S.drive))
    (all_bytes event_bytes S.drive) (word_bytes (length S.watched)) S.watched

module _ {from : Edition} (known : Known from) (s : List ℕ) (ok : AcceptedIn from s) where
  abbrev S : Sheet
  S = sheet_of from s

  pub record_within : (m : ℕ) → m < modules_counted s → module_place from s m + from.size ≤ length s
  record_within m h = omega (arith, ok.whole, mul-le-mul_left from.size h, mul-suc from.size m)

  module _ (bytes : Bytes s) where
    parts : s ≡ front S ++ all_bytes (module_bytes from) S.modules ++ back S
    parts = sym (reading_encoded known s bytes ok) ∙ three_parts from S

    front_length : length (front S) ≡ records_place s
    unfolding front
    front_length = simp length-append (omega (arith, counts_nodes from s))

    records_length : length (front S ++ all_bytes (module_bytes from) S.modules) ≡ drive_place from s
    records_length = length-append (front S) (all_bytes (module_bytes from) S.modules) ∙ rw (front_length, length-all_bytes from.size (module_bytes from) (module_length known) S.modules, counts_modules from s)

    front_stays : take (records_place s) s ≡ front S
    front_stays = ap (take (records_place s)) (parts ∙ append_assoc (front S) (all_bytes (module_bytes from) S.modules) (back S)) ∙ take_at (front S) _ (records_place s) front_length

    back_stays : drop (drive_place from s) s ≡ back S
    back_stays = ap (drop (drive_place from s)) parts ∙ drop_at (front S ++ all_bytes (module_bytes from) S.modules) (back S) (drive_place from s) records_length

    module _ {to : Edition} (known' : Known to) where
      records_converted : each (modules_counted s) (λ m. converted_record from to s (module_place from s m)) ≡ all_bytes (module_bytes to) S.modules
      unfolding sheet_of
      records_converted =
          sym (each_same (modules_counted s) _ _ (λ m h. converted_record_lem known known' s bytes (module_place from s m) (record_within m h)))
          ∙ each_bytes (module_bytes to) (modules_counted s) (module_at from s)

      pub converted-is : converted from to s ≡ encode to S
      unfolding converted
      converted-is = rw (front_stays, records_converted, back_stays) (sym (three_parts to S))

      -- to an edition that has its kinds
      module _ (kinds : HasKinds to S) where
        pub same_sheet : sheet_of to (converted from to s) ≡ S
        same_sheet = rw converted-is (read_back known' S ok.sheet kinds)

        pub bytes_converted : Bytes (converted from to s)
        bytes_converted = rw converted-is (written_bytes known' S ok.sheet kinds)

        pub accepted_converted : AcceptedIn to (converted from to s)
        accepted_converted = rw converted-is (written_accepted known' S ok.sheet kinds)

        pub strictly_converted : StrictlyAcceptedIn from s → StrictlyAcceptedIn to (converted from to s)
        strictly_converted strict = rw converted-is (written_strictly known' S ok.sheet kinds strict.driven_from_start)

-- there and back
pub back_again : {from to : Edition} (known : Known from) (known' : Known to) (s : List ℕ) (ok : AcceptedIn from s) (bytes : Bytes s) → HasKinds to (sheet_of from s)
    → converted to from (converted from to s) ≡ s
back_again {from} {to} known known' s ok bytes kinds =
    converted-is known' c (accepted_converted known s ok bytes known' kinds) (bytes_converted known s ok bytes known' kinds) known
    ∙ ap (encode from) (same_sheet known s ok bytes known' kinds)
    ∙ reading_encoded known s bytes ok
  where
    c : List ℕ
    c = converted from to s
