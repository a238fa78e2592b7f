-- A module record in the other edition is what the module that stands in it is written as there. Assumes nothing.
use mathlib.Core.List.{List}
use mathlib.Core.Path.{◌≡◌, sym}
use Prim.Native.Nat.{ℕ, ◌+◌, ◌<◌, ◌≤◌}
use native.Mathlib.Nat.{add-zero}
use native.Mathlib.Omega.{arith}
use lib.ListN.{length, length-take, length-drop}
use lib.Seq.{get_or-take, get_or-drop}
use Rattle.sheet.specs.declared.Edition.{Edition}
use Rattle.sheet.specs.Bytes.{byte_at}
use Rattle.sheet.specs.Enumerate.{each}
use Rattle.sheet.specs.Layout.{delay_place, module_record}
use Rattle.sheet.proofs.Listed.{listed-is}
use Rattle.format.specs.Accepted.{Known, the_first, the_second}
use Rattle.format.specs.Encode.{module_bytes, Bytes}
use Rattle.format.proofs.EncodeSpan.{span}
use Rattle.format.proofs.EncodeNumber.{word_written}
use Rattle.convert.specs.Converted.{part, converted_record}

module _ (s : List ℕ) where
  pub part_length : (p n : ℕ) → p + n ≤ length s → length (part s p n) ≡ n
  part_length p n h = simp (length-take, length-drop) (omega arith)

  part_span : (p n : ℕ) → p + n ≤ length s → span s p n ≡ part s p n
  part_span p n h = listed-is (part s p n) 0 n (λ j. byte_at s (p + j)) (sym (part_length p n h)) (λ j b. at j (rw (part_length p n h) at b))
    where
      at : (j : ℕ) → j < n → byte_at s (p + j) ≡ byte_at (part s p n) j
      at j b = rw (get_or-take, get_or-drop)

-- the delay ends where the record does
pub delay_ends : {E : Edition} → Known E → (p : ℕ) → delay_place E p + 2 ≡ p + E.size
delay_ends the_first p = omega arith
delay_ends the_second p = omega arith

pub least_size : {E : Edition} → Known E → 7 ≤ E.size
least_size the_first = omega arith
least_size the_second = omega arith

module _ (from : Edition) (s : List ℕ) (bytes : Bytes s) (p : ℕ) (fields : p + 5 ≤ length s) (delay : delay_place from p + 2 ≤ length s) where
  record_written : {to : Edition} → Known to → module_bytes to (module_record from s p) ≡ converted_record from to s p
  unfolding each
  record_written the_first = rw (word_written s (delay_place from p) bytes, ← part_span s p 5 fields, ← part_span s (delay_place from p) 2 delay) (simp add-zero)
  record_written the_second = rw (word_written s (delay_place from p) bytes, ← part_span s p 5 fields, ← part_span s (delay_place from p) 2 delay) (simp add-zero)

pub converted_record_lem : {from to : Edition} → Known from → Known to → (s : List ℕ) → Bytes s → (p : ℕ) → p + from.size ≤ length s
    → module_bytes to (module_record from s p) ≡ converted_record from to s p
converted_record_lem {from} known known' s bytes p h =
    record_written from s bytes p (omega (arith, least_size known)) (omega (arith, delay_ends known p)) known'
