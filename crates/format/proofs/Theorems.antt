-- The theorems of the format, each with the file that proves it. They assume nothing: they hold in each edition of all lists of numbers, or of all bytes where they say so.
use mathlib.Core.Bool.{Bool, true, false, false≢true}
use mathlib.Core.List.{List}
use mathlib.Core.Logic.{◌↔◌, ◌⊎◌}
use mathlib.Core.Path.{◌≡◌, refl, ap}
use Prim.Native.Nat.{ℕ, ◌+◌, ◌*◌, ◌<◌, ◌≤◌}
use native.Mathlib.Nat.{mul-le-mul_left}
use native.Mathlib.Omega.{arith}
use borrow.Author.Tests.{ltb-true, ltb-false}
use lib.Dec.{ltb}
use lib.ListN.{length, get_or-eq_default}
use Rattle.sheet.specs.declared.Edition.{Edition}
use Rattle.sheet.specs.Sheet.{Sheet, no_module, module_of, event_count, event_of}
use Rattle.sheet.specs.Layout.{first_edition, second_edition, modules_counted, sheet_of}
use Rattle.sheet.specs.Outcome.{finished, refused}
use Rattle.sheet.specs.Loop.{LeastOnLoop}
use Rattle.sheet.specs.Refusal.{bytes_rows, first, checked_by, checked, checked_strictly}
use Rattle.sheet.proofs.Parts.{counts_nodes, counts_modules, module_of_lem, counts_events, counts_watched}
use Rattle.format.specs.Accepted.{Before, Accepted, Known, the_first, the_second, AcceptedIn, StrictlyAcceptedIn}
use Rattle.format.specs.Encode.{encode, Bytes, Encodable, OneByteEach}
use Rattle.format.specs.Condition.{ConditionBy, FirstConditionBy}
use Rattle.format.proofs.Checked.{answers, finished_iff, refused_first, refused_met}
use Rattle.format.proofs.Table.{none_at_9, strict_at_15}
use Rattle.format.proofs.Accepted.{some_size, accepted, conversely, strictly, strictly_conversely}
use Rattle.format.proofs.Strict.{same_or_15}
use Rattle.format.proofs.Loop.{loop_refused}
use Rattle.format.proofs.Order.{drive_order}
use Rattle.format.proofs.EncodePlaces.{read_encode}
use Rattle.format.proofs.EncodeRead.{reading_encoded, encodable, one_byte_each}
use Rattle.format.proofs.EncodeBytes.{encode_bytes}
use Rattle.format.proofs.Longest.{full_accepted}

-- (a) Each refusal is given under its stated condition and under no other: a check, strict or not, refuses with the number and place of the first condition met,
-- front to back, finishes where none is met, and answers nothing else.
pub refusals : (strict : Bool) {E : Edition} → Known E → (s : List ℕ) (n p : ℕ) → (checked_by strict E s ≡ refused n p 0) ↔ FirstConditionBy strict E s n p
refusals strict {E} known = refused_first strict E (some_size known)

pub no_refusal : (strict : Bool) {E : Edition} → Known E → (s : List ℕ) → (checked_by strict E s ≡ finished 0) ↔ ((n p : ℕ) → ConditionBy strict E s n p → ⊥)
no_refusal strict {E} known = finished_iff strict E (some_size known)

pub no_other_answer : (strict : Bool) {E : Edition} → Known E → (s : List ℕ) → (checked_by strict E s ≡ finished 0) ⊎ ((n : ℕ) × (p : ℕ) × (2 ≤ n) × (n ≤ 18) × (checked_by strict E s ≡ refused n p 0))
no_other_answer strict {E} known = answers strict E (some_size known)

-- Refusal 9 is given by no check: a node may have several drivers, as document 02's W-209 has it.
pub never_9 : (strict : Bool) {E : Edition} → Known E → (s : List ℕ) (p : ℕ) → checked_by strict E s ≡ refused 9 p 0 → ⊥
never_9 strict {E} known s p e = none_at_9 (refused_met strict E (some_size known) s 9 p e)

-- Refusal 15 is a strict check's alone.
pub never_15 : {E : Edition} → Known E → (s : List ℕ) (p : ℕ) → checked E s ≡ refused 15 p 0 → ⊥
never_15 {E} known s p e = false≢true (strict_at_15 (refused_met false E (some_size known) s 15 p e))

-- Refusal 18 names the least node on any zero-delay loop.
pub zero_delay_loop : (strict : Bool) (E : Edition) (s : List ℕ) (v : ℕ) → (checked_by strict E s ≡ refused 18 v 0) ↔ ((first (bytes_rows strict E s) ≡ finished 0) × LeastOnLoop (sheet_of E s) v)
zero_delay_loop = loop_refused

-- (b) A check finishes exactly on the sheets that document 01 accepts, with inputs that start unknown and nodes of several drivers as document
-- 02's W-203 and W-209 have it.
pub accepts : {E : Edition} → Known E → (s : List ℕ) → (checked E s ≡ finished 0) ↔ AcceptedIn E s
accepts {E} known s = (accepted E known s, conversely E known s)

-- A strict check finishes exactly on those of them whose inputs are all driven at tick 0.
pub accepts_strictly : {E : Edition} → Known E → (s : List ℕ) → (checked_strictly E s ≡ finished 0) ↔ StrictlyAcceptedIn E s
accepts_strictly {E} known s = (strictly E known s, strictly_conversely E known s)

-- On every sheet, accepted or not, a strict check answers what a check answers, or 15.
pub strict_or_15 : (E : Edition) (s : List ℕ) → (checked_strictly E s ≡ checked E s) ⊎ ((v : ℕ) × (checked_strictly E s ≡ refused 15 v 0))
strict_or_15 = same_or_15

-- An accepted sheet's drive, which rises by key, rises by tick and then by node.
pub drive_rises : (S : Sheet) → Accepted S → (a b : ℕ) → a < b → b < event_count S → Before (event_of S a) (event_of S b)
drive_rises = drive_order

-- (c) Reading and encoding are inverse. An accepted sheet's bytes are those that the sheet in them is written as.
pub written_as_read : {E : Edition} → Known E → (s : List ℕ) → Bytes s → checked E s ≡ finished 0 → encode E (sheet_of E s) ≡ s
written_as_read {E} known s bytes e = reading_encoded known s bytes (accepted E known s e)

-- A sheet whose numbers fit is the one read from what it is written as, which is bytes.
pub read_as_written : {E : Edition} → Known E → (sheet : Sheet) → Encodable E sheet → OneByteEach sheet → (sheet_of E (encode E sheet) ≡ sheet) × Bytes (encode E sheet)
read_as_written {E} known sheet fits small = (read_encode known sheet fits, encode_bytes E sheet small)

-- The sheet in any bytes has numbers that fit.
pub read_fits : {E : Edition} → Known E → (s : List ℕ) → Bytes s → Encodable E (sheet_of E s) × OneByteEach (sheet_of E s)
read_fits known s bytes = (encodable known s bytes, one_byte_each known s bytes)

-- An accepted sheet has at most as many bytes as the counts' ranges allow.
pub longest : {E : Edition} → Known E → (s : List ℕ) → checked E s ≡ finished 0 → length s ≤ 6664 + E.size * 256
longest {E} known s c =
    let acc = accepted E known s c in
    let a = acc.sheet in
    let few : modules_counted s ≤ 256 = omega (arith, a.modules, counts_modules E s) in
    omega (arith, acc.whole, a.nodes, counts_nodes E s, mul-le-mul_left E.size few, a.events, counts_events E s, a.watched, counts_watched E s)

-- Document 01, "The program", gives 8,456 bytes; the second edition allows 256 more.
pub longest_sheet : (s : List ℕ) → checked first_edition s ≡ finished 0 → length s ≤ 8456
longest_sheet = longest the_first

pub longest_sheet_2 : (s : List ℕ) → checked second_edition s ≡ finished 0 → length s ≤ 8712
longest_sheet_2 = longest the_second

-- A sheet of that length is accepted, strictly too: 256 modules may drive 255 nodes and leave an input for the events.
pub longest_accepted : (s : List ℕ) × Bytes s × (length s ≡ 8456) × (checked_strictly first_edition s ≡ finished 0)
longest_accepted = full_accepted the_first

pub longest_accepted_2 : (s : List ℕ) × Bytes s × (length s ≡ 8712) × (checked_strictly second_edition s ≡ finished 0)
longest_accepted_2 = full_accepted the_second

-- A sheet of the first edition is one without third inputs.
pub no_third : (s : List ℕ) (m : ℕ) → (module_of (sheet_of first_edition s) m).third ≡ 0
no_third s m = by (ltb m (modules_counted s)) refl
  where
    by : (b : Bool) → ltb m (modules_counted s) ≡ b → (module_of (sheet_of first_edition s) m).third ≡ 0
    by true e = ap (λ r. r.third) (module_of_lem first_edition s m (ltb-true m (modules_counted s) e))
    by false e =
        ap (λ r. r.third) (get_or-eq_default (sheet_of first_edition s).modules no_module {n = m} (omega (arith, ltb-false m (modules_counted s) e, counts_modules first_edition s)))
