-- What is printed of a run, by its records: a line for each of them, in a text of known length. Assumes nothing.
use mathlib.Core.List.{List, [], ◌∷◌, ◌++◌, Memᴰ}
use mathlib.Core.Path.{◌≡◌, refl, ap, ◌∙◌}
use native.Mathlib.Omega.{arith}
use Prim.Native.Nat.{ℕ, ◌*◌, ◌<◌, ◌≤◌}
use lib.ListN.{length, get_or, length-append}
use Rattle.level.specs.Level.{printed}
use Rattle.sheet.proofs.Each.{each_same}
use Rattle.sheet.proofs.Listed.{listed-is}
use Rattle.format.specs.Encode.{all_bytes}
use Rattle.format.proofs.AllBytes.{each_bytes}
use Rattle.network.specs.Ends.{Ended}
use Rattle.network.specs.Buffer.{buffer_after}
use Rattle.listing.proofs.ReadBack.{Small, read_back}
use Rattle.lent.specs.Decimal.{decimal}
use Rattle.lent.proofs.Digits.{few_digits}
use Rattle.text.specs.Printing.{blank, newline, record_line, record_lines}

-- the lines of records, one after the other
abbrev pub lines_of : List Ended → List ℕ
lines_of records = all_bytes record_line records

pub lines_printed : (records : List Ended) (buffer : List ℕ) (n : ℕ) → n ≡ length records → ((r : Ended) → Memᴰ r records → Small r)
    → record_lines n (buffer_after records buffer) ≡ lines_of records
lines_printed records buffer n count small =
    each_same n _ (λ i. record_line (get_or records i none)) (λ i h. ap record_line (read_back records buffer none small i (rw (← count) h)))
    ∙ each_bytes record_line n (λ i. get_or records i none)
    ∙ ap lines_of (listed-is records none n (λ i. get_or records i none) count (λ i h. refl))
  where
    none : Ended
    none = record { start = record { tick = 0; node = 0; value = 0 }; end = 0 }

-- what a line has room for
pub record Short (r : Ended) : Type 0 where
  pub tick : r.start.tick < 1000000
  pub node : r.start.node < 1000
  pub end : r.end < 10000000

-- the longest line has 21 bytes: a tick of six digits, a node of three and an end of seven
line_length : (r : Ended) → Short r → length (record_line r) ≤ 21
line_length r s =
    let tick : length (decimal r.start.tick) ≤ 6 = few_digits 10 5 r.start.tick s.tick in
    let node : length (decimal r.start.node) ≤ 3 = few_digits 10 2 r.start.node s.node in
    let end : length (decimal r.end) ≤ 7 = few_digits 10 6 r.end s.end in
    let two = decimal r.start.tick ++ blank ∷ decimal r.start.node in
    let four = blank ∷ printed r.start.value ∷ blank ∷ decimal r.end in
    omega (arith, tick, node, end, length-append (two ++ four) (newline ∷ []), length-append two four, length-append (decimal r.start.tick) (blank ∷ decimal r.start.node))

pub lines_length : (records : List Ended) → ((r : Ended) → Memᴰ r records → Short r) → length (lines_of records) ≤ 21 * length records
unfolding all_bytes
lines_length [] small = omega arith
lines_length (r ∷ rs) small =
    rw (length-append (record_line r) (lines_of rs)) (omega (arith, line_length r (small r (Memᴰ.head refl)), lines_length rs (λ q m. small q (Memᴰ.tail m))))
