-- The listing as records are written into it, one after the other: records written after others stand as if all had been written at once.
-- By the stores of the bytes, one by one. Assumes nothing.
use mathlib.Core.List.{List, [], ◌∷◌, ◌++◌}
use mathlib.Core.Path.{◌≡◌, refl, sym, ap, ◌∙◌}
use Prim.Native.Nat.{ℕ, zero, suc, ◌+◌, ◌*◌, ◌<◌, ◌≤◌}
use native.Mathlib.Nat.{add-zero, zero-add, le_of_suc-le-suc, not-suc-le-zero}
use native.Mathlib.Omega.{arith}
use lib.ListN.{length, drop, set, length-append, length-set}
use lib.Seq.{sets, sets-eq, length-sets}
use Rattle.format.specs.Encode.{long_bytes, all_bytes}
use Rattle.format.proofs.AllBytes.{all_bytes-append, length-all_bytes}
use Rattle.network.specs.Ends.{Ended}
use Rattle.network.specs.Buffer.{record_size, record_bytes, buffer_after}
use Rattle.listing.specs.Record.{put, written, end_written}
use Rattle.listing.proofs.LastRecords.{another_end, another_length}

-- stores after stores
sets_append {ℓ} : {A : Type ℓ} (l : List A) (i : ℕ) (vs ws : List A) → sets (sets l i vs) (i + length vs) ws ≡ sets l i (vs ++ ws)
sets_append l i [] ws = rw add-zero
sets_append l i (v ∷ vs) ws = rw next (sets_append _ (suc i) vs ws)
  where
    next : i + suc (length vs) ≡ suc i + length vs
    next = omega arith

bytes_length : (records : List Ended) → length (all_bytes record_bytes records) ≡ record_size * length records
bytes_length = length-all_bytes record_size record_bytes (λ r. refl)

-- as stores
written_sets : (n : ℕ) (records : List Ended) (buffer : List ℕ) → record_size * (n + length records) ≤ length buffer
    → sets buffer (record_size * n) (all_bytes record_bytes records) ≡ written n records buffer
written_sets n records buffer fits =
    let size = bytes_length records in
    let e : record_size * n + length (all_bytes record_bytes records) ≡ record_size * (n + length records) = omega arith in
    rw e at (sets-eq (all_bytes record_bytes records) buffer (record_size * n) (omega arith))

-- bytes that are put, as stores
pub put_sets : (p : ℕ) (bytes listing : List ℕ) → p + length bytes ≤ length listing → put p bytes listing ≡ sets listing p bytes
put_sets p bytes listing fits = sym (sets-eq bytes listing p fits)

put-length : (p : ℕ) (bytes listing : List ℕ) → p + length bytes ≤ length listing → length (put p bytes listing) ≡ length listing
put-length p bytes listing fits = ap length (put_sets p bytes listing fits) ∙ length-sets listing p bytes

-- a record by its parts
pub record_stores : (n : ℕ) (r : Ended) (listing : List ℕ) → record_size * (n + 1) ≤ length listing
    → put (record_size * n + 6) (long_bytes r.end) (set (set (put (record_size * n) (long_bytes r.start.tick) listing) (record_size * n + 4) r.start.node) (record_size * n + 5) r.start.value)
    ≡ written n (r ∷ []) listing
unfolding all_bytes
record_stores n r listing fits =
    put_sets (p + 6) (long_bytes r.end) (set (set (put p (long_bytes r.start.tick) listing) (p + 4) r.start.node) (p + 5) r.start.value)
    (simp (length-set, put-length p (long_bytes r.start.tick) listing (omega arith)) (omega arith))
    ∙ rw (five, six, put_sets p (long_bytes r.start.tick) listing (omega arith)) (sets_append listing p (long_bytes r.start.tick) (r.start.node ∷ r.start.value ∷ long_bytes r.end))
    ∙ written_sets n (r ∷ []) listing (omega arith)
  where
    p : ℕ
    p = record_size * n

    five : p + 5 ≡ suc (p + 4)
    five = omega arith

    six : p + 6 ≡ suc (suc (p + 4))
    six = omega arith

written-length : (n : ℕ) (records : List Ended) (buffer : List ℕ) → record_size * (n + length records) ≤ length buffer → length (written n records buffer) ≡ length buffer
written-length n records buffer fits = sym (ap length (written_sets n records buffer fits)) ∙ length-sets buffer (record_size * n) (all_bytes record_bytes records)

written_more : (n : ℕ) (records more : List Ended) (buffer now : List ℕ) → record_size * (n + length records + length more) ≤ length buffer
    → now ≡ written n records buffer → written (n + length records) more now ≡ written n (records ++ more) buffer
written_more n records more buffer now fits is =
    sym (written_sets (n + length records) more now (rw (is, written-length n records buffer before) fits))
    ∙ ap (λ l. sets l (record_size * (n + length records)) (all_bytes record_bytes more)) (is ∙ sym (written_sets n records buffer before))
    ∙ rw place (sets_append buffer (record_size * n) (all_bytes record_bytes records) (all_bytes record_bytes more))
    ∙ ap (sets buffer (record_size * n)) (sym (all_bytes-append record_bytes records more))
    ∙ written_sets n (records ++ more) buffer (rw length-append (omega arith))
  where
    before : record_size * (n + length records) ≤ length buffer
    before = omega arith

    place : record_size * (n + length records) ≡ record_size * n + length (all_bytes record_bytes records)
    place = omega (arith, bytes_length records)

-- The buffer of a run is what the records make of it from its start on.
after : (records : List Ended) (buffer : List ℕ) → buffer_after records buffer ≡ written 0 records buffer
unfolding buffer_after
after records buffer = rw zero-add

pub buffer-none : (buffer : List ℕ) → buffer_after [] buffer ≡ buffer
unfolding buffer_after all_bytes
buffer-none buffer = refl

pub buffer-length : (records : List Ended) (buffer : List ℕ) → record_size * length records ≤ length buffer → length (buffer_after records buffer) ≡ length buffer
buffer-length records buffer fits = ap length (after records buffer) ∙ written-length 0 records buffer (omega arith)

-- a tick's records after those of the ticks before
pub buffer_more : (records more : List Ended) (buffer now : List ℕ) → record_size * (length records + length more) ≤ length buffer
    → now ≡ buffer_after records buffer → written (length records) more now ≡ buffer_after (records ++ more) buffer
buffer_more records more buffer now fits is =
    ap (λ n. written n more now) (sym (zero-add (length records))) ∙ written_more 0 records more buffer now (omega arith) (is ∙ after records buffer) ∙ sym (after (records ++ more) buffer)

-- Another end for a record: four stores within its bytes.
sets_cons {ℓ} : {A : Type ℓ} (a : A) (l : List A) (i : ℕ) (vs : List A) → sets (a ∷ l) (suc i) vs ≡ a ∷ sets l i vs
sets_cons a l i [] = refl
sets_cons a l i (v ∷ vs) = sets_cons a (set l i v) (suc i) vs

sets_after {ℓ} : {A : Type ℓ} (xs l : List A) (i : ℕ) (vs : List A) → sets (xs ++ l) (length xs + i) vs ≡ xs ++ sets l i vs
sets_after [] l i vs = rw zero-add
sets_after (x ∷ xs) l i vs = rw next (sets_cons x (xs ++ l) (length xs + i) vs ∙ ap (λ l. x ∷ l) (sets_after xs l i vs))
  where
    next : suc (length xs) + i ≡ suc (length xs + i)
    next = omega arith

end_bytes : (records : List Ended) (rest : List ℕ) (n end : ℕ) → n < length records
    → sets (all_bytes record_bytes records ++ rest) (record_size * n + 6) (long_bytes end) ≡ all_bytes record_bytes (another_end n end records) ++ rest
unfolding all_bytes
end_bytes [] rest n end h = absurd (not-suc-le-zero h)
end_bytes (r ∷ rs) rest zero end h = refl
end_bytes (r ∷ rs) rest (suc n) end h =
    rw next (sets_after (record_bytes r) (all_bytes record_bytes rs ++ rest) (record_size * n + 6) (long_bytes end))
    ∙ ap (λ l. record_bytes r ++ l) (end_bytes rs rest n end (le_of_suc-le-suc h))
  where
    next : record_size * suc n + 6 ≡ length (record_bytes r) + (record_size * n + 6)
    next = omega arith

pub end_buffer : (records : List Ended) (buffer : List ℕ) (n end : ℕ) → record_size * length records ≤ length buffer → n < length records
    → end_written n end (buffer_after records buffer) ≡ buffer_after (another_end n end records) buffer
unfolding buffer_after
end_buffer records buffer n end fits h =
    sym (sets-eq (long_bytes end) (buffer_after records buffer) (record_size * n + 6) (omega (arith, buffer-length records buffer fits)))
    ∙ end_bytes records (drop (record_size * length records) buffer) n end h
    ∙ rw (another_length n end records)
