-- The records that are written are read back, where tick and end have 32 bits. Assumes nothing.
use mathlib.Core.List.{List, [], ◌∷◌, ◌++◌, Memᴰ}
use mathlib.Core.Path.{◌≡◌, refl}
use Prim.Native.Nat.{ℕ, ◌+◌, ◌*◌, ◌^◌, ◌<◌}
use native.Mathlib.Nat.{zero-add}
use lib.ListN.{length, get_or}
use Rattle.sheet.specs.Bytes.{byte_at}
use Rattle.sheet.specs.Enumerate.{each}
use Rattle.sheet.proofs.Listed.{get_or-mem}
use Rattle.format.specs.Encode.{long_bytes, all_bytes}
use Rattle.format.proofs.EncodeSpan.{span, span_whole, stand_halves, record_stands}
use Rattle.format.proofs.EncodeNumber.{long_read}
use Rattle.network.specs.Ends.{Ended}
use Rattle.network.specs.Buffer.{record_size, record_bytes, record_in, buffer_after}

abbrev pub Small : Ended → Type 0
Small r = (r.start.tick < 2 ^ 32) × (r.end < 2 ^ 32)

record_read : (s : List ℕ) (p : ℕ) (r : Ended) → Small r → span s p record_size ≡ record_bytes r → record_in s p ≡ r
unfolding each
record_read s p r b h =
    let start = r.start in
    let halves = stand_halves s p (long_bytes start.tick ++ start.node ∷ start.value ∷ []) (long_bytes r.end) h in
    λ i.
    record {
      start =
          record {
            tick = long_read s p start.tick b.0 (stand_halves s p (long_bytes start.tick) (start.node ∷ start.value ∷ []) halves.0).0 i;
            node = byte_at (h i) 4;
            value = byte_at (h i) 5;
          };
      end = long_read s (p + 6) r.end b.1 halves.1 i;
    }

-- the record of a number in the listing is the one written with that number
pub read_back : (records : List Ended) (buffer : List ℕ) (d : Ended) → ((r : Ended) → Memᴰ r records → Small r) → (i : ℕ) → i < length records
    → record_in (buffer_after records buffer) (record_size * i) ≡ get_or records i d
unfolding buffer_after
read_back records buffer d small i h =
    record_read b (record_size * i) (get_or records i d) (small (get_or records i d) (get_or-mem records i d h))
    (rw zero-add at (record_stands b record_size record_bytes (λ r. refl) 0 records d i h (stand_halves b 0 (all_bytes record_bytes records) _ (span_whole b)).0))
  where
    b : List ℕ
    b = buffer_after records buffer
