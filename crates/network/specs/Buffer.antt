-- Document 01, "The listing", with document 02's W-204: a record's bytes, how many records a buffer takes, and what it holds once they are
-- written.
-- Nothing else knows a record's size.
use Rattle.std.specs.Prelude.{List, ◌∷◌, ◌++◌, ℕ, ◌+◌, ◌*◌, ◌/◌, length, drop}
use Rattle.sheet.specs.Bytes.{byte_at, long_at}
use Rattle.format.specs.Encode.{long_bytes, all_bytes}
use Rattle.network.specs.Ends.{Ended}

abbrev pub record_size : ℕ
record_size = 10

-- tick (4 bytes), node, value, end (4 bytes)
abbrev pub record_bytes : Ended → List ℕ
record_bytes r = long_bytes r.start.tick ++ r.start.node ∷ r.start.value ∷ long_bytes r.end

-- the record that stands at a place
abbrev pub record_in : List ℕ → ℕ → Ended
record_in listing p =
    record {
      start = record { tick = long_at listing p; node = byte_at listing (p + 4); value = byte_at listing (p + 5) };
      end = long_at listing (p + 6);
    }

-- a buffer of so many bytes takes so many records
abbrev pub room : ℕ → ℕ
room bytes = bytes / record_size

-- the buffer afterwards: the records' bytes, and past them as it was
unfoldable pub buffer_after : List Ended → List ℕ → List ℕ
buffer_after records buffer = all_bytes record_bytes records ++ drop (record_size * length records) buffer
