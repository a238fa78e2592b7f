-- A record that is read, and records that are written, by their numbers in the listing.
use Rattle.std.specs.Prelude.{List, ◌++◌, ℕ, ◌+◌, ◌*◌, length, take, drop}
use Rattle.format.specs.Encode.{long_bytes, all_bytes}
use Rattle.network.specs.Ends.{Ended}
use Rattle.network.specs.Buffer.{record_size, record_bytes}
use Rattle.listing.specs.declared.record.Listed.{Listed}

abbrev pub record_of : Listed → Ended
record_of r = record { start = record { tick = r.tick; node = r.node; value = r.value }; end = r.end }

-- bytes from a place on, and the rest as it was
abbrev pub put : ℕ → List ℕ → List ℕ → List ℕ
put p bytes listing = take p listing ++ bytes ++ drop (p + length bytes) listing

-- records from number n on
abbrev pub written : ℕ → List Ended → List ℕ → List ℕ
written n records listing =
    take (record_size * n) listing ++ all_bytes record_bytes records ++ drop (record_size * (n + length records)) listing

-- the end of record number n: the last four of its bytes
abbrev pub end_written : ℕ → ℕ → List ℕ → List ℕ
end_written n end listing = put (record_size * n + 6) (long_bytes end) listing
