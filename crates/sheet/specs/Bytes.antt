-- Document 01, "The sheet": numbers of several bytes have the low byte first.
use Rattle.std.specs.Prelude.{Bool, List, ℕ, ◌+◌, ◌*◌, ltb, length, get_or}

-- the byte at a place, counted from 0 at the sheet's first byte
abbrev pub byte_at : List ℕ → ℕ → ℕ
byte_at s p = get_or s p 0

-- a number of two bytes
abbrev pub word_at : List ℕ → ℕ → ℕ
word_at s p = byte_at s p + 256 * byte_at s (p + 1)

-- a number of four bytes
abbrev pub long_at : List ℕ → ℕ → ℕ
long_at s p = byte_at s p + 256 * byte_at s (p + 1) + 65536 * byte_at s (p + 2) + 16777216 * byte_at s (p + 3)

-- each count or record, from its place and of its size: the bytes end inside it
abbrev pub ends_inside : List ℕ → ℕ → ℕ → Bool
ends_inside s place size = ltb (length s) (place + size)
