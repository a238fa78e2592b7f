-- Document 01, "Time and values": 0 low, 1 high, 2 undefined (printed X), 3 no value (printed Z).
use Rattle.std.specs.Prelude.{[], ◌∷◌, ℕ, get_or}

abbrev pub low : ℕ
low = 0

abbrev pub high : ℕ
high = 1

abbrev pub unknown : ℕ
unknown = 2

abbrev pub none : ℕ
none = 3

-- the byte that prints a value: '0', '1', 'X' or 'Z'
abbrev pub printed : ℕ → ℕ
printed value = get_or (48 ∷ 49 ∷ 88 ∷ 90 ∷ []) value 88
