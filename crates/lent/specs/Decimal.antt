-- Numbers in decimal, as bytes: the digits '0' to '9' are 48 to 57.
use Rattle.std.specs.Prelude.{List, [], ◌∷◌, ◌++◌, ℕ, zero, suc, ◌+◌, ◌/◌, ◌%◌, ltb, if◌then◌else◌}

abbrev pub digit : ℕ → ℕ
digit d = 48 + d

-- at most so many digits of n: below 10 the one digit; otherwise the digits of a tenth, and then the last digit
unfoldable pub digits : ℕ → ℕ → List ℕ
digits zero n = []
digits (suc most) n = if ltb n 10 then digit n ∷ [] else digits most (n / 10) ++ digit (n % 10) ∷ []

-- the digits of n without leading zeros: what is printed are numbers of 32 bits, which have at most 10
abbrev pub decimal : ℕ → List ℕ
decimal n = digits 10 n
