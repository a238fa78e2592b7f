-- Document 02's W-209: what the drivers of one node come to together. Joining, of two values and of a list.
use Rattle.std.specs.Prelude.{Bool, List, [], ◌∷◌, ℕ, zero, suc, eqb, ltb, if◌then◌else◌}
use Rattle.level.specs.Level.{low, high, unknown, none}

-- Z yields to the other, equal values stay, anything else is X
abbrev pub join : ℕ → ℕ → ℕ
join a b = if eqb a none then b else if eqb b none then a else if eqb a b then a else unknown

-- of a list; without any value, Z
abbrev pub joined : List ℕ → ℕ
joined [] = none
joined (a ∷ rest) = join a (joined rest)

-- The same by how many there are of each value: how many entries of a list have a value,
abbrev pub count_of : ℕ → List ℕ → ℕ
count_of x [] = zero
count_of x (a ∷ rest) = if eqb a x then suc (count_of x rest) else count_of x rest

-- and whether there is a 0, a 1, an X
abbrev pub joined_with : Bool → Bool → Bool → ℕ
joined_with zeros ones unknowns =
    if unknowns then unknown else if zeros then if ones then unknown else low else if ones then high else none

abbrev pub joined_counts : ℕ → ℕ → ℕ → ℕ
joined_counts zeros ones unknowns = joined_with (ltb 0 zeros) (ltb 0 ones) (ltb 0 unknowns)
