-- A text between quotes, as bytes: one for each letter, since every text here is of letters below 128.
use Rattle.std.specs.Prelude.{List, [], ◌∷◌, ℕ}
use Prim.Native.Char.{code}
use Prim.Native.String.{String, [] as none, ◌∷◌ as ◌then◌}

unfoldable pub letters : String → List ℕ
letters none = []
letters (c then s) = code c ∷ letters s
