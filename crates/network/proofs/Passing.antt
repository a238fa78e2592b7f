-- A test that passes, as a type and as an equation. Assumes nothing.
use lib.Dec.{T}
use mathlib.Core.Bool.{Bool, true, false}
use mathlib.Core.Path.{◌≡◌, refl, sym, subst}

pub passes : (b : Bool) → T b → b ≡ true
passes true t = refl
passes false t = absurd t

pub passing : {b : Bool} → b ≡ true → T b
passing e = subst T (sym e) tt
