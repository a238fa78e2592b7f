-- What a count or record that was read says of the test that chose it: none, the bytes end inside it; else they do not, and it is what stands there.
-- Assumes nothing.
use mathlib.Core.Bool.{Bool, true, false}
use mathlib.Core.Path.{◌≡◌, refl}
use Rattle.std.specs.Prelude.{None, Some, if◌then◌else◌}

pub none_read : {A : Type 0} (b : Bool) (x : A) → None ≡ (if b then None else Some x) → b ≡ true
none_read true x e = refl
none_read false x e = cc

pub some_read : {A : Type 0} (b : Bool) (x y : A) → Some y ≡ (if b then None else Some x) → (b ≡ false) × (y ≡ x)
some_read true x y e = (cc, cc)
some_read false x y e = (refl, cc)
