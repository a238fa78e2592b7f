-- A permutation gives no two numbers below its bound the same one. Assumes nothing.
use mathlib.Core.Path.{◌≡◌, sym, ap, ◌∙◌}
use Prim.Native.Nat.{ℕ, ◌<◌}
use Rattle.network.specs.Renumbering.{Permutation}

pub to_once : {n : ℕ} (π : Permutation n) (v w : ℕ) → v < n → w < n → π.to v ≡ π.to w → v ≡ w
to_once π v w h l e = sym (π.from_to v h) ∙ ap π.from e ∙ π.from_to w l
