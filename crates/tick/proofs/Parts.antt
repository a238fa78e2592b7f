-- The part of a list from a place on, as it is lent. Assumes nothing.
use mathlib.Core.List.{List}
use mathlib.Core.Path.{◌≡◌}
use Prim.Native.Nat.{ℕ, ◌+◌, ◌-◌}
use native.Mathlib.Omega.{arith}
use lib.ListN.{length, get_or, take, drop, length-drop}
use lib.Seq.{take_all, get_or-drop}

module _ {A : Type 0} (l : List A) (from : ℕ) where
  whole : take (length l - from) (drop from l) ≡ drop from l
  whole = take_all (length l - from) (drop from l) (omega (arith, length-drop from l))

  pub length-part : length (take (length l - from) (drop from l)) ≡ length l - from
  length-part = rw whole (length-drop from l)

  pub get_or-part : (i : ℕ) (d : A) → get_or (take (length l - from) (drop from l)) i d ≡ get_or l (from + i) d
  get_or-part i d = rw whole (get_or-drop from l i d)
