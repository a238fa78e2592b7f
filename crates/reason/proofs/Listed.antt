-- Which numbers are listed: 1 to the last that has a row, and no other. Assumes nothing.
use mathlib.Core.Bool.{true, false, and-false}
use mathlib.Core.Path.{◌≡◌}
use Prim.Native.Nat.{ℕ, ◌<◌, ◌≤◌}
use native.Mathlib.Omega.{arith}
use borrow.Author.Tests.{lt-leb, le-leb, lt-ltb}
use lib.Dec.{T, leb, ltb, leb→le, ltb→lt}
use lib.Ieee.Fits.{and_l, and_r}
use lib.ListN.{length}
use Rattle.reason.specs.Phrases.{phrases, is_listed}

-- a listed number is 1 to the last that has a row
pub listed-is : (n : ℕ) → is_listed n ≡ true → (0 < n) × (n ≤ length phrases)
listed-is n e =
    let t : T (is_listed n) = rw e tt in
    (ltb→lt 0 n (and_l (ltb 0 n) (leb n (length phrases)) t), leb→le n (length phrases) (and_r (ltb 0 n) (leb n (length phrases)) t))

pub above_listed : (n : ℕ) → length phrases < n → is_listed n ≡ false
above_listed n h = rw (lt-leb n (length phrases) h, and-false)

pub is-listed : (n : ℕ) → (n ≡ 0 → ⊥) → n ≤ length phrases → is_listed n ≡ true
is-listed n some most = rw (lt-ltb 0 n (omega arith), le-leb n (length phrases) most)
