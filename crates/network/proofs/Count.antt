-- How many numbers below a bound pass a test: no more than there are, and more than pass another where every number that passes the other passes it and one more does. Assumes nothing.
use mathlib.Core.Bool.{Bool, true, false}
use mathlib.Core.Path.{◌≡◌, refl}
use native.Mathlib.Decide.{ℕ_discrete}
use native.Mathlib.Nat.{not-suc-le-zero}
use native.Mathlib.Omega.{arith}
use Prim.Native.Nat.{ℕ, zero, suc, ◌+◌, ◌≤◌, ◌<◌}
use Rattle.std.specs.Prelude.{if◌then◌else◌}

unfoldable pub count : ℕ → (ℕ → Bool) → ℕ
count zero f = 0
count (suc n) f = count n f + (if f n then 1 else 0)

pub count_at_most : (n : ℕ) (f : ℕ → Bool) → count n f ≤ n
unfolding count
count_at_most zero f = omega arith
count_at_most (suc n) f = omega (arith, count_at_most n f, one (f n))
  where
    one : (b : Bool) → (if b then 1 else 0) ≤ 1
    one true = omega arith
    one false = omega arith

module _ (f g : ℕ → Bool) (all : (i : ℕ) → f i ≡ true → g i ≡ true) where
  no_fewer : (a b : Bool) → (a ≡ true → b ≡ true) → (if a then 1 else 0) ≤ (if b then 1 else 0)
  no_fewer true b h = rw (h refl) (omega arith)
  no_fewer false b h = omega arith

  pub count_all : (n : ℕ) → count n f ≤ count n g
  unfolding count
  count_all zero = omega arith
  count_all (suc n) = omega (arith, count_all n, no_fewer (f n) (g n) (all n))

  pub count_more : (n k : ℕ) → k < n → f k ≡ false → g k ≡ true → count n f < count n g
  unfolding count
  count_more zero k l p q = absurd (not-suc-le-zero l)
  count_more (suc n) k l p q = at (count_more n k) (ℕ_discrete k n)
    where
      at : (k < n → f k ≡ false → g k ≡ true → count n f < count n g) → Dec (k ≡ n) → count n f + (if f n then 1 else 0) < count n g + (if g n then 1 else 0)
      at before (yes e) = rw (rw e at p, rw e at q) (omega (arith, count_all n))
      at before (no d) = omega (arith, before (omega arith) p q, no_fewer (f n) (g n) (all n))
