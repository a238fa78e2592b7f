-- A rule over small numbers, proved at all of them by one test that antt computes. Assumes nothing.
use mathlib.Core.Bool.{Bool, true, ◌&&◌}
use mathlib.Core.List.{List}
use mathlib.Core.Path.{◌≡◌}
use Prim.Native.Nat.{ℕ, zero, suc, ◌<◌}
use native.Mathlib.Nat.{not-suc-le-zero}
use native.Mathlib.Decide.{ℕ_discrete}
use native.Mathlib.Omega.{arith}
use lib.Dec.{T, eqb, eqb→eq}
use lib.Ieee.Fits.{and_l, and_r}
use lib.ListN.{get_or}

-- the test f passes at every number below n
abbrev pub all_below : ℕ → (ℕ → Bool) → Bool
all_below zero f = true
all_below (suc n) f = f n && all_below n f

-- what the test says at one of the numbers
pub below : (n : ℕ) (f : ℕ → Bool) → T (all_below n f) → (i : ℕ) → i < n → T (f i)
below zero f t i h = absurd (not-suc-le-zero h)
below (suc n) f t i h = at (ℕ_discrete i n) (below n f (and_r (f n) (all_below n f) t) i)
  where
    at : Dec (i ≡ n) → (i < n → T (f i)) → T (f i)
    at (yes e) less = rw e (and_l (f n) (all_below n f) t)
    at (no ne) less = less (omega arith)

-- A table's first n entries are what g gives. `rw` finds the table in the goal, and a test that passes asks no proof.
pub entries : (n : ℕ) (g : ℕ → ℕ) (table : List ℕ) (i : ℕ) → i < n → T (all_below n (λ k. eqb (get_or table k 0) (g k))) → get_or table i 0 ≡ g i
entries n g table i h t = eqb→eq _ _ (below n (λ k. eqb (get_or table k 0) (g k)) t i h)
