-- A number in decimal, one digit at a time: a bound on the digits that is high enough makes no difference, and how many there are.
-- Assumes nothing.
use mathlib.Core.Bool.{Bool, true, false}
use mathlib.Core.List.{[], ◌∷◌, ◌++◌}
use mathlib.Core.Path.{◌≡◌, refl, ap}
use Prim.Native.Nat.{ℕ, zero, suc, ◌/◌, ◌%◌, ◌^◌, ◌<◌, ◌≤◌}
use native.Mathlib.Nat.{pow-suc, div-lt_iff_lt-mul}
use native.Mathlib.Omega.{arith}
use borrow.Author.Tests.{ltb-false, lt-ltb, le-ltb}
use lib.Dec.{ltb, lit<}
use lib.ListN.{length, length-append}
use Rattle.std.specs.Prelude.{if◌then◌else◌}
use Rattle.lent.specs.Decimal.{digit, digits, decimal}

enough : (k n : ℕ) → n < 10 ^ suc k → digits (suc k) n ≡ digits (suc (suc k)) n
unfolding digits
enough zero n h = rw (lt-ltb n 10 h)
enough (suc k) n h = ap (λ l. if ltb n 10 then digit n ∷ [] else l ++ digit (n % 10) ∷ []) (enough k (n / 10) ((div-lt_iff_lt-mul (lit< tt)).1 (rw (← pow-suc 10 (suc k)) h)))

pub decimal_one : (n : ℕ) → n < 10 → decimal n ≡ digit n ∷ []
unfolding digits
decimal_one n h = rw (lt-ltb n 10 h)

-- of a number of 32 bits
pub decimal_more : (n : ℕ) → 10 ≤ n → n < 2 ^ 32 → decimal n ≡ decimal (n / 10) ++ digit (n % 10) ∷ []
unfolding digits
decimal_more n h w = rw (le-ltb n 10 h, enough 8 (n / 10) (omega arith))

-- a number below a power of ten has at most so many digits
pub few_digits : (most k n : ℕ) → n < 10 ^ suc k → length (digits most n) ≤ suc k
unfolding digits
few_digits zero k n h = omega arith
few_digits (suc most) k n h = here (ltb n 10) refl k (few_digits most) h
  where
    here : (b : Bool) → ltb n 10 ≡ b → (k : ℕ) → ((k n : ℕ) → n < 10 ^ suc k → length (digits most n) ≤ suc k) → n < 10 ^ suc k
        → length (if b then digit n ∷ [] else digits most (n / 10) ++ digit (n % 10) ∷ []) ≤ suc k
    here true e k rest h = omega arith
    here false e zero rest h = absurd (omega (arith, ltb-false n 10 e))
    here false e (suc k) rest h = rw (length-append (digits most (n / 10)) (digit (n % 10) ∷ [])) (omega (arith, rest k (n / 10) (omega (arith, h))))

-- and no number printed has more than ten digits
pub at_most_ten : (most n : ℕ) → length (digits most n) ≤ most
unfolding digits
at_most_ten zero n = omega arith
at_most_ten (suc most) n = here (ltb n 10) (at_most_ten most)
  where
    here : (b : Bool) → ((n : ℕ) → length (digits most n) ≤ most) → length (if b then digit n ∷ [] else digits most (n / 10) ++ digit (n % 10) ∷ []) ≤ suc most
    here true rest = omega arith
    here false rest = rw (length-append (digits most (n / 10)) (digit (n % 10) ∷ [])) (omega (arith, rest (n / 10)))
