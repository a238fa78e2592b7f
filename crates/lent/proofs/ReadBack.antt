-- Numbers in decimal are read back, and so is where their digits end. Assumes nothing.
use borrow.Author.Tests.{ltb-true, ltb-false, lt-ltb}
use mathlib.Core.Bool.{Bool, true, false}
use mathlib.Core.List.{List, [], ◌∷◌, ◌++◌, head-eq_of_cons-eq, tail-eq_of_cons-eq}
use mathlib.Core.Path.{◌≡◌, refl, sym, ap, ◌∙◌, subst}
use Prim.Native.Nat.{ℕ, zero, suc, ◌+◌, ◌*◌, ◌-◌, ◌/◌, ◌%◌, ◌^◌, ◌<◌, ◌≤◌}
use native.Mathlib.Nat.{pow-suc, div-lt_iff_lt-mul}
use native.Mathlib.Omega.{arith}
use lib.Dec.{ltb, lit<}
use Rattle.std.specs.Prelude.{if◌then◌else◌}
use Rattle.lent.specs.Decimal.{digit, digits, decimal}

-- the number that digits give after those that gave n
abbrev value_from : ℕ → List ℕ → ℕ
value_from n [] = n
value_from n (b ∷ l) = value_from (10 * n + (b - 48)) l

value_append : (n b : ℕ) (l : List ℕ) → value_from n (l ++ b ∷ []) ≡ 10 * value_from n l + (b - 48)
value_append n b [] = refl
value_append n b (a ∷ l) = value_append (10 * n + (a - 48)) b l

-- one step: the digits of a tenth are read back already
step : (k n : ℕ) → value_from 0 (digits k (n / 10)) ≡ n / 10 → 10 ≤ n → value_from 0 (digits k (n / 10) ++ digit (n % 10) ∷ []) ≡ n
step k n tenth h = value_append 0 (digit (n % 10)) (digits k (n / 10)) ∙ omega (arith, tenth)

read_back : (k n : ℕ) → n < 10 ^ suc k → value_from 0 (digits (suc k) n) ≡ n
unfolding digits
read_back zero n h = rw (lt-ltb n 10 h) (omega arith)
read_back (suc k) n h = here (ltb n 10) refl (read_back k (n / 10))
  where
    here : (b : Bool) → ltb n 10 ≡ b → (n / 10 < 10 ^ suc k → value_from 0 (digits (suc k) (n / 10)) ≡ n / 10)
        → value_from 0 (if b then digit n ∷ [] else digits (suc k) (n / 10) ++ digit (n % 10) ∷ []) ≡ n
    here true e tenth = omega arith
    here false e tenth = step (suc k) n (tenth ((div-lt_iff_lt-mul (lit< tt)).1 (rw (← pow-suc 10 (suc k)) h))) (ltb-false n 10 e)

-- all bytes are digits
abbrev pub Digits : List ℕ → Type 0
Digits [] = Unit
Digits (b ∷ l) = ((48 ≤ b) × (b < 58)) × Digits l

digits_append : (x y : List ℕ) → Digits x → Digits y → Digits (x ++ y)
digits_append [] y dx dy = dy
digits_append (b ∷ x) y dx dy = (dx.0, digits_append x y dx.1 dy)

pub digits_are : (k n : ℕ) → Digits (digits k n)
unfolding digits
digits_are zero n = tt
digits_are (suc k) n = here (ltb n 10) refl (digits_are k)
  where
    here : (b : Bool) → ltb n 10 ≡ b → ((n : ℕ) → Digits (digits k n)) → Digits (if b then digit n ∷ [] else digits k (n / 10) ++ digit (n % 10) ∷ [])
    here true e rest = ((omega arith, omega (arith, ltb-true n 10 e)), tt)
    here false e rest = digits_append (digits k (n / 10)) (digit (n % 10) ∷ []) (rest (n / 10)) ((omega arith, omega arith), tt)

-- no digit stands first
abbrev pub NoDigit : List ℕ → Type 0
NoDigit [] = Unit
NoDigit (b ∷ l) = 48 ≤ b → b < 58 → ⊥

no_start : {b : ℕ} {l r : List ℕ} → (48 ≤ b) × (b < 58) → NoDigit r → r ≡ b ∷ l → ⊥
no_start d n e = subst NoDigit e n d.0 d.1

-- where digits are followed by none, a text shows which they are and what follows
split : (x y r s : List ℕ) → Digits x → Digits y → NoDigit r → NoDigit s → x ++ r ≡ y ++ s → (x ≡ y) × (r ≡ s)
split [] [] r s dx dy nr ns e = (refl, e)
split [] (b ∷ y) r s dx dy nr ns e = absurd (no_start dy.0 nr e)
split (a ∷ x) [] r s dx dy nr ns e = absurd (no_start dx.0 ns (sym e))
split (a ∷ x) (b ∷ y) r s dx dy nr ns e =
    let rest = split x y r s dx.1 dy.1 nr ns (tail-eq_of_cons-eq e) in
    (rw (head-eq_of_cons-eq e, rest.0), rest.1)

-- numbers of 32 bits in decimal, each with no digit after it, are the same where the texts are, and so is what follows
pub decimal_then : {n m : ℕ} (r s : List ℕ) → n < 2 ^ 32 → m < 2 ^ 32 → NoDigit r → NoDigit s → decimal n ++ r ≡ decimal m ++ s → (n ≡ m) × (r ≡ s)
decimal_then {n} {m} r s hn hm nr ns e =
    let both = split (decimal n) (decimal m) r s (digits_are 10 n) (digits_are 10 m) nr ns e in
    (sym (read_back 9 n (omega arith)) ∙ ap (value_from 0) both.0 ∙ read_back 9 m (omega arith), both.1)
