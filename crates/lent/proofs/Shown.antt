-- Texts of one line: every byte is one that is shown within it, and none is a line's end. Assumes nothing.
use mathlib.Core.Bool.{Bool, true, ◌&&◌}
use mathlib.Core.List.Memᴰ
use mathlib.Core.List.{List, [], ◌∷◌, ◌++◌, Memᴰ}
use mathlib.Core.Logic.{⊎_elim}
use Prim.Native.Nat.{ℕ, ◌<◌, ◌≤◌}
use native.Mathlib.Omega.{arith}
use lib.Dec.{T, leb, ltb, leb→le, ltb→lt}
use lib.Ieee.Fits.{and_l, and_r}
use Rattle.lent.specs.Decimal.{decimal}
use Rattle.lent.proofs.ReadBack.{Digits, digits_are}

abbrev pub Shown : List ℕ → Type 0
Shown text = (b : ℕ) → Memᴰ b text → (32 ≤ b) × (b < 127)

abbrev shown : ℕ → Bool
shown b = leb 32 b && ltb b 127

abbrev pub all_shown : List ℕ → Bool
all_shown [] = true
all_shown (a ∷ l) = shown a && all_shown l

pub of_test : (l : List ℕ) → T (all_shown l) → Shown l
of_test [] t b m = absurd (Memᴰ.not-nil m)
of_test (a ∷ l) t b m = ⊎_elim (λ e. rw e (first (and_l (shown a) (all_shown l) t))) (of_test l (and_r (shown a) (all_shown l) t) b) (Memᴰ.cases_cons m)
  where
    first : T (shown a) → (32 ≤ a) × (a < 127)
    first t = (leb→le 32 a (and_l (leb 32 a) (ltb a 127) t), ltb→lt a 127 (and_r (leb 32 a) (ltb a 127) t))

of_digits : (l : List ℕ) → Digits l → Shown l
of_digits [] d b m = absurd (Memᴰ.not-nil m)
of_digits (a ∷ l) d b m = ⊎_elim (λ e. rw e (omega (arith, d.0), omega (arith, d.0))) (of_digits l d.1 b) (Memᴰ.cases_cons m)

pub of_number : (n : ℕ) → Shown (decimal n)
of_number n = of_digits (decimal n) (digits_are 10 n)

pub joined : (x y : List ℕ) → Shown x → Shown y → Shown (x ++ y)
joined x y hx hy b m = ⊎_elim (hx b) (hy b) (Memᴰ.append_cases x m)
