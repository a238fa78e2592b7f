-- How many numbers below a bound pass a test: as many in any order; and where no number passes above one that fails, those that pass are the ones below their count. Assumes nothing.
use lib.ListN.{length, length-append}
use mathlib.Core.Bool.{Bool, true, false, true≢false}
use mathlib.Core.List.{List, [], ◌∷◌}
use mathlib.Core.Logic.{◌↔◌}
use mathlib.Core.Path.{◌≡◌, refl, sym, ap, ◌∙◌}
use native.Mathlib.Decide.{ℕ_discrete}
use native.Mathlib.Nat.{le_step, lt-suc_self, not-suc-le-zero}
use native.Mathlib.Omega.{arith}
use Prim.Native.Nat.{ℕ, zero, suc, ◌+◌, ◌<◌}
use Rattle.std.specs.Prelude.{if◌then◌else◌}
use Rattle.sheet.specs.Enumerate.{each}
use Rattle.network.proofs.Count.{count, count_at_most}
use Rattle.format.proofs.OneToOne.{OneToOne}
use Rattle.network.proofs.Listed.{each_reordered}

-- the count as a length, and so in any order
abbrev marked : Bool → List ℕ
marked b = if b then 0 ∷ [] else []

count_length : (n : ℕ) (f : ℕ → Bool) → length (each n (λ k. marked (f k))) ≡ count n f
unfolding each count
count_length zero f = refl
count_length (suc n) f = length-append (each n (λ k. marked (f k))) (marked (f n)) ∙ omega (arith, count_length n f, one (f n))
  where
    one : (b : Bool) → length (marked b) ≡ (if b then 1 else 0)
    one true = refl
    one false = refl

pub count_reordered : (n : ℕ) (g : ℕ → ℕ) → OneToOne n g → (f : ℕ → Bool) → count n (λ k. f (g k)) ≡ count n f
count_reordered n g o f = sym (count_length n (λ k. f (g k))) ∙ each_reordered n g o (λ k. marked (f k)) ∙ count_length n f

module _ (f : ℕ → Bool) where
  all_pass : (k : ℕ) → ((j : ℕ) → j < k → f j ≡ true) → count k f ≡ k
  unfolding count
  all_pass zero all = refl
  all_pass (suc k) all = rw (all k (lt-suc_self k)) (omega (arith, all_pass k (λ j l. all j (le_step l))))

  pub first_ones : (n : ℕ) → ((j k : ℕ) → j < k → k < n → f k ≡ true → f j ≡ true) → (k : ℕ) → k < n → k < count n f ↔ (f k ≡ true)
  unfolding count
  first_ones zero down k h = absurd (not-suc-le-zero h)
  first_ones (suc n) down k h = go (f n) refl (ℕ_discrete k n) (first_ones n (λ j k l b. down j k l (le_step b)) k)
    where
      up_to : f n ≡ true → (j : ℕ) → j < n → f j ≡ true
      up_to e j l = down j n l (lt-suc_self n) e

      go : (b : Bool) → f n ≡ b → Dec (k ≡ n) → (k < n → k < count n f ↔ (f k ≡ true)) → k < count n f + (if b then 1 else 0) ↔ (f k ≡ true)
      go true e (yes i) before = (λ b. ap f i ∙ e, λ p. omega (arith, all_pass n (up_to e)))
      go true e (no d) before = (λ b. up_to e k (omega arith), λ p. omega (arith, all_pass n (up_to e)))
      go false e (yes i) before = (λ b. absurd (omega (arith, count_at_most n f)), λ p. absurd (true≢false (sym p ∙ ap f i ∙ e)))
      go false e (no d) before = let (out, into) = before (omega arith) in (λ b. out (omega arith), λ p. omega (arith, into p))
