-- The numbers below a bound, one to one: so many numbers below the bound with no two equal are all of them.
-- By induction on the bound, each time with the last number's in the place of the greatest. Assumes nothing.
use lib.Dec.{eqb}
use borrow.Author.Tests.{eq-eqb, ne_eqb}
use mathlib.Core.Path.{◌≡◌, refl, sym, ◌∙◌}
use native.Mathlib.Decide.{ℕ_discrete}
use native.Mathlib.Nat.{not-suc-le-zero, le_step, lt-suc_self}
use native.Mathlib.Omega.{arith}
use Prim.Native.Nat.{ℕ, zero, suc, ◌<◌}
use Rattle.std.specs.Prelude.{if◌then◌else◌}

-- numbers below the bound go to numbers below the bound, no two to the same
pub record OneToOne (n : ℕ) (g : ℕ → ℕ) : Type 0 where
  pub below : (k : ℕ) → k < n → g k < n
  pub once : (j k : ℕ) → j < n → k < n → g j ≡ g k → j ≡ k

-- a in the place of n
pub instead : ℕ → ℕ → ℕ → ℕ
instead n a x = if eqb x n then a else x

module _ (n a x : ℕ) where
  pub at : x ≡ n → instead n a x ≡ a
  unfolding instead
  at e = rw (eq-eqb x n e)

  pub other : (x ≡ n → ⊥) → instead n a x ≡ x
  unfolding instead
  other d = rw (ne_eqb x n d)

-- without a, the numbers up to n fit below n
module _ (n a : ℕ) where
  fits : (x : ℕ) → a < suc n → x < suc n → (x ≡ a → ⊥) → instead n a x < n
  fits x l h d = go (ℕ_discrete x n)
    where
      go : Dec (x ≡ n) → instead n a x < n
      go (yes e) = rw (at n a x e) (omega arith)
      go (no c) = rw (other n a x c) (omega arith)

  back : (x y : ℕ) → (x ≡ a → ⊥) → (y ≡ a → ⊥) → instead n a x ≡ instead n a y → x ≡ y
  back x y d c p = go (ℕ_discrete x n) (ℕ_discrete y n)
    where
      go : Dec (x ≡ n) → Dec (y ≡ n) → x ≡ y
      go (yes e) (yes f) = e ∙ sym f
      go (yes e) (no f) = absurd (c (sym (other n a y f) ∙ sym p ∙ at n a x e))
      go (no e) (yes f) = absurd (d (sym (other n a x e) ∙ p ∙ at n a y f))
      go (no e) (no f) = sym (other n a x e) ∙ p ∙ other n a y f

  -- and n may take its place again
  pub again : (x : ℕ) → (x ≡ a → ⊥) → instead a n (instead n a x) ≡ x
  again x d = go (ℕ_discrete x n)
    where
      go : Dec (x ≡ n) → instead a n (instead n a x) ≡ x
      go (yes e) = rw (at n a x e) (at a n a refl ∙ sym e)
      go (no c) = rw (other n a x c) (other a n x d)

  pub stays : instead a n n ≡ n
  stays = go (ℕ_discrete n a)
    where
      go : Dec (n ≡ a) → instead a n n ≡ n
      go (yes e) = at a n n e
      go (no c) = other a n n c

-- one number less
module _ (n : ℕ) (g : ℕ → ℕ) (o : OneToOne (suc n) g) where
  pub not_last : (k : ℕ) → k < n → g k ≡ g n → ⊥
  not_last k h e = omega (arith, o.once k n (le_step h) (lt-suc_self n) e)

  pub last_below : g n < suc n
  last_below = o.below n (lt-suc_self n)

  pub less : OneToOne n (λ k. instead n (g n) (g k))
  less =
      record {
        below = λ k h. fits n (g n) (g k) last_below (o.below k (le_step h)) (not_last k h);
        once = λ j k h i p. o.once j k (le_step h) (le_step i) (back n (g n) (g j) (g k) (not_last j h) (not_last k i) p);
      }

-- every number below the bound is met
pub onto : (n : ℕ) (g : ℕ → ℕ) → OneToOne n g → (m : ℕ) → m < n → (k : ℕ) × (k < n) × (g k ≡ m)
onto zero g o m h = absurd (not-suc-le-zero h)
onto (suc n) g o m h = go (ℕ_discrete m (g n)) (onto n _ (less n g o) (instead n (g n) m))
  where
    go : Dec (m ≡ g n) → (instead n (g n) m < n → (k : ℕ) × (k < n) × (instead n (g n) (g k) ≡ instead n (g n) m)) → (k : ℕ) × (k < suc n) × (g k ≡ m)
    go (yes e) before = (n, lt-suc_self n, sym e)
    go (no d) before =
        let r = before (fits n (g n) m (last_below n g o) h d) in
        (r.0, le_step r.1, back n (g n) (g r.0) m (not_last n g o r.0 r.1) d r.2)
