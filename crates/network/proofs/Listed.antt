-- The numbers below a bound, each once: a list of so many numbers below the bound with no two equal has every one of them, and what is put in a
-- row for each is as long in any order. Assumes nothing.
use lib.ListN.{length, get_or, length-append}
use mathlib.Core.List.{List}
use mathlib.Core.Path.{◌≡◌, refl, sym, ap, ◌∙◌}
use native.Mathlib.Decide.{ℕ_discrete}
use native.Mathlib.Nat.{not-suc-le-zero, le_step, lt-suc_self}
use native.Mathlib.Omega.{arith}
use Prim.Native.Nat.{ℕ, zero, suc, ◌+◌, ◌<◌}
use Rattle.sheet.specs.Enumerate.{each}
use Rattle.format.proofs.OneToOne.{OneToOne, onto, instead, at, other, again, stays, not_last, last_below, less}
use Rattle.network.specs.Order.{Listed}

pub one_to_one : {n : ℕ} {order : List ℕ} → Listed n order → OneToOne n (λ k. get_or order k 0)
one_to_one l = record { below = l.known; once = l.once }

pub position : {n : ℕ} {order : List ℕ} → Listed n order → (m : ℕ) → m < n → (k : ℕ) × (k < n) × (get_or order k 0 ≡ m)
position {n} l = onto n _ (one_to_one l)

-- what is put in a row for each number
module _ {ℓ} {A : Type ℓ} where
  pub each_lengths : (n : ℕ) (f h : ℕ → List A) → ((k : ℕ) → k < n → length (f k) ≡ length (h k)) → length (each n f) ≡ length (each n h)
  unfolding each
  each_lengths zero f h e = refl
  each_lengths (suc n) f h e = simp length-append (omega (arith, each_lengths n f h (λ k l. e k (le_step l)), e n (lt-suc_self n)))

  -- where it is changed at one number only
  each_changed : (n a : ℕ) (f h : ℕ → List A) → a < n → ((k : ℕ) → (k ≡ a → ⊥) → f k ≡ h k) → length (each n f) + length (h a) ≡ length (each n h) + length (f a)
  unfolding each
  each_changed zero a f h l e = absurd (not-suc-le-zero l)
  each_changed (suc n) a f h l e = simp length-append (go (ℕ_discrete n a) (each_changed n a f h))
    where
      go : Dec (n ≡ a) → (a < n → ((k : ℕ) → (k ≡ a → ⊥) → f k ≡ h k) → length (each n f) + length (h a) ≡ length (each n h) + length (f a))
          → length (each n f) + length (f n) + length (h a) ≡ length (each n h) + length (h n) + length (f a)
      go (yes p) before =
          omega (arith, each_lengths n f h (λ k i. ap length (e k (λ c. omega (arith, p ∙ sym c)))), ap (λ k. length (f k)) p, ap (λ k. length (h k)) p)
      go (no d) before = omega (arith, before (omega arith) e, ap length (e n d))

  pub each_reordered : (n : ℕ) (g : ℕ → ℕ) → OneToOne n g → (f : ℕ → List A) → length (each n (λ k. f (g k))) ≡ length (each n f)
  unfolding each
  each_reordered zero g o f = refl
  each_reordered (suc n) g o f =
      let moved : ℕ → List A = λ x. f (instead (g n) n x) in
      simp length-append
      (omega (
        arith,
        each_lengths n (λ k. f (g k)) (λ k. moved (instead n (g n) (g k))) (λ k h. ap (λ x. length (f x)) (sym (again n (g n) (g k) (not_last n g o k h)))),
        each_reordered n (λ k. instead n (g n) (g k)) (less n g o) moved,
        simp length-append at (each_changed (suc n) (g n) moved f (last_below n g o) (λ k d. ap f (other (g n) n k d))),
        ap (λ x. length (f x)) (stays n (g n)),
        ap (λ x. length (f x)) (at (g n) n (g n) refl),
      ))
