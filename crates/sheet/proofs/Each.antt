-- What is put in a row for each number below a bound: what stands in it, two that are the same, and how long it is. Assumes nothing.
use mathlib.Core.List.Memᴰ
use mathlib.Core.List.{List, ◌++◌, Memᴰ}
use mathlib.Core.Logic.{◌↔◌, ◌⊎◌, inl, inr}
use mathlib.Core.Path.{◌≡◌, refl, ap₂, ◌∙◌, subst}
use native.Mathlib.Decide.{ℕ_discrete}
use native.Mathlib.Nat.{not-suc-le-zero, le_step, lt-suc_self}
use native.Mathlib.Omega.{arith}
use Prim.Native.Nat.{ℕ, zero, suc, ◌*◌, ◌<◌}
use lib.ListN.{length, length-append}
use Rattle.sheet.specs.Enumerate.{each}

pub each-mem {ℓ} : {A : Type ℓ} {a : A} (n : ℕ) (f : ℕ → List A) → Memᴰ a (each n f) ↔ ((i : ℕ) × (i < n) × Memᴰ a (f i))
unfolding each
each-mem zero f = (λ m. absurd (Memᴰ.not-nil m), λ h. absurd (not-suc-le-zero h.1))
each-mem {A} {a} (suc n) f = (λ m. below (each-mem n f).0 (Memᴰ.append_cases (each n f) m), λ h. place (each-mem n f).1 h (ℕ_discrete h.0 n))
  where
    Found : ℕ → Type ℓ
    Found k = (i : ℕ) × (i < k) × Memᴰ a (f i)

    below : (Memᴰ a (each n f) → Found n) → Memᴰ a (each n f) ⊎ Memᴰ a (f n) → Found (suc n)
    below before (inl m) = let h = before m in (h.0, omega (arith, h.1), h.2)
    below before (inr m) = (n, omega arith, m)

    place : (Found n → Memᴰ a (each n f)) → (h : Found (suc n)) → Dec (h.0 ≡ n) → Memᴰ a (each n f ++ f n)
    place before h (yes e) = Memᴰ.append_right (each n f) (subst (λ i. Memᴰ a (f i)) e h.2)
    place before h (no d) = Memᴰ.append_left (f n) (before (h.0, omega (arith, h.1), h.2))

-- what is the same below the bound
pub each_same {ℓ} : {A : Type ℓ} (n : ℕ) (f g : ℕ → List A) → ((k : ℕ) → k < n → f k ≡ g k) → each n f ≡ each n g
unfolding each
each_same zero f g h = refl
each_same (suc n) f g h = ap₂ ◌++◌ (each_same n f g (λ k l. h k (le_step l))) (h n (lt-suc_self n))

-- what has one length
pub each-length {ℓ} : {A : Type ℓ} (size n : ℕ) (f : ℕ → List A) → ((k : ℕ) → k < n → length (f k) ≡ size) → length (each n f) ≡ size * n
unfolding each
each-length size zero f h = omega arith
each-length size (suc n) f h = length-append (each n f) (f n) ∙ omega (arith, each-length size n f (λ k l. h k (le_step l)), h n (lt-suc_self n))
