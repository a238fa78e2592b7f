-- What the definitions' tests tell: a test passes exactly when its proposition holds, and so is decided. Assumes nothing.
use borrow.Author.Tests.{ltb-true, leb-true, eqb-true, lt-ltb, le-leb, eq-eqb}
use lib.Dec.{ltb, leb, eqb}
use mathlib.Core.Bool.{Bool, true, false, ◌&&◌, ◌||◌, not, true≢false, false≢true}
use mathlib.Core.List.Memᴰ
use mathlib.Core.List.{List, [], ◌∷◌, Memᴰ}
use mathlib.Core.Logic.{◌↔◌, ◌⊎◌, inl, inr}
use mathlib.Core.Path.{◌≡◌, refl, sym, subst}
use native.Mathlib.Nat.{not-suc-le-zero}
use native.Mathlib.Omega.{arith}
use native.Mathlib.Decide.{ℕ_discrete}
use Prim.Native.Nat.{ℕ, zero, suc, ◌≤◌, ◌<◌}
use Rattle.sheet.specs.Enumerate.{any_of, any_below}
use Rattle.sheet.specs.Refusal.{outside}

-- the test passes exactly when the proposition holds
abbrev pub Tells : Bool → Type 0 → Type 0
Tells b P = (b ≡ true) ↔ P

-- the other value of the test: the proposition fails
pub fails : (b : Bool) {P : Type 0} → Tells b P → (b ≡ false) ↔ (P → ⊥)
fails true t = (λ e. absurd (true≢false e), λ f. absurd (f (t.0 refl)))
fails false t = (λ e h. false≢true (t.1 h), λ f. refl)

pub decided : (b : Bool) {P : Type 0} → Tells b P → Dec P
decided true t = yes (t.0 refl)
decided false t = no (λ h. false≢true (t.1 h))

-- the same test of an equivalent proposition
pub tells_as : {b : Bool} {P Q : Type 0} → Tells b P → P ↔ Q → Tells b Q
tells_as t e = (λ h. e.0 (t.0 h), λ q. t.1 (e.1 q))

-- two tests of one proposition are the same
pub tells_alike : (b c : Bool) {P : Type 0} → Tells b P → Tells c P → b ≡ c
tells_alike true c t u = sym (u.1 (t.0 refl))
tells_alike false true t u = absurd (false≢true (t.1 (u.0 refl)))
tells_alike false false t u = refl

pub tells_lt : (a b : ℕ) → Tells (ltb a b) (a < b)
tells_lt a b = (ltb-true a b, lt-ltb a b)

pub tells_le : (a b : ℕ) → Tells (leb a b) (a ≤ b)
tells_le a b = (leb-true a b, le-leb a b)

pub tells_eq : (a b : ℕ) → Tells (eqb a b) (a ≡ b)
tells_eq a b = (eqb-true a b, eq-eqb a b)

pub tells_not : (b : Bool) {P : Type 0} → Tells b P → Tells (not b) (P → ⊥)
tells_not true t = (λ e. absurd (false≢true e), λ f. absurd (f (t.0 refl)))
tells_not false t = (λ _. (fails false t).0 refl, λ _. refl)

pub tells_and : (a b : Bool) {P Q : Type 0} → Tells a P → Tells b Q → Tells (a && b) (P × Q)
tells_and true b t u = (λ e. (t.0 refl, u.0 e), λ h. u.1 h.1)
tells_and false b t u = (λ e. absurd (false≢true e), λ h. t.1 h.0)

pub tells_or : (a b : Bool) {P Q : Type 0} → Tells a P → Tells b Q → Tells (a || b) (P ⊎ Q)
tells_or true b t u = (λ e. inl (t.0 refl), λ h. refl)
tells_or false b {P} {Q} t u = (λ e. inr (u.0 e), other)
  where
    other : P ⊎ Q → b ≡ true
    other (inl p) = absurd (false≢true (t.1 p))
    other (inr q) = u.1 q

-- some number below the bound
pub tells_below : (n : ℕ) (f : ℕ → Bool) {P : ℕ → Type 0} → ((i : ℕ) → Tells (f i) (P i)) → Tells (any_below n f) ((i : ℕ) × (i < n) × P i)
unfolding any_below
tells_below zero f t = (λ e. absurd (false≢true e), λ h. absurd (not-suc-le-zero h.1))
tells_below (suc n) f {P} t = tells_as (tells_or (any_below n f) (f n) (tells_below n f t) (t n)) (wider, narrower)
  where
    wider : ((i : ℕ) × (i < n) × P i) ⊎ P n → (i : ℕ) × (i < suc n) × P i
    wider (inl h) = (h.0, omega (arith, h.1), h.2)
    wider (inr p) = (n, omega arith, p)

    narrower : ((i : ℕ) × (i < suc n) × P i) → ((i : ℕ) × (i < n) × P i) ⊎ P n
    narrower h = last (ℕ_discrete h.0 n)
      where
        last : Dec (h.0 ≡ n) → ((i : ℕ) × (i < n) × P i) ⊎ P n
        last (yes e) = inr (subst P e h.2)
        last (no d) = inl (h.0, omega (arith, h.1), h.2)

-- some entry of a list
pub tells_of : (f : ℕ → Bool) {P : ℕ → Type 0} → ((x : ℕ) → Tells (f x) (P x)) → (xs : List ℕ) → Tells (any_of f xs) ((x : ℕ) × Memᴰ x xs × P x)
tells_of f t [] = (λ e. absurd (false≢true e), λ h. absurd (Memᴰ.not-nil h.1))
tells_of f {P} t (x ∷ xs) = tells_as (tells_or (f x) (any_of f xs) (t x) (tells_of f t xs)) (there, here)
  where
    there : P x ⊎ ((y : ℕ) × Memᴰ y xs × P y) → (y : ℕ) × Memᴰ y (x ∷ xs) × P y
    there (inl p) = (x, Memᴰ.head refl, p)
    there (inr h) = (h.0, Memᴰ.tail h.1, h.2)

    here : ((y : ℕ) × Memᴰ y (x ∷ xs) × P y) → P x ⊎ ((y : ℕ) × Memᴰ y xs × P y)
    here h = place (Memᴰ.cases_cons h.1)
      where
        place : (h.0 ≡ x) ⊎ Memᴰ h.0 xs → P x ⊎ ((y : ℕ) × Memᴰ y xs × P y)
        place (inl e) = inl (subst P e h.2)
        place (inr m) = inr (h.0, m, h.2)

-- a number that a list has
pub tells_member : (u : ℕ) (xs : List ℕ) → Tells (any_of (eqb u) xs) (Memᴰ u xs)
tells_member u xs = tells_as (tells_of (eqb u) (tells_eq u) xs) (λ h. Memᴰ.cast h.2 h.1, λ m. (u, m, refl))

-- a count outside its range
pub tells_outside : (least greatest n : ℕ) → Tells (outside least greatest n) (n < least ⊎ greatest < n)
tells_outside least greatest n = tells_or (ltb n least) (ltb greatest n) (tells_lt n least) (tells_lt greatest n)

-- an order that fails
pub at_most : {a b : ℕ} → (a < b → ⊥) → b ≤ a
at_most h = omega arith
