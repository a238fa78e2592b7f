-- What holds somewhere in a list or below a bound, and what is put in a row for each number below a bound.
use Rattle.std.specs.Prelude.{Bool, false, ◌||◌, List, [], ◌∷◌, ◌++◌, ℕ, zero, suc, cond}

-- the test passes at some entry
abbrev pub any_of : (ℕ → Bool) → List ℕ → Bool
any_of f [] = false
any_of f (x ∷ xs) = f x || any_of f xs

-- the test passes at some number below the bound
unfoldable pub any_below : ℕ → (ℕ → Bool) → Bool
any_below zero f = false
any_below (suc n) f = any_below n f || f n

-- what f gives at each number below the bound, in a row, rising
unfoldable pub each {ℓ} : {A : Type ℓ} → ℕ → (ℕ → List A) → List A
each zero f = []
each (suc n) f = each n f ++ f n

-- what f gives at each number below the bound that passes the test
abbrev pub chosen {ℓ} : {A : Type ℓ} → ℕ → (ℕ → Bool) → (ℕ → A) → List A
chosen n test f = each n (λ i. cond (test i) (f i ∷ []) [])

-- what f gives at each number below the bound
abbrev pub listed {ℓ} : {A : Type ℓ} → ℕ → (ℕ → A) → List A
listed n f = each n (λ i. f i ∷ [])
