-- Numbers put into a list, one after the other: it stays as long, values stay values, and a place has the number that all put there are, where one is put or stood there before. Assumes nothing.
use lib.ListN.{length, get_or, set, length-set}
use lib.Seq.{get_or-set_same, get_or-set_other, set-get_or}
use mathlib.Core.List.Memᴰ
use mathlib.Core.List.{List, [], ◌∷◌, ◌++◌, Memᴰ}
use mathlib.Core.Logic.{◌⊎◌, inl, inr}
use mathlib.Core.Path.{◌≡◌, refl, sym, ap, ◌∙◌}
use native.Mathlib.Decide.{ℕ_discrete}
use Prim.Native.Nat.{ℕ, zero, suc, ◌<◌}

-- every entry is a value
abbrev pub Leveled : List ℕ → Type 0
Leveled l = (i : ℕ) → get_or l i 0 < 4

pub set_level : (l : List ℕ) (k x : ℕ) → x < 4 → Leveled l → Leveled (set l k x)
set_level [] k x h all i = all i
set_level (y ∷ l) zero x h all zero = h
set_level (y ∷ l) zero x h all (suc i) = all (suc i)
set_level (y ∷ l) (suc k) x h all zero = all zero
set_level (y ∷ l) (suc k) x h all (suc i) = set_level l k x h (λ i. all (suc i)) i

module _ {A : Type 0} (place value : A → ℕ) where
  abbrev pub puts : List A → List ℕ → List ℕ
  puts [] l = l
  puts (x ∷ xs) l = puts xs (set l (place x) (value x))

  pub puts_append : (xs ys : List A) (l : List ℕ) → puts (xs ++ ys) l ≡ puts ys (puts xs l)
  puts_append [] ys l = refl
  puts_append (x ∷ xs) ys l = puts_append xs ys (set l (place x) (value x))

  pub puts_length : (xs : List A) (l : List ℕ) → length (puts xs l) ≡ length l
  puts_length [] l = refl
  puts_length (x ∷ xs) l = puts_length xs (set l (place x) (value x)) ∙ length-set l (place x) (value x)

  pub puts_levels : (xs : List A) (l : List ℕ) → ((x : A) → Memᴰ x xs → value x < 4) → Leveled l → Leveled (puts xs l)
  puts_levels [] l h all = all
  puts_levels (x ∷ xs) l h all = puts_levels xs (set l (place x) (value x)) (λ y m. h y (Memᴰ.tail m)) (set_level l (place x) (value x) (h x (Memᴰ.head refl)) all)

  -- what stands there already
  pub puts_same : (xs : List A) (l : List ℕ) → ((x : A) → Memᴰ x xs → value x ≡ get_or l (place x) 0) → puts xs l ≡ l
  puts_same [] l h = refl
  puts_same (x ∷ xs) l h = rw (h x (Memᴰ.head refl), set-get_or l (place x) 0) (puts_same xs l (λ y m. h y (Memᴰ.tail m)))

  module _ (v w : ℕ) where
    pub puts_at : (xs : List A) (l : List ℕ) → v < length l → ((x : A) → Memᴰ x xs → place x ≡ v → value x ≡ w)
        → (get_or l v 0 ≡ w) ⊎ ((x : A) × Memᴰ x xs × (place x ≡ v)) → get_or (puts xs l) v 0 ≡ w
    puts_at [] l h all (inl e) = e
    puts_at [] l h all (inr (x, m, p)) = absurd (Memᴰ.not-nil m)
    puts_at (x ∷ xs) l h all some = puts_at xs next (rw length-set h) (λ y m. all y (Memᴰ.tail m)) (here (ℕ_discrete v (place x)) some)
      where
        next : List ℕ
        next = set l (place x) (value x)

        here : Dec (v ≡ place x) → (get_or l v 0 ≡ w) ⊎ ((y : A) × Memᴰ y (x ∷ xs) × (place y ≡ v)) → (get_or next v 0 ≡ w) ⊎ ((y : A) × Memᴰ y xs × (place y ≡ v))
        here (yes e) some = inl (rw (← e) (get_or-set_same l v (value x) 0 h) ∙ all x (Memᴰ.head refl) (sym e))
        here (no d) (inl e) = inl (get_or-set_other l (place x) v (value x) 0 d ∙ e)
        here (no d) (inr (y, Memᴰ.head i, p)) = absurd (d (sym p ∙ ap place i))
        here (no d) (inr (y, Memᴰ.tail m, p)) = inr (y, m, p)
