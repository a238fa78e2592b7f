-- Two lists that have nothing twice, the entries of each going to entries of the other and back, are of the same length: an entry and where it goes may be taken out of both. Assumes nothing.
use lib.ListN.{length}
use mathlib.Core.List.{List, [], ◌∷◌, Memᴰ}
use mathlib.Core.Logic.{◌⊎◌, inl, inr, ⊎_elim}
use mathlib.Core.Path.{◌≡◌, refl, sym, ap, ◌∙◌}
use native.Mathlib.Omega.{arith}
use Prim.Native.Nat.{suc, ◌≤◌}
use Rattle.network.proofs.Rising.{Pairs}

-- one entry is not the other
abbrev pub Apart {ℓ} : {A : Type ℓ} → A → A → Type ℓ
Apart a b = a ≡ b → ⊥

module _ {B : Type 0} {b : B} where
  -- the list without an entry
  without : {l : List B} → Memᴰ b l → List B
  without (Memᴰ.head {xs = l} e) = l
  without (Memᴰ.tail {x = y} m) = y ∷ without m

  without_length : {l : List B} (m : Memᴰ b l) → suc (length (without m)) ≡ length l
  unfolding without
  without_length (Memᴰ.head e) = refl
  without_length (Memᴰ.tail m) = ap suc (without_length m)

  others : {l : List B} (m : Memᴰ b l) {a : B} → Memᴰ a l → (a ≡ b) ⊎ Memᴰ a (without m)
  unfolding without
  others (Memᴰ.head e) (Memᴰ.head f) = inl (f ∙ sym e)
  others (Memᴰ.head e) (Memᴰ.tail n) = inr n
  others (Memᴰ.tail m) (Memᴰ.head f) = inr (Memᴰ.head f)
  others (Memᴰ.tail m) (Memᴰ.tail n) = ⊎_elim inl (λ i. inr (Memᴰ.tail i)) (others m n)

-- entries of the one go to entries of the other, no two to the same
no_more : {A B : Type 0} (f : A → B) (l : List A) (r : List B) → Pairs Apart l → ((a c : A) → Memᴰ a l → Memᴰ c l → f a ≡ f c → a ≡ c)
    → ((a : A) → Memᴰ a l → Memᴰ (f a) r) → length l ≤ length r
no_more f [] r p one into = omega arith
no_more {A} f (x ∷ l) r p one into = omega (arith, without_length m, no_more f l (without m) p.1 (λ a c i j. one a c (Memᴰ.tail i) (Memᴰ.tail j)) rest)
  where
    m : Memᴰ (f x) r
    m = into x (Memᴰ.head refl)

    rest : (a : A) → Memᴰ a l → Memᴰ (f a) (without m)
    rest a i = ⊎_elim (λ e. absurd (p.0 a i (one x a (Memᴰ.head refl) (Memᴰ.tail i) (sym e)))) (λ n. n) (others m (into a (Memᴰ.tail i)))

pub same_length : {A B : Type 0} (f : A → B) (g : B → A) (l : List A) (r : List B) → Pairs Apart l → Pairs Apart r → ((a : A) → Memᴰ a l → Memᴰ (f a) r × (g (f a) ≡ a))
    → ((b : B) → Memᴰ b r → Memᴰ (g b) l × (f (g b) ≡ b)) → length l ≡ length r
same_length f g l r p q right left =
    omega (
      arith,
      no_more f l r p (λ a c i j e. sym (right a i).1 ∙ ap g e ∙ (right c j).1) (λ a i. (right a i).0),
      no_more g r l q (λ b d i j e. sym (left b i).1 ∙ ap f e ∙ (left d j).1) (λ b i. (left b i).0),
    )
