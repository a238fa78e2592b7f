-- A list given by what stands at each number below its length. Assumes nothing.
use mathlib.Core.List.Memᴰ
use mathlib.Core.List.{List, [], ◌∷◌, ◌++◌, map, Memᴰ}
use mathlib.Core.Logic.{◌⊎◌, inl, inr}
use mathlib.Core.Path.{◌≡◌, refl, sym, ◌∙◌, subst}
use Prim.Native.Nat.{ℕ, zero, suc, ◌<◌}
use native.Mathlib.Nat.{le_of_suc-le-suc, eq-or-lt_of_le, not-suc-le-zero}
use native.Mathlib.Numerals.{add-one}
use lib.ListN.{length, get_or, length-append, get_or-append}
use lib.Seq.{get_or_at, ext_get_or}
use Rattle.sheet.specs.Enumerate.{each, listed}
use Rattle.sheet.proofs.Each.{each-mem}

module _ {ℓ} {A : Type ℓ} where
  pub length-listed : (n : ℕ) (f : ℕ → A) → length (listed n f) ≡ n
  unfolding each
  length-listed zero f = refl
  length-listed (suc n) f = length-append (listed n f) (f n ∷ []) ∙ rw (length-listed n f) (add-one n)

  pub get_or-listed : (n : ℕ) (f : ℕ → A) (i : ℕ) (d : A) → i < n → get_or (listed n f) i d ≡ f i
  unfolding each
  get_or-listed zero f i d h = absurd (not-suc-le-zero h)
  get_or-listed (suc n) f i d h = at (get_or-listed n f i d) (eq-or-lt_of_le (le_of_suc-le-suc h))
    where
      at : (i < n → get_or (listed n f) i d ≡ f i) → (i ≡ n) ⊎ (i < n) → get_or (listed n f ++ f n ∷ []) i d ≡ f i
      at before (inl e) = rw e (get_or_at (listed n f) (f n) [] d n (length-listed n f))
      at before (inr l) = get_or-append (listed n f) (f n ∷ []) d i (rw (length-listed n f) l) ∙ before l

  -- a list is the listed one that has its length and its entries
  pub listed-is : (l : List A) (d : A) (n : ℕ) (f : ℕ → A) → n ≡ length l → ((i : ℕ) → i < length l → f i ≡ get_or l i d) → listed n f ≡ l
  listed-is l d n f e h =
      ext_get_or d (listed n f) l (length-listed n f ∙ e) (λ i b. let b' = rw (length-listed n f) at b in get_or-listed n f i d b' ∙ h i (rw e at b'))

  pub get_or-mem : (l : List A) (i : ℕ) (d : A) → i < length l → Memᴰ (get_or l i d) l
  get_or-mem [] i d h = absurd (not-suc-le-zero h)
  get_or-mem (x ∷ xs) zero d h = Memᴰ.head refl
  get_or-mem (x ∷ xs) (suc i) d h = Memᴰ.tail (get_or-mem xs i d (le_of_suc-le-suc h))

  pub get_or-map_within {κ} : {B : Type κ} (f : A → B) (l : List A) (k : ℕ) (a : A) (b : B) → k < length l → get_or (map f l) k b ≡ f (get_or l k a)
  get_or-map_within f [] k a b h = absurd (not-suc-le-zero h)
  get_or-map_within f (x ∷ xs) zero a b h = refl
  get_or-map_within f (x ∷ xs) (suc k) a b h = get_or-map_within f xs k a b (le_of_suc-le-suc h)

  -- what holds of each entry as it is given holds of each member
  pub listed_all {κ} : (P : A → Type κ) (n : ℕ) (f : ℕ → A) → ((i : ℕ) → i < n → P (f i)) → (x : A) → Memᴰ x (listed n f) → P x
  listed_all P n f h x m =
      let e = (each-mem n (λ i. f i ∷ [])).0 m in
      subst P (sym (Memᴰ.eq_of_singleton e.2)) (h e.0 e.1)
