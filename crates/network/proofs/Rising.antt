-- Lists whose entries stand in a relation to all later ones, by their members and by their places; a rising list is told by its members. Assumes nothing.
use lib.ListN.{length, get_or}
use mathlib.Core.List.Memᴰ
use mathlib.Core.List.{List, [], ◌∷◌, ◌++◌, Memᴰ}
use mathlib.Core.Logic.{◌↔◌, ◌⊎◌, inl, inr, ⊎_elim}
use mathlib.Core.Path.{◌≡◌, refl, sym, ap, ap₂, subst}
use native.Mathlib.Nat.{le_of_suc-le-suc, not-suc-le-zero}
use native.Mathlib.Omega.{arith}
use Prim.Native.Nat.{ℕ, zero, suc, ◌<◌, zero-le, suc-le-suc}
use Rattle.sheet.specs.Enumerate.{each}
use Rattle.sheet.proofs.Each.{each-mem}
use Rattle.sheet.proofs.Listed.{get_or-mem}

module _ {ℓ} {A : Type ℓ} where
  -- every entry and every later one
  abbrev pub Pairs : (A → A → Type 0) → List A → Type ℓ
  Pairs R [] = Unit {ℓ}
  Pairs R (a ∷ xs) = ((b : A) → Memᴰ b xs → R a b) × Pairs R xs

  -- the keys rise strictly
  abbrev pub Rising : (A → ℕ) → List A → Type ℓ
  Rising by l = (j k : ℕ) → j < k → k < length l → (d : A) → by (get_or l j d) < by (get_or l k d)

  pub mem_place : {a : A} {l : List A} → Memᴰ a l → (i : ℕ) × (i < length l) × ((d : A) → get_or l i d ≡ a)
  mem_place (Memᴰ.head e) = (zero, suc-le-suc zero-le, λ d. sym e)
  mem_place (Memᴰ.tail m) = let p = mem_place m in (suc p.0, suc-le-suc p.1, p.2)

  -- what holds of each entry by its place holds of each member
  pub members_all {κ} : (P : A → Type κ) (l : List A) (d : A) → ((i : ℕ) → i < length l → P (get_or l i d)) → (a : A) → Memᴰ a l → P a
  members_all P l d h a m = let p = mem_place m in subst P (p.2 d) (h p.0 p.1)

  module _ (R : A → A → Type 0) where
    -- from the places, read with any entry past the end
    pub pairs_of : (l : List A) (d : A) → ((j k : ℕ) → j < k → k < length l → R (get_or l j d) (get_or l k d)) → Pairs R l
    pairs_of [] d h = tt
    pairs_of (a ∷ xs) d h =
        (λ b m. let p = mem_place m in subst (R a) (p.2 d) (h 0 (suc p.0) (suc-le-suc zero-le) (suc-le-suc p.1)), pairs_of xs d (λ j k l b. h (suc j) (suc k) (suc-le-suc l) (suc-le-suc b)))

    pub pairs_at : (l : List A) → Pairs R l → (j k : ℕ) → j < k → k < length l → (d : A) → R (get_or l j d) (get_or l k d)
    pairs_at [] p j k h b d = absurd (not-suc-le-zero b)
    pairs_at (a ∷ xs) p j zero h b d = absurd (not-suc-le-zero h)
    pairs_at (a ∷ xs) p zero (suc k) h b d = p.0 (get_or xs k d) (get_or-mem xs k d (le_of_suc-le-suc b))
    pairs_at (a ∷ xs) p (suc j) (suc k) h b d = pairs_at xs p.1 j k (le_of_suc-le-suc h) (le_of_suc-le-suc b) d

    pub pairs_append : (l m : List A) → Pairs R l → Pairs R m → ((a b : A) → Memᴰ a l → Memᴰ b m → R a b) → Pairs R (l ++ m)
    pairs_append [] m p q h = q
    pairs_append (a ∷ xs) m p q h =
        (λ b i. ⊎_elim (p.0 b) (h a b (Memᴰ.head refl)) (Memᴰ.append_cases xs i), pairs_append xs m p.1 q (λ b c i. h b c (Memᴰ.tail i)))

    pub pairs_each : (n : ℕ) (f : ℕ → List A) → ((i : ℕ) → Pairs R (f i)) → ((i j : ℕ) → i < j → (a b : A) → Memᴰ a (f i) → Memᴰ b (f j) → R a b) → Pairs R (each n f)
    unfolding each
    pairs_each zero f p h = tt
    pairs_each (suc n) f p h = pairs_append (each n f) (f n) (pairs_each n f p h) (p n) (λ a b k m. let r = (each-mem n f).0 k in h r.0 n r.1 a b r.2 m)

  module _ (by : A → ℕ) where
    abbrev pub Up : A → A → Type 0
    Up a b = by a < by b

    pub rising_pairs : (l : List A) → Rising by l → Pairs Up l
    rising_pairs [] h = tt
    rising_pairs (x ∷ xs) h = pairs_of Up (x ∷ xs) x (λ j k l b. h j k l b x)

    -- read with one entry past the end, or with any
    pub rising_at : (l : List A) (d : A) → ((j k : ℕ) → j < k → k < length l → Up (get_or l j d) (get_or l k d)) → Rising by l
    rising_at l d h = pairs_at Up l (pairs_of Up l d h)

    -- two rising lists with the same members: each one's first entry is the least of them
    pairs_unique : (l m : List A) → Pairs Up l → Pairs Up m → ((a : A) → Memᴰ a l ↔ Memᴰ a m) → l ≡ m
    pairs_unique [] [] p q e = refl
    pairs_unique [] (y ∷ ys) p q e = absurd (Memᴰ.not-nil ((e y).1 (Memᴰ.head refl)))
    pairs_unique (x ∷ xs) [] p q e = absurd (Memᴰ.not-nil ((e x).0 (Memᴰ.head refl)))
    pairs_unique (x ∷ xs) (y ∷ ys) p q e =
        ap₂ ◌∷◌ heads (pairs_unique xs ys p.1 q.1 (λ a. (λ m. rest (p.0 a m) heads (Memᴰ.cases_cons ((e a).0 (Memᴰ.tail m))), λ m. rest (q.0 a m) (sym heads) (Memᴰ.cases_cons ((e a).1 (Memᴰ.tail m))))))
      where
        least : (x ≡ y) ⊎ Memᴰ x ys → (y ≡ x) ⊎ Memᴰ y xs → x ≡ y
        least (inl h) k = h
        least (inr m) (inl k) = sym k
        least (inr m) (inr n) = absurd (let h = q.0 x m in let k = p.0 y n in omega arith)

        heads : x ≡ y
        heads = least (Memᴰ.cases_cons ((e x).0 (Memᴰ.head refl))) (Memᴰ.cases_cons ((e y).1 (Memᴰ.head refl)))

        rest : {a v w : A} {l : List A} → Up v a → v ≡ w → (a ≡ w) ⊎ Memᴰ a l → Memᴰ a l
        rest h k (inl i) = absurd (let g = ap by k in let f = ap by i in omega arith)
        rest h k (inr m) = m

    pub rising_unique : (l m : List A) → Rising by l → Rising by m → ((a : A) → Memᴰ a l ↔ Memᴰ a m) → l ≡ m
    rising_unique l m p q e = pairs_unique l m (rising_pairs l p) (rising_pairs m q) e
