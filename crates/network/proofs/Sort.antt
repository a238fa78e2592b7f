-- Sorting by a number keeps the length and the members; where no two entries have one number it rises, and is the only rising list of these members. Assumes nothing.
use lib.Dec.{leb}
use lib.ListN.{length, get_or, length-map}
use borrow.Author.Tests.{leb-true, leb-false}
use mathlib.Core.Bool.{Bool, true, false}
use mathlib.Core.List.Memᴰ
use mathlib.Core.List.{List, [], ◌∷◌, map, Memᴰ}
use mathlib.Core.Logic.Iff
use mathlib.Core.Logic.{◌↔◌, ◌⊎◌, inl, inr}
use mathlib.Core.Path.{◌≡◌, refl, sym, ap, ◌∙◌}
use native.Mathlib.Omega.{arith}
use Prim.Native.Nat.{ℕ, suc, ◌<◌}
use Rattle.std.specs.Prelude.{cond}
use Rattle.network.specs.Renumbering.{insert, sort}
use Rattle.sheet.proofs.Listed.{get_or-mem}
use Rattle.network.proofs.Rising.{Pairs, Rising, Up, pairs_at, rising_pairs, rising_unique, mem_place}

module _ {ℓ} {A : Type ℓ} (by : A → ℕ) where
  insert-length : (a : A) (l : List A) → length (insert by a l) ≡ suc (length l)
  unfolding insert
  insert-length a [] = refl
  insert-length a (b ∷ bs) = at (leb (by a) (by b)) (insert-length a bs)
    where
      at : (t : Bool) → length (insert by a bs) ≡ suc (length bs) → length (cond t (a ∷ b ∷ bs) (b ∷ insert by a bs)) ≡ suc (suc (length bs))
      at true h = refl
      at false h = ap suc h

  pub sort-length : (l : List A) → length (sort by l) ≡ length l
  unfolding sort
  sort-length [] = refl
  sort-length (a ∷ l) = insert-length a (sort by l) ∙ ap suc (sort-length l)

  -- the members behind the first
  behind : {a b : A} {l m : List A} → (Memᴰ a l → Memᴰ a m) → Memᴰ a (b ∷ l) → Memᴰ a (b ∷ m)
  behind f (Memᴰ.head e) = Memᴰ.head e
  behind f (Memᴰ.tail m) = Memᴰ.tail (f m)

  swap : {a b c : A} {l : List A} → Memᴰ a (b ∷ c ∷ l) → Memᴰ a (c ∷ b ∷ l)
  swap (Memᴰ.head e) = Memᴰ.tail (Memᴰ.head e)
  swap (Memᴰ.tail m) = behind Memᴰ.tail m

  insert-mem : {x : A} (a : A) (l : List A) → Memᴰ x (insert by a l) ↔ Memᴰ x (a ∷ l)
  unfolding insert
  insert-mem a [] = Iff.rfl
  insert-mem {x} a (b ∷ bs) = at (leb (by a) (by b)) (insert-mem a bs)
    where
      at : (t : Bool) → Memᴰ x (insert by a bs) ↔ Memᴰ x (a ∷ bs) → Memᴰ x (cond t (a ∷ b ∷ bs) (b ∷ insert by a bs)) ↔ Memᴰ x (a ∷ b ∷ bs)
      at true h = Iff.rfl
      at false h = (λ m. swap (behind h.0 m), λ m. behind h.1 (swap m))

  pub sort-mem : {x : A} (l : List A) → Memᴰ x (sort by l) ↔ Memᴰ x l
  unfolding sort
  sort-mem [] = Iff.rfl
  sort-mem (a ∷ l) = (λ m. behind (sort-mem l).0 ((insert-mem a (sort by l)).0 m), λ m. (insert-mem a (sort by l)).1 (behind (sort-mem l).1 m))

  abbrev Apart : A → A → Type 0
  Apart a b = by a ≡ by b → ⊥

  insert_pairs : (a : A) (l : List A) → Pairs (Up by) l → ((b : A) → Memᴰ b l → Apart a b) → Pairs (Up by) (insert by a l)
  unfolding insert
  insert_pairs a [] p h = (λ b m. absurd (Memᴰ.not-nil m), tt)
  insert_pairs a (b ∷ bs) p h = at (leb (by a) (by b)) refl (insert_pairs a bs p.1 (λ c m. h c (Memᴰ.tail m)))
    where
      after : by a < by b → (c : A) → (c ≡ b) ⊎ Memᴰ c bs → by a < by c
      after l c (inl e) = let k = ap by e in omega arith
      after l c (inr m) = let k = p.0 c m in omega arith

      before : by b < by a → (c : A) → (c ≡ a) ⊎ Memᴰ c bs → by b < by c
      before l c (inl e) = let k = ap by e in omega arith
      before l c (inr m) = p.0 c m

      at : (t : Bool) → leb (by a) (by b) ≡ t → Pairs (Up by) (insert by a bs) → Pairs (Up by) (cond t (a ∷ b ∷ bs) (b ∷ insert by a bs))
      at true e q = (λ c m. after (let k = leb-true (by a) (by b) e in let n = h b (Memᴰ.head refl) in omega arith) c (Memᴰ.cases_cons m), p)
      at false e q = (λ c m. before (leb-false (by a) (by b) e) c (Memᴰ.cases_cons ((insert-mem a bs).0 m)), q)

  sort_pairs : (l : List A) → Pairs Apart l → Pairs (Up by) (sort by l)
  unfolding sort
  sort_pairs [] p = tt
  sort_pairs (a ∷ l) p = insert_pairs a (sort by l) (sort_pairs l p.1) (λ b m. p.0 b ((sort-mem l).0 m))

  -- the rising list that has the members
  pub sort-is : (l m : List A) → Rising by (sort by l) → Rising by m → ((a : A) → Memᴰ a l ↔ Memᴰ a m) → sort by l ≡ m
  sort-is l m p q e = rising_unique by (sort by l) m p q (λ a. (λ i. (e a).0 ((sort-mem l).0 i), λ i. (sort-mem l).1 ((e a).1 i)))

-- a list taken through a function and sorted anew
module _ {ℓ κ} {A : Type ℓ} {B : Type κ} (by : B → ℕ) (f : A → B) where
  pub sort-map-length : (l : List A) → length (sort by (map f l)) ≡ length l
  sort-map-length l = sort-length by (map f l) ∙ length-map l f

  pub sort-map-mem : {b : B} (l : List A) → Memᴰ b (sort by (map f l)) ↔ ((a : A) × Memᴰ a l × (f a ≡ b))
  sort-map-mem l = (λ m. Memᴰ.of_map f l ((sort-mem by (map f l)).0 m), λ r. (sort-mem by (map f l)).1 (Memᴰ.cast (sym r.2) (Memᴰ.map f r.1)))

  -- the same by places; the entries past the end are never met
  module _ (l : List A) (a : A) (b : B) where
    pub sorted_back : (k : ℕ) → k < length (sort by (map f l)) → (i : ℕ) × (i < length l) × (f (get_or l i a) ≡ get_or (sort by (map f l)) k b)
    sorted_back k h =
        let r = (sort-map-mem l).0 (get_or-mem (sort by (map f l)) k b h) in
        let p = mem_place r.1 in
        (p.0, p.1, ap f (p.2 a) ∙ r.2)

    pub sorted_there : (i : ℕ) → i < length l → (k : ℕ) × (k < length (sort by (map f l))) × (f (get_or l i a) ≡ get_or (sort by (map f l)) k b)
    sorted_there i h = let p = mem_place ((sort-map-mem l).1 (get_or l i a, get_or-mem l i a h, refl)) in (p.0, p.1, sym (p.2 b))

  -- where the list rose and two of its entries get one number only if they had one
  module _ (old : A → ℕ) where
    map_apart : (l : List A) → Pairs (Up old) l → ((a b : A) → Memᴰ a l → Memᴰ b l → by (f a) ≡ by (f b) → old a ≡ old b) → Pairs (Apart by) (map f l)
    map_apart [] p h = tt
    map_apart (a ∷ l) p h =
        (λ b m e. let r = Memᴰ.of_map f l m in let k = p.0 r.0 r.1 in let s = h a r.0 (Memᴰ.head refl) (Memᴰ.tail r.1) (e ∙ ap by (sym r.2)) in omega arith, map_apart l p.1 (λ b c i k. h b c (Memᴰ.tail i) (Memᴰ.tail k)))

    pub sort_map_rises : (l : List A) → Rising old l → ((a b : A) → Memᴰ a l → Memᴰ b l → by (f a) ≡ by (f b) → old a ≡ old b) → Rising by (sort by (map f l))
    sort_map_rises l r h = pairs_at (Up by) (sort by (map f l)) (sort_pairs by (map f l) (map_apart l (rising_pairs old l r) h))
