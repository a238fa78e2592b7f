-- The join of what is given at the numbers below a bound: it is the same in any order of the numbers, so of a list in any order of its entries. What a test chooses may be joined with Z
-- for the others, which is neutral; so it is the same in any order too. Assumes nothing.
use lib.Dec.{eqb}
use lib.ListN.{length, get_or, length-map}
use borrow.Author.Tests.{eq-eqb, ne_eqb}
use mathlib.Core.Bool.{Bool, true, false, ◌||◌}
use mathlib.Core.List.{List, [], ◌∷◌, map}
use mathlib.Core.Path.{◌≡◌, refl, sym, ap, ap₂, ◌∙◌}
use native.Mathlib.Decide.{ℕ_discrete}
use native.Mathlib.Nat.{not-suc-le-zero}
use native.Mathlib.Omega.{arith}
use Prim.Native.Nat.{ℕ, zero, suc, ◌<◌}
use Rattle.std.specs.Prelude.{if◌then◌else◌}
use Rattle.level.specs.Join.{join, joined}
use Rattle.level.specs.Level.{none}
use Rattle.level.proofs.Join.{neutral_right, equal_stay, commutative, associative, joined-append}
use Rattle.sheet.specs.Enumerate.{any_below, each, chosen, listed}
use Rattle.sheet.proofs.Each.{each_same}
use Rattle.sheet.proofs.Listed.{listed-is, get_or-map_within}
use Rattle.format.proofs.OneToOne.{OneToOne, instead, at, other, again, not_last, last_below, less}
use Rattle.network.specs.Order.{Listed}
use Rattle.network.proofs.Listed.{one_to_one}

-- what is given below the bound, joined
abbrev below : ℕ → (ℕ → ℕ) → ℕ
below n f = joined (listed n f)

below_more : (n : ℕ) (f : ℕ → ℕ) → below (suc n) f ≡ join (below n f) (f n)
unfolding each
below_more n f = joined-append (listed n f) (f n ∷ []) ∙ ap (join (below n f)) (neutral_right (f n))

below_same : (n : ℕ) (f g : ℕ → ℕ) → ((k : ℕ) → k < n → f k ≡ g k) → below n f ≡ below n g
below_same n f g same = ap joined (each_same n _ _ (λ k h. ap (λ x. x ∷ []) (same k h)))

-- one number's taken out: Z in its place
abbrev without : ℕ → (ℕ → ℕ) → ℕ → ℕ
without a f x = if eqb x a then none else f x

taken_out : (n a : ℕ) (f : ℕ → ℕ) → a < n → below n f ≡ join (f a) (below n (without a f))
taken_out zero a f h = absurd (not-suc-le-zero h)
taken_out (suc n) a f h = below_more n f ∙ by (ℕ_discrete n a) (taken_out n a f) ∙ sym (ap (join (f a)) (below_more n (without a f)))
  where
    by : Dec (n ≡ a) → (a < n → below n f ≡ join (f a) (below n (without a f))) → join (below n f) (f n) ≡ join (f a) (join (below n (without a f)) (without a f n))
    by (yes e) before =
        ap₂ join (below_same n f (without a f) (λ k l. rw (ne_eqb k a (λ i. omega (arith, i, e))) refl)) (ap f e)
        ∙ commutative (below n (without a f)) (f a)
        ∙ ap (join (f a)) (sym (ap (join (below n (without a f))) (rw (eq-eqb n a e) refl) ∙ neutral_right (below n (without a f))))
    by (no d) before =
        ap (λ x. join x (f n)) (before (omega arith))
        ∙ associative (f a) (below n (without a f)) (f n)
        ∙ ap (λ x. join (f a) (join (below n (without a f)) x)) (rw (ne_eqb n a d) refl)

-- the outer two change places
swapped : (a r b : ℕ) → join (join a r) b ≡ join (join b r) a
swapped a r b = associative a r b ∙ commutative a (join r b) ∙ ap (λ x. join x a) (commutative r b)

pub below_reordered : (n : ℕ) (g : ℕ → ℕ) → OneToOne n g → (f : ℕ → ℕ) → below n (λ k. f (g k)) ≡ below n f
unfolding each
below_reordered zero g o f = refl
below_reordered (suc n) g o f =
    below_more n (λ k. f (g k))
    ∙ ap (λ x. join x (f a)) (below_same n (λ k. f (g k)) (λ k. moved (instead n a (g k))) (λ k h. ap f (sym (again n a (g k) (not_last n g o k h)))))
    ∙ ap (λ x. join x (f a)) (below_reordered n (λ k. instead n a (g k)) (less n g o) moved)
    ∙ by (ℕ_discrete a n)
    ∙ sym (below_more n f)
  where
    a : ℕ
    a = g n

    -- n's in the place of a's
    moved : ℕ → ℕ
    moved x = f (instead a n x)

    elsewhere : (x : ℕ) → (x ≡ a → ⊥) → moved x ≡ f x
    elsewhere x d = ap f (other a n x d)

    rest : (x : ℕ) → without a moved x ≡ without a f x
    rest x = go (ℕ_discrete x a)
      where
        go : Dec (x ≡ a) → without a moved x ≡ without a f x
        go (yes e) = rw (eq-eqb x a e) refl
        go (no d) = rw (ne_eqb x a d) (elsewhere x d)

    by : Dec (a ≡ n) → join (below n moved) (f a) ≡ join (below n f) (f n)
    by (yes e) = ap₂ join (below_same n moved f (λ k h. elsewhere k (λ i. omega (arith, i, e)))) (ap f e)
    by (no d) =
        let h : a < n = omega (arith, last_below n g o) in
        ap (λ x. join x (f a)) (taken_out n a moved h ∙ ap₂ join (ap f (at a n a refl)) (below_same n (without a moved) (without a f) (λ k l. rest k)))
        ∙ swapped (f n) (below n (without a f)) (f a)
        ∙ ap (λ x. join x (f n)) (sym (taken_out n a f h))

-- a list, its entries in any order
pub joined_in_any_order : (l order : List ℕ) → Listed (length l) order → joined (map (λ i. get_or l i none) order) ≡ joined l
joined_in_any_order l order each-once =
    ap joined (sym (listed-is (map (λ i. get_or l i none) order) none (length l) (λ k. get_or l (get_or order k 0) none) (sym (length-map order _ ∙ each-once.count)) (λ k h. sym (get_or-map_within (λ i. get_or l i none) order k 0 none (rw (length-map order (λ i. get_or l i none)) at h)))))
    ∙ below_reordered (length l) (λ k. get_or order k 0) (one_to_one each-once) (λ i. get_or l i none)
    ∙ ap joined (listed-is l none (length l) (λ i. get_or l i none) refl (λ i h. refl))

-- what a test chooses
chosen_below : (n : ℕ) (p : ℕ → Bool) (f : ℕ → ℕ) → joined (chosen n p f) ≡ below n (λ k. if p k then f k else none)
unfolding each
chosen_below zero p f = refl
chosen_below (suc n) p f =
    joined-append (chosen n p f) (if p n then f n ∷ [] else [])
    ∙ ap₂ join (chosen_below n p f) (one (p n))
    ∙ sym (joined-append (listed n (λ k. if p k then f k else none)) ((if p n then f n else none) ∷ []))
  where
    one : (b : Bool) → joined (if b then f n ∷ [] else []) ≡ joined ((if b then f n else none) ∷ [])
    one true = refl
    one false = refl

pub chosen_reordered : (n : ℕ) (g : ℕ → ℕ) → OneToOne n g → (p : ℕ → Bool) (f : ℕ → ℕ) → joined (chosen n (λ k. p (g k)) (λ k. f (g k))) ≡ joined (chosen n p f)
chosen_reordered n g o p f =
    chosen_below n (λ k. p (g k)) (λ k. f (g k)) ∙ below_reordered n g o (λ m. if p m then f m else none) ∙ sym (chosen_below n p f)

-- if all give one value, and there is one of them, that is it
pub chosen_equal : (n : ℕ) (p : ℕ → Bool) (x : ℕ) → joined (chosen n p (λ k. x)) ≡ (if any_below n p then x else none)
unfolding each any_below
chosen_equal zero p x = refl
chosen_equal (suc n) p x =
    joined-append (chosen n p (λ k. x)) (if p n then x ∷ [] else [])
    ∙ ap (λ y. join y (joined (if p n then x ∷ [] else []))) (chosen_equal n p x)
    ∙ one (any_below n p) (p n)
  where
    one : (a b : Bool) → join (if a then x else none) (joined (if b then x ∷ [] else [])) ≡ (if a || b then x else none)
    one true true = ap (join x) (neutral_right x) ∙ equal_stay x
    one true false = neutral_right x
    one false true = neutral_right x
    one false false = refl
