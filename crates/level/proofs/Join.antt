-- Joining is commutative and associative, with Z neutral; X stays, and so do values. So a list may be joined part by part, and its join is told by which values it has. Assumes nothing.
use mathlib.Core.Bool.{Bool, true, false}
use mathlib.Core.List.{List, [], ◌∷◌, ◌++◌, Memᴰ}
use mathlib.Core.Path.{◌≡◌, refl, sym, ap, ◌∙◌}
use native.Mathlib.Decide.{ℕ_discrete}
use native.Mathlib.Omega.{arith}
use Prim.Native.Nat.{ℕ, zero, suc, ◌+◌, ◌<◌}
use borrow.Author.Tests.{eq-eqb, ne_eqb, lt-ltb}
use lib.Dec.{eqb, ltb}
use Rattle.std.specs.Prelude.{if◌then◌else◌}
use Rattle.level.specs.Level.{unknown, none}
use Rattle.level.specs.Join.{join, joined, count_of, joined_with, joined_counts}
use Rattle.level.proofs.Gates.{Values}

-- Z is neutral
pub neutral_left : (b : ℕ) → join none b ≡ b
neutral_left b = refl

pub neutral_right : (a : ℕ) → join a none ≡ a
neutral_right a = by (ℕ_discrete a none)
  where
    by : Dec (a ≡ none) → join a none ≡ a
    by (yes e) = rw e refl
    by (no d) = rw (ne_eqb a none d) refl

-- neither is Z: equal values stay, and anything else is X
pub equal_stay : (a : ℕ) → join a a ≡ a
equal_stay a = by (ℕ_discrete a none)
  where
    by : Dec (a ≡ none) → join a a ≡ a
    by (yes e) = rw e refl
    by (no d) = rw (ne_eqb a none d, eq-eqb a a refl) refl

clash : (a b : ℕ) → (a ≡ none → ⊥) → (b ≡ none → ⊥) → (a ≡ b → ⊥) → join a b ≡ unknown
clash a b d f n = rw (ne_eqb a none d, ne_eqb b none f, ne_eqb a b n) refl

-- X joined with any value is X
pub unknown_stays : (b : ℕ) → join unknown b ≡ unknown
unknown_stays b = by (ℕ_discrete b none) (ℕ_discrete unknown b)
  where
    by : Dec (b ≡ none) → Dec (unknown ≡ b) → join unknown b ≡ unknown
    by (yes e) n = rw e refl
    by (no d) (yes e) = rw (← e) refl
    by (no d) (no n) = clash unknown b (λ e. omega (arith, e)) d n

pub commutative : (a b : ℕ) → join a b ≡ join b a
commutative a b = by (ℕ_discrete a none) (ℕ_discrete b none) (ℕ_discrete a b)
  where
    by : Dec (a ≡ none) → Dec (b ≡ none) → Dec (a ≡ b) → join a b ≡ join b a
    by (yes e) f n = rw e (sym (neutral_right b))
    by (no d) (yes f) n = rw f (neutral_right a)
    by (no d) (no f) (yes n) = rw n refl
    by (no d) (no f) (no n) = clash a b d f n ∙ sym (clash b a f d (λ e. n (sym e)))

pub unknown_right : (a : ℕ) → join a unknown ≡ unknown
unknown_right a = commutative a unknown ∙ unknown_stays a

pub associative : (a b c : ℕ) → join (join a b) c ≡ join a (join b c)
associative a b c = by (ℕ_discrete a none) (ℕ_discrete b none) (ℕ_discrete c none)
  where
    -- none is Z
    values : (a ≡ none → ⊥) → (b ≡ none → ⊥) → (c ≡ none → ⊥) → Dec (a ≡ b) → Dec (b ≡ c) → join (join a b) c ≡ join a (join b c)
    values d f g (yes n) (yes m) = rw (n, m) (ap (λ x. join x c) (equal_stay c) ∙ ap (join c) (sym (equal_stay c)))
    values d f g (yes n) (no m) = ap (λ x. join x c) (ap (λ x. join x b) n ∙ equal_stay b) ∙ clash b c f g m ∙ sym (ap (join a) (clash b c f g m) ∙ unknown_right a)
    values d f g (no n) (yes m) = ap (λ x. join x c) (clash a b d f n) ∙ unknown_stays c ∙ sym (ap (join a) (ap (join b) (sym m) ∙ equal_stay b) ∙ clash a b d f n)
    values d f g (no n) (no m) = ap (λ x. join x c) (clash a b d f n) ∙ unknown_stays c ∙ sym (ap (join a) (clash b c f g m) ∙ unknown_right a)

    by : Dec (a ≡ none) → Dec (b ≡ none) → Dec (c ≡ none) → join (join a b) c ≡ join a (join b c)
    by (yes e) f g = rw e refl
    by (no d) (yes f) g = rw f (ap (λ x. join x c) (neutral_right a))
    by (no d) (no f) (yes g) = rw g (neutral_right (join a b) ∙ ap (join a) (sym (neutral_right b)))
    by (no d) (no f) (no g) = values d f g (ℕ_discrete a b) (ℕ_discrete b c)

-- a list part by part
pub joined-append : (l m : List ℕ) → joined (l ++ m) ≡ join (joined l) (joined m)
joined-append [] m = refl
joined-append (a ∷ l) m = ap (join a) (joined-append l m) ∙ sym (associative a (joined l) (joined m))

-- so one X in a list is the join of all
pub joined-unknown : {l : List ℕ} → Memᴰ unknown l → joined l ≡ unknown
joined-unknown (Memᴰ.head {xs = l} e) = ap (λ a. join a (joined l)) (sym e) ∙ unknown_stays (joined l)
joined-unknown (Memᴰ.tail {x = a} m) = ap (join a) (joined-unknown m) ∙ unknown_right a

-- the join of two of the four values is one of them
join_value : (a b : ℕ) → a < 4 → b < 4 → join a b < 4
join_value a b h l = by (eqb a none) (eqb b none) (eqb a b)
  where
    by : (x y z : Bool) → (if x then b else if y then a else if z then a else unknown) < 4
    by true y z = l
    by false true z = h
    by false false true = h
    by false false false = omega arith

pub joined_value : (l : List ℕ) → Values l → joined l < 4
joined_value [] v = omega arith
joined_value (a ∷ l) v = join_value a (joined l) v.0 (joined_value l v.1)

-- how many entries have a value, part by part; and one that has it is counted
pub count_append : (x : ℕ) (l m : List ℕ) → count_of x (l ++ m) ≡ count_of x l + count_of x m
count_append x [] m = omega arith
count_append x (a ∷ l) m = one (eqb a x) (count_append x l m)
  where
    one : (b : Bool) → count_of x (l ++ m) ≡ count_of x l + count_of x m
        → (if b then suc (count_of x (l ++ m)) else count_of x (l ++ m)) ≡ (if b then suc (count_of x l) else count_of x l) + count_of x m
    one true rest = omega (arith, rest)
    one false rest = rest

pub count_member : (x : ℕ) {l : List ℕ} → Memᴰ x l → 0 < count_of x l
count_member x (Memᴰ.head {x = a} e) = rw (eq-eqb a x (sym e)) (omega arith)
count_member x (Memᴰ.tail {x = a} {xs = l} m) = one (eqb a x) (count_member x m)
  where
    one : (b : Bool) → 0 < count_of x l → 0 < (if b then suc (count_of x l) else count_of x l)
    one true h = omega arith
    one false h = h

-- how many there are of 0, 1 and X tells the join
low_more : (zeros ones unknowns : Bool) → join 0 (joined_with zeros ones unknowns) ≡ joined_with true ones unknowns
low_more zeros ones true = refl
low_more true true false = refl
low_more true false false = refl
low_more false true false = refl
low_more false false false = refl

high_more : (zeros ones unknowns : Bool) → join 1 (joined_with zeros ones unknowns) ≡ joined_with zeros true unknowns
high_more zeros ones true = refl
high_more true true false = refl
high_more true false false = refl
high_more false true false = refl
high_more false false false = refl

unknown_more : (zeros ones unknowns : Bool) → join 2 (joined_with zeros ones unknowns) ≡ joined_with zeros ones true
unknown_more zeros ones unknowns = unknown_stays (joined_with zeros ones unknowns)

some : (n : ℕ) → true ≡ ltb 0 (suc n)
some n = sym (lt-ltb 0 (suc n) (omega arith))

one_more : (a : ℕ) → a < 4 → (l : List ℕ) → join a (joined_counts (count_of 0 l) (count_of 1 l) (count_of 2 l)) ≡ joined_counts (count_of 0 (a ∷ l)) (count_of 1 (a ∷ l)) (count_of 2 (a ∷ l))
one_more zero h l = low_more (ltb 0 (count_of 0 l)) (ltb 0 (count_of 1 l)) (ltb 0 (count_of 2 l)) ∙ ap (λ b. joined_with b (ltb 0 (count_of 1 l)) (ltb 0 (count_of 2 l))) (some (count_of 0 l))
one_more (suc zero) h l = high_more (ltb 0 (count_of 0 l)) (ltb 0 (count_of 1 l)) (ltb 0 (count_of 2 l)) ∙ ap (λ b. joined_with (ltb 0 (count_of 0 l)) b (ltb 0 (count_of 2 l))) (some (count_of 1 l))
one_more (suc (suc zero)) h l = unknown_more (ltb 0 (count_of 0 l)) (ltb 0 (count_of 1 l)) (ltb 0 (count_of 2 l)) ∙ ap (joined_with (ltb 0 (count_of 0 l)) (ltb 0 (count_of 1 l))) (some (count_of 2 l))
one_more (suc (suc (suc zero))) h l = refl
one_more (suc (suc (suc (suc a)))) h l = absurd (omega arith)

pub joined_by_counts : (l : List ℕ) → Values l → joined l ≡ joined_counts (count_of 0 l) (count_of 1 l) (count_of 2 l)
joined_by_counts [] v = refl
joined_by_counts (a ∷ l) v = ap (join a) (joined_by_counts l v.1) ∙ one_more a v.0 l
