-- No phrase begins another: a text shows which phrase it begins with. One test that antt computes over the whole table. Assumes nothing.
use mathlib.Core.Bool.{Bool, true, false}
use mathlib.Core.List.{List, [], ◌∷◌, ◌++◌, head-eq_of_cons-eq, tail-eq_of_cons-eq}
use mathlib.Core.Path.{◌≡◌, refl, sym, ap}
use Prim.Native.Nat.{ℕ, suc, ◌<◌, ◌≤◌}
use native.Mathlib.Omega.{arith}
use borrow.Author.Tests.{eqb-false, ltb-true, ltb-false}
use lib.Dec.{T, eqb, ltb}
use lib.ListN.{length}
use Rattle.std.specs.Prelude.{if◌then◌else◌}
use Rattle.level.proofs.Computed.{all_below, below}
use Rattle.lent.specs.Letters.{letters}
use Rattle.reason.specs.Phrases.{phrases, unlisted, is_listed, phrase_of}

-- two texts part: at some place both have a letter, and not the same
abbrev part : List ℕ → List ℕ → Bool
part [] y = false
part (a ∷ x) [] = false
part (a ∷ x) (b ∷ y) = if eqb a b then part x y else true

never_meet : (x y r s : List ℕ) → T (part x y) → x ++ r ≡ y ++ s → ⊥
never_meet [] y r s t e = absurd t
never_meet (a ∷ x) [] r s t e = absurd t
never_meet (a ∷ x) (b ∷ y) r s t e = here (eqb a b) refl t (never_meet x y r s)
  where
    here : (q : Bool) → eqb a b ≡ q → T (if q then part x y else true) → (T (part x y) → x ++ r ≡ y ++ s → ⊥) → ⊥
    here true q t rest = rest t (tail-eq_of_cons-eq e)
    here false q t rest = eqb-false a b q (head-eq_of_cons-eq e)

-- the phrase that a number's sentence begins with, after the word that it is refused
abbrev pub opening : ℕ → List ℕ
opening number = letters (if is_listed number then (phrase_of number).wrong else unlisted)

all_part : T (all_below (suc (length phrases)) (λ i. all_below i (λ j. part (opening i) (opening j))))
unfolding letters
all_part = tt

part_below : (i j : ℕ) → j < i → i ≤ length phrases → T (part (opening i) (opening j))
part_below i j less h = below i (λ j. part (opening i) (opening j)) (below (suc (length phrases)) (λ i. all_below i (λ j. part (opening i) (opening j))) all_part i (omega arith)) j less

-- so whatever follows them, two of them are told apart
pub openings_apart : (i j : ℕ) → i ≤ length phrases → j ≤ length phrases → (i ≡ j → ⊥) → (r s : List ℕ) → opening i ++ r ≡ opening j ++ s → ⊥
openings_apart i j hi hj differ r s e = here (ltb j i) refl
  where
    here : (b : Bool) → ltb j i ≡ b → ⊥
    here true b = never_meet (opening i) (opening j) r s (part_below i j (ltb-true j i b) hi) e
    here false b = never_meet (opening j) (opening i) s r (part_below j i (omega (arith, ltb-false j i b, differ)) hj) (sym e)

-- and they are pairwise distinct
pub openings_distinct : (i j : ℕ) → i ≤ length phrases → j ≤ length phrases → (i ≡ j → ⊥) → opening i ≡ opening j → ⊥
openings_distinct i j hi hj differ e = openings_apart i j hi hj differ [] [] (ap (λ l. l ++ []) e)
