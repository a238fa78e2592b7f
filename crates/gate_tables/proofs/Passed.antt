-- What passing one input after the other comes to. Assumes nothing.
use mathlib.Core.Bool.{Bool, true, false, cond, ◌||◌, not, or-true, or_assoc}
use mathlib.Core.List.{List, [], ◌∷◌, map}
use mathlib.Core.Path.{◌≡◌, refl, ap, ◌∙◌}
use Prim.Native.Nat.{ℕ, ◌+◌, ◌%◌}
use lib.Dec.{eqb}
use Rattle.std.proofs.Common.{arith, zero-add}
use Rattle.std.proofs.lemmas.Bool.Decides.{nat_tests}
use Rattle.std.proofs.lemmas.List.Sums.{sum_by-cons}
use Rattle.std.specs.List.{count_by}
use Rattle.level.specs.Level.{high, unknown, none}
use Rattle.level.specs.Gate.{counted, some, odd_ones}

-- one input more that is 1
one_more : (n : ℕ) → eqb ((1 + n) % 2) 1 ≡ not (eqb (n % 2) 1)
one_more n = grind (arith, nat_tests)

pub odd_is : (l : List ℕ) → eqb (count_by (λ a. eqb a high) l % 2) 1 ≡ odd_ones l
odd_is [] = refl
odd_is (a ∷ l) = rw sum_by-cons (step (eqb a high) (odd_is l))
  where
    step : (one : Bool) → eqb (count_by (λ a. eqb a high) l % 2) 1 ≡ odd_ones l
        → eqb ((cond one 1 0 + count_by (λ a. eqb a high) l) % 2) 1 ≡ cond one (not (odd_ones l)) (odd_ones l)
    step true rest = one_more (count_by (λ a. eqb a high) l) ∙ ap not rest
    step false rest = rw zero-add rest

-- an input counts as X if it is X or Z
pub counted_unknown : (l : List ℕ) → some unknown (map counted l) ≡ (some unknown l || some none l)
counted_unknown [] = refl
counted_unknown (a ∷ l) = rw (counted_unknown l) (one (eqb a none) refl)
  where
    one : (b : Bool) → eqb a none ≡ b → (eqb (counted a) unknown || (some unknown l || some none l)) ≡ ((eqb a unknown || some unknown l) || (eqb a none || some none l))
    one true e = simp (e, or-true)
    one false e = simp (e, or_assoc)
