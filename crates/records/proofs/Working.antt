-- A list filled up to a size, at every place; and records in the working order. Assumes nothing.
use lib.ListN.{length, get_or, take, drop, replicate, length-map}
use lib.Seq.{take_at}
use mathlib.Core.List.{List, [], ◌∷◌, ◌++◌, map_congr_left}
use mathlib.Core.Path.{◌≡◌, refl, ap, ◌∙◌}
use native.Mathlib.Omega.{arith}
use Prim.Native.Nat.{ℕ, zero, suc, ◌-◌}
use Rattle.std.proofs.lemmas.Grind.{common_steps}
use Rattle.sheet.specs.declared.Module.{Module}
use Rattle.sheet.specs.Sheet.{Sheet, no_module, module_count}
use Rattle.sheet.specs.Contents.{filled}
use Rattle.sheet.specs.WorkingOrder.{working_order, in_working_order}
use Rattle.records.specs.Records.{record_at, in_order, first_in_order}

module _ {A : Type 0} where
  -- a list filled up with what stands past its end has the same at every place
  filled_there : (n : ℕ) (blank : A) (l : List A) (i : ℕ) → get_or (l ++ replicate n blank) i blank ≡ get_or l i blank
  filled_there n blank [] i = grind (arith, common_steps)
  filled_there n blank (x ∷ l) zero = refl
  filled_there n blank (x ∷ l) (suc i) = filled_there n blank l i

-- The records of a sheet's modules, put in its working order. That has every module once, so it is as long as the list of modules.
pub working_records : (S : Sheet) (n : ℕ) → length (working_order S) ≡ n → {modules : List Module} {order : List ℕ}
    → modules ≡ filled 256 no_module S.modules → order ≡ filled 256 0 (working_order S) → take n (first_in_order modules order n) ≡ in_working_order S
working_records S n all {modules} {order} e f =
    ap (λ numbers. take n (in_order modules numbers ++ drop n modules)) (ap (take n) f ∙ take_at (working_order S) _ n all)
    ∙ take_at (in_order modules (working_order S)) (drop n modules) n (length-map (working_order S) (record_at modules) ∙ all)
    ∙ map_congr_left {l = working_order S} (λ m _. ap (λ (l : List Module). record_at l m) e ∙ filled_there (256 - module_count S) no_module S.modules m)
