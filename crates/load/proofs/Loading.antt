-- What is filled before a run: rows of all the modules, and a count of the delayed ones. Assumes nothing.
use mathlib.Core.Bool.{Bool, true, false}
use mathlib.Core.List.{List}
use mathlib.Core.Path.{◌≡◌, refl, ap, ◌∙◌}
use Prim.Native.Nat.{ℕ, zero, suc, ◌+◌, ◌<◌, ◌≤◌}
use native.Mathlib.Numerals.{add-one}
use native.Mathlib.Omega.{arith}
use lib.Dec.{eqb}
use lib.ListN.{length, take}
use lib.Seq.{ext_get_or, take_all}
use Rattle.std.specs.Prelude.{not, if◌then◌else◌}
use Rattle.std.specs.List.{count_by}
use Rattle.std.proofs.lemmas.List.Sums.{count_by_more_no, count_by_more_yes}
use Rattle.sheet.specs.declared.Module.{Module}
use Rattle.sheet.specs.Sheet.{Sheet, no_module, module_of}
use Rattle.model.specs.State.{delayed_below}
use Rattle.model.specs.Passes.{module_in}
use Rattle.tick.specs.declared.row.Row.{Row}
use Rattle.tick.specs.Rows.{row_in, modules_in}
use Rattle.tick.proofs.Rows.{length_modules, module_at}

-- each module stands in its row
pub rows_of : (rows : List Row) (modules : List Module) → length rows ≡ length modules → ((j : ℕ) → j < length modules → (row_in rows j).module ≡ module_in modules j) → modules_in rows ≡ modules
rows_of rows modules e put =
    ext_get_or no_module (modules_in rows) modules (length_modules rows ∙ e) (λ j h. module_at rows j ∙ put j (omega (arith, length_modules rows)))

abbrev pub delayed : Module → Bool
delayed m = not (eqb m.delay 0)

module _ (S : Sheet) (modules : List Module) (e : S.modules ≡ modules) where
  counted : (n : ℕ) → n ≤ length modules → count_by delayed (take n modules) ≡ delayed_below S n
  unfolding delayed_below
  counted zero h = refl
  counted (suc n) h = by (eqb (module_in modules n).delay 0) refl (counted n (omega arith))
    where
      there : eqb (module_of S n).delay 0 ≡ eqb (module_in modules n).delay 0
      there = ap (λ ms. eqb (module_in ms n).delay 0) e

      by : (b : Bool) → eqb (module_in modules n).delay 0 ≡ b → count_by delayed (take n modules) ≡ delayed_below S n
          → count_by delayed (take (suc n) modules) ≡ delayed_below S n + (if eqb (module_of S n).delay 0 then 0 else 1)
      by true q before = rw (there, q) (omega (arith, before, rw (add-one n) at (count_by_more_no delayed modules n no_module h (ap not q))))
      by false q before = rw (there, q) (omega (arith, before, rw (add-one n) at (count_by_more_yes delayed modules n no_module h (ap not q))))

  pub all_counted : count_by delayed modules ≡ delayed_below S (length modules)
  all_counted = rw (take_all (length modules) modules (omega arith)) at (counted (length modules) (omega arith))
