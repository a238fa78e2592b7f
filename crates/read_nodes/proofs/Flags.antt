-- Flagging one node more. Assumes nothing.
use mathlib.Core.Bool.{Bool, true, false, ◌||◌, or-true, or-false}
use mathlib.Core.List.{List}
use mathlib.Core.Path.{◌≡◌, refl, sym, ◌∙◌}
use Prim.Native.Nat.{ℕ, ◌<◌}
use native.Mathlib.Decide.{ℕ_discrete}
use native.Mathlib.Omega.{arith}
use borrow.Author.Tests.{eq-eqb, ne_eqb}
use lib.Dec.{eqb}
use lib.ListN.{length, get_or, set}
use lib.Seq.{get_or-set_same, get_or-set_other}
use Rattle.sheet.specs.Flags.{Flags}

pub flag_more : (flags : List Bool) (test : ℕ → Bool) (node : ℕ) → length flags ≡ 256 → node < 256 → Flags flags test → Flags (set flags node true) (λ v. test v || eqb node v)
flag_more flags test node size h holds v b = go (ℕ_discrete node v)
  where
    go : Dec (node ≡ v) → get_or (set flags node true) v false ≡ (test v || eqb node v)
    go (yes e) = simp (← e, eq-eqb node node refl, or-true) (get_or-set_same flags node true false (omega arith))
    go (no ne) = simp (ne_eqb node v ne, or-false) (get_or-set_other flags node v true false (λ e. ne (sym e)) ∙ holds v b)
