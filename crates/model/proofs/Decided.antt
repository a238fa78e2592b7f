-- A delayed module's contribution changes at tick t + d exactly where what it comes to at tick t is not what it came to before; before tick d it does not change. Assumes nothing.
use lib.Dec.{T, eqb, T_not, not_T, eqb_refl, eqb→eq}
use mathlib.Core.Logic.{◌↔◌}
use mathlib.Core.Path.{◌≡◌, sym, ap, ◌∙◌, subst}
use native.Mathlib.Omega.{arith}
use Prim.Native.Nat.{ℕ, zero, suc, ◌+◌, ◌-◌, ◌<◌}
use Rattle.sheet.specs.Sheet.{Sheet}
use Rattle.network.specs.Timeline.{Cells, contributions}
use Rattle.network.specs.Listing.{changes}
use Rattle.model.specs.State.{delayed_count}
use Rattle.model.specs.Standing.{placed, ahead_of, given_by}
use Rattle.model.specs.Ticks.{ordered_at}
use Rattle.model.proofs.DelayedFirst.{delayed_listed, delayed_first}
use Rattle.model.proofs.Setting.{held_before, early_given, later_given}

-- a change at a tick above 0 is a difference from the cell before
changes_at : (c : Cells) (v w u : ℕ) → u ≡ suc w → T (changes c v u) ↔ (c u v ≡ c w v → ⊥)
changes_at c v w u e = subst (λ u. T (changes c v u) ↔ (c u v ≡ c w v → ⊥)) (sym e) (out, into)
  where
    out : T (changes c v (suc w)) → c (suc w) v ≡ c w v → ⊥
    out d i = T_not (eqb (c (suc w) v) (c w v)) d (rw i (eqb_refl (c w v)))

    into : (c (suc w) v ≡ c w v → ⊥) → T (changes c v (suc w))
    into d = not_T (eqb (c (suc w) v) (c w v)) (λ i. d (eqb→eq (c (suc w) v) (c w v) i))

module _ (S : Sheet) (k : ℕ) (h : k < delayed_count S) where
  pub some_delay : 0 < (placed S k).delay
  some_delay = let d = (delayed_first S k (delayed_listed S k h)).0 h in omega arith

module _ (S : Sheet) (k : ℕ) (c : Cells) where
  pub given_due : (t : ℕ) → given_by S c k (t + (placed S k).delay) ≡ ahead_of S c k t
  given_due t = later_given S k c (t + (placed S k).delay) (omega arith) ∙ ap (ahead_of S c k) (omega arith)

  given-before : (t w : ℕ) → t + (placed S k).delay ≡ suc w → given_by S c k w ≡ held_before S c k t
  given-before zero w e = early_given S k c w (omega arith)
  given-before (suc t) w e = later_given S k c w (omega arith) ∙ ap (ahead_of S c k) (omega arith)

module _ (S : Sheet) (c : Cells) (k : ℕ) (h : k < delayed_count S) where
  pub decided : (t : ℕ) → T (changes (contributions S c) (ordered_at S k) (t + (placed S k).delay)) ↔ (ahead_of S c k t ≡ held_before S c k t → ⊥)
  decided t = (λ i e. at.0 i (given_due S k c t ∙ e ∙ sym last), λ d. at.1 (λ i. d (sym (given_due S k c t) ∙ i ∙ last)))
    where
      above : t + (placed S k).delay ≡ suc (t + (placed S k).delay - 1)
      above = omega (arith, some_delay S k h)

      last : given_by S c k (t + (placed S k).delay - 1) ≡ held_before S c k t
      last = given-before S k c t (t + (placed S k).delay - 1) above

      at : T (changes (contributions S c) (ordered_at S k) (t + (placed S k).delay)) ↔ (given_by S c k (t + (placed S k).delay) ≡ given_by S c k (t + (placed S k).delay - 1) → ⊥)
      at = changes_at (contributions S c) (ordered_at S k) (t + (placed S k).delay - 1) (t + (placed S k).delay) above

  pub none_early : (u : ℕ) → 0 < u → u < (placed S k).delay → T (changes (contributions S c) (ordered_at S k) u) → ⊥
  none_early u l d i =
      (changes_at (contributions S c) (ordered_at S k) (u - 1) u (omega arith)).0 i
      (early_given S k c u d ∙ sym (early_given S k c (u - 1) (omega arith)))
