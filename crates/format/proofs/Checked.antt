-- What a check answers, by the refusals' conditions. Assumes nothing.
use lib.Dec.{lit≤}
use mathlib.Core.Bool.{Bool, true, false≢true}
use mathlib.Core.List.Memᴰ
use mathlib.Core.List.{List, ◌∷◌, ◌++◌, Memᴰ}
use mathlib.Core.Logic.{◌↔◌, ◌⊎◌, inl, inr}
use mathlib.Core.Path.{◌≡◌, refl, sym, subst}
use Prim.Native.Nat.{ℕ, ◌≤◌, ◌<◌}
use Rattle.sheet.specs.declared.Edition.{Edition}
use Rattle.sheet.specs.Outcome.{finished, refused}
use Rattle.sheet.specs.Refusal.{Row, ◌at◌when◌, rows, checked_by}
use Rattle.format.specs.FirstMet.{FirstMet}
use Rattle.format.specs.Condition.{ConditionBy, FirstConditionBy, ends_inside, outside_range, byte_above, kind_above, parameter_not_allowed, wrong_wiring, delay_above, driven_or_not, tick_above, not_an_input, value_above, not_above_before, no_first_event, wrong_watched, left_over, on_loop}
use Rattle.sheet.proofs.Tests.{Tells, fails}
use Rattle.sheet.proofs.Rows.{first_clear, first_answers}
use Rattle.format.proofs.FirstMet.{refused_iff}
use Rattle.format.proofs.Table.{row_tells, met_iff}

-- a finished run exactly when no refusal's condition is met anywhere
pub finished_iff : (strict : Bool) (E : Edition) → 0 < E.size → (s : List ℕ) → (checked_by strict E s ≡ finished 0) ↔ ((n p : ℕ) → ConditionBy strict E s n p → ⊥)
unfolding checked_by
finished_iff strict E some s = (λ e n p c. false≢true (sym ((first_clear (rows strict E s)).0 e (n at p when true) ((met_iff strict E some s n p).1 c))), λ none. (first_clear (rows strict E s)).1 (λ r m. (fails r.met (row_tells strict E some s r m)).1 (none r.number r.place)))

-- the table taken apart at a row: that row's test and those before it
module _ (strict : Bool) (E : Edition) (some : 0 < E.size) (s : List ℕ) (before after : List Row) (x : Row) (there : rows strict E s ≡ before ++ x ∷ after) where
  there_tells : Tells x.met (ConditionBy strict E s x.number x.place)
  there_tells = row_tells strict E some s x (subst (Memᴰ x) (sym there) (Memᴰ.append_right before (Memᴰ.head refl)))

  before_tells : (r : Row) → Memᴰ r before → Tells r.met (ConditionBy strict E s r.number r.place)
  before_tells r m = row_tells strict E some s r (subst (Memᴰ r) (sym there) (Memᴰ.append_left (x ∷ after) m))

-- a refusal exactly at the first row whose condition is met
pub refused_first : (strict : Bool) (E : Edition) → 0 < E.size → (s : List ℕ) (n p : ℕ) → (checked_by strict E s ≡ refused n p 0) ↔ FirstConditionBy strict E s n p
refused_first strict E some s n p = (λ e. stated ((refused_iff strict E s n p).0 e), λ f. (refused_iff strict E s n p).1 (tested f))
  where
    stated : FirstMet (rows strict E s) n p → FirstConditionBy strict E s n p
    stated f =
        let row = n at p when true in
        record {
          before = f.before;
          test = true;
          after = f.after;
          there = f.there;
          met = (there_tells strict E some s f.before f.after row f.there).0 refl;
          none_before = λ r m. (fails r.met (before_tells strict E some s f.before f.after row f.there r m)).0 (f.none_before r m);
        }

    tested : FirstConditionBy strict E s n p → FirstMet (rows strict E s) n p
    tested f =
        let row = n at p when f.test in
        record {
          before = f.before;
          after = f.after;
          there = subst (λ b. rows strict E s ≡ f.before ++ (n at p when b) ∷ f.after) ((there_tells strict E some s f.before f.after row f.there).1 f.met) f.there;
          none_before = λ r m. (fails r.met (before_tells strict E some s f.before f.after row f.there r m)).1 (f.none_before r m);
        }

-- a refusal's condition is met at its place
pub refused_met : (strict : Bool) (E : Edition) → 0 < E.size → (s : List ℕ) (n p : ℕ) → checked_by strict E s ≡ refused n p 0 → ConditionBy strict E s n p
refused_met strict E some s n p e = ((refused_first strict E some s n p).0 e).met

-- the numbers of the table
numbered : {strict : Bool} {E : Edition} {s : List ℕ} {n p : ℕ} → ConditionBy strict E s n p → (2 ≤ n) × (n ≤ 18)
numbered (ends_inside _ _) = (lit≤ tt, lit≤ tt)
numbered (outside_range _ _) = (lit≤ tt, lit≤ tt)
numbered (byte_above _ _ _) = (lit≤ tt, lit≤ tt)
numbered (kind_above _ _ _) = (lit≤ tt, lit≤ tt)
numbered (parameter_not_allowed _ _ _) = (lit≤ tt, lit≤ tt)
numbered (wrong_wiring _ _ _) = (lit≤ tt, lit≤ tt)
numbered (delay_above _ _ _) = (lit≤ tt, lit≤ tt)
numbered (driven_or_not _ _ _) = (lit≤ tt, lit≤ tt)
numbered (tick_above _ _ _) = (lit≤ tt, lit≤ tt)
numbered (not_an_input _ _ _) = (lit≤ tt, lit≤ tt)
numbered (value_above _ _ _) = (lit≤ tt, lit≤ tt)
numbered (not_above_before _ _ _) = (lit≤ tt, lit≤ tt)
numbered (no_first_event _ _ _ _) = (lit≤ tt, lit≤ tt)
numbered (wrong_watched _ _ _) = (lit≤ tt, lit≤ tt)
numbered (left_over _) = (lit≤ tt, lit≤ tt)
numbered (on_loop _ _) = (lit≤ tt, lit≤ tt)

-- a finished run of no record, or a refusal from 2 to 18 that wrote none
pub answers : (strict : Bool) (E : Edition) → 0 < E.size → (s : List ℕ) → (checked_by strict E s ≡ finished 0) ⊎ ((n : ℕ) × (p : ℕ) × (2 ≤ n) × (n ≤ 18) × (checked_by strict E s ≡ refused n p 0))
unfolding checked_by
answers strict E some s = named (first_answers (rows strict E s))
  where
    named : (checked_by strict E s ≡ finished 0) ⊎ ((n : ℕ) × (p : ℕ) × (checked_by strict E s ≡ refused n p 0)) → (checked_by strict E s ≡ finished 0) ⊎ ((n : ℕ) × (p : ℕ) × (2 ≤ n) × (n ≤ 18) × (checked_by strict E s ≡ refused n p 0))
    named (inl e) = inl e
    named (inr h) = let met = numbered (refused_met strict E some s h.0 h.1 h.2) in inr (h.0, h.1, met.0, met.1, h.2)
