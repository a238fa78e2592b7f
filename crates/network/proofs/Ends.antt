-- The end of a value, by the cells: up to it they are the same, and there the node changes, or it is the bound. No other tick is such, and it is told by the node's cells below the bound.
-- Assumes nothing.
use lib.Dec.{T, T_not, eqb, eqb_refl, eqb→eq}
use mathlib.Core.Bool.{Bool, true, false, not}
use mathlib.Core.Path.{◌≡◌, refl, sym, ap, ◌∙◌, subst}
use native.Mathlib.Decide.{ℕ_discrete, dec_lt}
use native.Mathlib.Nat.{add-zero, add-suc}
use native.Mathlib.Omega.{arith}
use Prim.Native.Nat.{ℕ, zero, suc, ◌+◌, ◌-◌, ◌<◌, ◌≤◌}
use Rattle.std.specs.Prelude.{if◌then◌else◌}
use Rattle.network.specs.Demand2.{Lasts}
use Rattle.network.specs.Ends.{first_from, next_change}
use Rattle.network.specs.Listing.{changes}
use Rattle.network.specs.Timeline.{Cells}
use Rattle.network.proofs.PendingCount.{changes_same}

-- the first tick of so many at which a test passes
record First (test : ℕ → Bool) (t n f : ℕ) : Type 0 where
  from : t ≤ f
  within : f ≤ t + n
  none : (u : ℕ) → t ≤ u → u < f → T (test u) → ⊥
  passes : f < t + n → T (test f)

first-is : (test : ℕ → Bool) (t n : ℕ) → First test t n (first_from test t n)
unfolding first_from
first-is test t zero = record { from = omega arith; within = omega arith; none = λ u l h. absurd (omega arith); passes = λ h. absurd (omega arith) }
first-is test t (suc n) = at (test t) refl (first-is test (suc t) n)
  where
    at : (b : Bool) → test t ≡ b → First test (suc t) n (first_from test (suc t) n) → First test t (suc n) (if b then t else first_from test (suc t) n)
    at true e r = record { from = omega arith; within = omega arith; none = λ u l h. absurd (omega arith); passes = λ h. subst T (sym e) tt }
    at false e r =
        record {
          from = omega (arith, r.from);
          within = omega (arith, r.within);
          none = λ u l h p. later u (ℕ_discrete u t) l h p;
          passes = λ h. r.passes (omega arith);
        }
      where
        later : (u : ℕ) → Dec (u ≡ t) → t ≤ u → u < first_from test (suc t) n → T (test u) → ⊥
        later u (yes i) l h p = subst T (ap test i ∙ e) p
        later u (no d) l h p = r.none u (omega arith) h p

-- tests that agree at these ticks
first_same : (a b : ℕ → Bool) (t n : ℕ) → ((u : ℕ) → u < t + n → a u ≡ b u) → first_from a t n ≡ first_from b t n
unfolding first_from
first_same a b t zero same = refl
first_same a b t (suc n) same = rw (same t (omega arith), first_same a b (suc t) n (λ u h. same u (omega arith)))

-- a cell that does not change is the one before
decided : (b : Bool) → (T (not b) → ⊥) → T b
decided true h = tt
decided false h = absurd (h tt)

unchanged : (c : Cells) (v u : ℕ) → (T (changes c v (suc u)) → ⊥) → c (suc u) v ≡ c u v
unchanged c v u h = eqb→eq (c (suc u) v) (c u v) (decided (eqb (c (suc u) v) (c u v)) h)

pub differs : (c : Cells) (v u : ℕ) → T (changes c v (suc u)) → c (suc u) v ≡ c u v → ⊥
differs c v u d e = T_not (eqb (c (suc u) v) (c u v)) d (rw e (eqb_refl (c u v)))

steady : (c : Cells) (v t k : ℕ) → ((u : ℕ) → t < u → u ≤ t + k → T (changes c v u) → ⊥) → c (t + k) v ≡ c t v
steady c v t zero none = rw add-zero
steady c v t (suc k) none = rw add-suc (unchanged c v (t + k) (none (suc (t + k)) (omega arith) (omega arith)) ∙ steady c v t k (λ u l h. none u l (omega arith)))

module _ (c : Cells) (bound v t : ℕ) where
  pub next_lasts : t < bound → Lasts c bound v t (next_change c bound v t)
  next_lasts b =
      let f = first-is (changes c v) (suc t) (bound - suc t) in
      record {
        later = f.from;
        within = omega (arith, f.within);
        same = λ u l h. same f u l h;
        change = λ h. f.passes (omega arith);
      }
    where
      same : First (changes c v) (suc t) (bound - suc t) (next_change c bound v t) → (u : ℕ) → t ≤ u → u < next_change c bound v t → c u v ≡ c t v
      same f u l h =
          let e : t + (u - t) ≡ u = omega arith in
          ap (λ u. c u v) (sym e) ∙ steady c v t (u - t) (λ w k m. f.none w k (omega arith))

  -- no end comes before another
  none_before : (e f : ℕ) → Lasts c bound v t e → Lasts c bound v t f → e < f → ⊥
  none_before zero f E F l = omega (arith, E.later)
  none_before (suc e) f E F l =
      differs c v e (E.change (omega (arith, F.within))) (F.same (suc e) (omega (arith, E.later)) l ∙ sym (E.same e (omega (arith, E.later)) (omega arith)))

  pub lasts_once : (e f : ℕ) → Lasts c bound v t e → Lasts c bound v t f → e ≡ f
  lasts_once e f E F = by (dec_lt e f) (dec_lt f e)
    where
      by : Dec (e < f) → Dec (f < e) → e ≡ f
      by (yes l) d = absurd (none_before e f E F l)
      by (no d) (yes l) = absurd (none_before f e F E l)
      by (no d) (no k) = omega arith

-- the same cells of two nodes below the bound
module _ (c q : Cells) (bound v w : ℕ) (same : (u : ℕ) → u < bound → c u v ≡ q u w) where
  pub lasts_same : (t e : ℕ) → Lasts c bound v t e → Lasts q bound w t e
  lasts_same t e L =
      record {
        later = L.later;
        within = L.within;
        same = λ u l h. sym (same u (omega (arith, L.within))) ∙ L.same u l h ∙ same t (omega (arith, L.later, L.within));
        change = λ h. subst T (changes_same c q v w e (λ u l. same u (omega arith))) (L.change h);
      }

  pub next_same : (t : ℕ) → t < bound → next_change c bound v t ≡ next_change q bound w t
  next_same t b = first_same (changes c v) (changes q w) (suc t) (bound - suc t) (λ u h. changes_same c q v w u (λ k l. same k (omega arith)))
