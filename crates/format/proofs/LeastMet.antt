-- Where each number below a bound has one row of the same refusal, the first row met is that of the least number whose condition is met. Assumes
-- nothing.
use mathlib.Core.Bool.{Bool, true, false}
use mathlib.Core.List.Memᴰ
use mathlib.Core.List.{List, [], ◌∷◌}
use mathlib.Core.Logic.{◌↔◌, ◌⊎◌, inl, inr, ⊎_elim}
use mathlib.Core.Path.{◌≡◌, refl, sym, ◌∙◌, subst}
use Prim.Native.Nat.{ℕ, zero, suc, ◌<◌}
use native.Mathlib.Nat.{le_of_suc-le-suc, eq-or-lt_of_le, not-suc-le-zero, le_step, lt-suc_self}
use Rattle.sheet.specs.Enumerate.{each}
use Rattle.sheet.specs.Outcome.{finished, refused}
use Rattle.sheet.specs.Refusal.{Row, ◌at◌when◌, first}
use Rattle.sheet.proofs.Each.{each-mem}
use Rattle.sheet.proofs.Rows.{all_nil, ◌and◌, all_each, finished≢refused, first_clear, refused_each}

-- the least number below the bound at which the test passes
pub record Least (n : ℕ) (f : ℕ → Bool) (v : ℕ) : Type 0 where
  pub below : v < n
  pub met : f v ≡ true
  pub before : (k : ℕ) → k < v → f k ≡ false

-- the test passes at no number below the bound
abbrev pub None : ℕ → (ℕ → Bool) → Type 0
None n f = (k : ℕ) → k < n → f k ≡ false

least_or_none : (n : ℕ) (f : ℕ → Bool) → ((v : ℕ) × Least n f v) ⊎ None n f
least_or_none zero f = inr (λ k l. absurd (not-suc-le-zero l))
least_or_none (suc n) f = go (f n) refl (least_or_none n f)
  where
    go : (b : Bool) → f n ≡ b → ((v : ℕ) × Least n f v) ⊎ None n f → ((v : ℕ) × Least (suc n) f v) ⊎ None (suc n) f
    go b e (inl (v, l)) = inl (v, record { below = le_step l.below; met = l.met; before = l.before })
    go true e (inr none) = inl (n, record { below = lt-suc_self n; met = e; before = none })
    go false e (inr none) = inr (λ k l. ⊎_elim (λ q. subst (λ (m : ℕ). f m ≡ false) (sym q) e) (none k) (eq-or-lt_of_le (le_of_suc-le-suc l)))

-- one refusal's condition at each number
abbrev rows_of : ℕ → (ℕ → Bool) → ℕ → List Row
rows_of number f v = (number at v when f v) ∷ []

same_place : {a b p q c d : ℕ} → refused a p c ≡ refused b q d → p ≡ q
same_place e = cc

pub none_met : (number : ℕ) (f : ℕ → Bool) (n : ℕ) → (first (each n (rows_of number f)) ≡ finished 0) ↔ None n f
none_met number f n = (
  λ e k l. (first_clear (each n (rows_of number f))).0 e (number at k when f k) ((each-mem n (rows_of number f)).1 (k, l, Memᴰ.head refl)),
  λ none. (first_clear (each n (rows_of number f))).1 (all_each n (rows_of number f) (λ k l. ◌and◌ {C = λ r. r.met ≡ false} (none k l) (all_nil (λ r. r.met ≡ false)))),
)

pub least_met : (number : ℕ) (f : ℕ → Bool) (n v : ℕ) → (first (each n (rows_of number f)) ≡ refused number v 0) ↔ Least n f v
unfolding first
least_met number f n v = (λ e. found e (least_or_none n f), stands v)
  where
    stands : (v : ℕ) → Least n f v → first (each n (rows_of number f)) ≡ refused number v 0
    stands v l = refused_each (rows_of number f) v n l.below ((none_met number f v).1 l.before) (rw l.met)

    found : first (each n (rows_of number f)) ≡ refused number v 0 → ((v : ℕ) × Least n f v) ⊎ None n f → Least n f v
    found e (inl (w, l)) = subst (Least n f) (same_place (sym (stands w l) ∙ e)) l
    found e (inr none) = absurd (finished≢refused (sym ((none_met number f n).1 none) ∙ e))
