-- What is chosen below a bound by a test: it is told by the tests and by what is given where they pass; what is given where one number alone passes stands alone. Assumes nothing.
use mathlib.Core.Bool.{Bool, true, false}
use mathlib.Core.List.Memᴰ
use mathlib.Core.List.{[], ◌∷◌, ◌++◌, Memᴰ}
use mathlib.Core.Path.{◌≡◌, refl, sym, ap, ap₂, ◌∙◌, subst}
use native.Mathlib.Decide.{ℕ_discrete}
use native.Mathlib.Nat.{not-suc-le-zero, le_step, lt-suc_self}
use native.Mathlib.Omega.{arith}
use Prim.Native.Nat.{ℕ, zero, suc, ◌<◌, ◌≤◌, zero-le}
use lib.Dec.{lit≤}
use lib.ListN.{length, length-append}
use Rattle.std.specs.Prelude.{cond}
use Rattle.sheet.specs.Enumerate.{each, chosen}
use Rattle.sheet.proofs.Each.{each-mem, each_same}

module _ {ℓ} {A : Type ℓ} where
  pub chosen_same : (n : ℕ) (p q : ℕ → Bool) (f g : ℕ → A) → ((k : ℕ) → k < n → p k ≡ q k) → ((k : ℕ) → k < n → p k ≡ true → f k ≡ g k) → chosen n p f ≡ chosen n q g
  chosen_same n p q f g tests values = each_same n _ _ (λ k h. given k h (p k) refl ∙ ap (λ b. cond b (g k ∷ []) []) (tests k h))
    where
      given : (k : ℕ) → k < n → (b : Bool) → p k ≡ b → (cond b (f k ∷ []) []) ≡ (cond b (g k ∷ []) [])
      given k h true e = ap (λ x. x ∷ []) (values k h e)
      given k h false e = refl

  -- what is chosen is given at a number that passes, and is all of these
  pub chosen_all {κ} : (P : A → Type κ) (n : ℕ) (p : ℕ → Bool) (f : ℕ → A) → ((k : ℕ) → k < n → p k ≡ true → P (f k)) → (x : A) → Memᴰ x (chosen n p f) → P x
  chosen_all P n p f all x m = let (k, h, i) = (each-mem n (λ k. cond (p k) (f k ∷ []) [])).0 m in at k h (p k) refl i
    where
      at : (k : ℕ) → k < n → (b : Bool) → p k ≡ b → Memᴰ x (cond b (f k ∷ []) []) → P x
      at k h true e i = subst P (sym (Memᴰ.eq_of_singleton i)) (all k h e)
      at k h false e i = absurd (Memᴰ.not-nil i)

  pub chosen-mem : (n : ℕ) (p : ℕ → Bool) (f : ℕ → A) (k : ℕ) → k < n → p k ≡ true → Memᴰ (f k) (chosen n p f)
  chosen-mem n p f k h e = (each-mem n (λ k. cond (p k) (f k ∷ []) [])).1 (k, h, rw e (Memᴰ.head refl))

  -- at most one for each number
  pub chosen_few : (n : ℕ) (p : ℕ → Bool) (f : ℕ → A) → length (chosen n p f) ≤ n
  unfolding each
  chosen_few zero p f = zero-le
  chosen_few (suc n) p f = rw (length-append (chosen n p f) (cond (p n) (f n ∷ []) [])) (omega (arith, chosen_few n p f, one (p n)))
    where
      one : (b : Bool) → length (cond b (f n ∷ []) []) ≤ 1
      one true = lit≤ tt
      one false = zero-le

  pub chosen_none : (n : ℕ) (p : ℕ → Bool) (f : ℕ → A) → ((k : ℕ) → k < n → p k ≡ false) → chosen n p f ≡ []
  unfolding each
  chosen_none zero p f none = refl
  chosen_none (suc n) p f none = ap₂ ◌++◌ (chosen_none n p f (λ k h. none k (le_step h))) (ap (λ b. cond b (f n ∷ []) []) (none n (lt-suc_self n)))

  pub chosen_one : (n : ℕ) (p : ℕ → Bool) (f : ℕ → A) (k : ℕ) → k < n → p k ≡ true → ((m : ℕ) → m < n → p m ≡ true → m ≡ k) → chosen n p f ≡ f k ∷ []
  unfolding each
  chosen_one zero p f k h e alone = absurd (not-suc-le-zero h)
  chosen_one (suc n) p f k h e alone = at (ℕ_discrete n k) (chosen_one n p f k)
    where
      fails : (m : ℕ) → m < suc n → (m ≡ k → ⊥) → p m ≡ false
      fails m l d = by (p m) refl
        where
          by : (b : Bool) → p m ≡ b → p m ≡ false
          by true i = absurd (d (alone m l i))
          by false i = i

      at : Dec (n ≡ k) → (k < n → p k ≡ true → ((m : ℕ) → m < n → p m ≡ true → m ≡ k) → chosen n p f ≡ f k ∷ []) → chosen n p f ++ (cond (p n) (f n ∷ []) []) ≡ f k ∷ []
      at (yes i) before = ap₂ ◌++◌ (chosen_none n p f (λ m l. fails m (le_step l) (λ j. omega (arith, i, j)))) (ap (λ m. cond (p m) (f m ∷ []) []) i ∙ ap (λ b. cond b (f k ∷ []) []) e)
      at (no d) before = ap₂ ◌++◌ (before (omega arith) e (λ m l. alone m (le_step l))) (ap (λ b. cond b (f n ∷ []) []) (fails n (lt-suc_self n) d))
