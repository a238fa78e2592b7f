-- The entries of a list that pass a test stand in the same order; so do the changes that are not due and stay pending. Assumes nothing.
use lib.Dec.{eqb}
use mathlib.Core.Bool.{Bool, true, false, not, false≢true}
use mathlib.Core.List.Memᴰ
use mathlib.Core.List.{List, [], ◌∷◌, Memᴰ}
use mathlib.Core.Logic.{◌↔◌, ⊎_elim}
use mathlib.Core.Path.{◌≡◌, refl, sym, ap, ◌∙◌}
use Prim.Native.Nat.{ℕ}
use Rattle.std.specs.Prelude.{if◌then◌else◌}
use Rattle.sheet.proofs.Tests.{tells_eq, tells_not}
use Rattle.network.proofs.Rising.{Pairs}
use Rattle.model.specs.Change.{Change, not_due}

module _ {A : Type 0} (f : A → Bool) where
  unfoldable pub passing : List A → List A
  passing [] = []
  passing (x ∷ l) = if f x then x ∷ passing l else passing l

  pub passing_mem : {x : A} (l : List A) → Memᴰ x (passing l) ↔ (Memᴰ x l × (f x ≡ true))
  unfolding passing
  passing_mem [] = (λ m. absurd (Memᴰ.not-nil m), λ p. absurd (Memᴰ.not-nil p.0))
  passing_mem {x} (y ∷ l) = go (f y) refl (passing_mem l)
    where
      go : (b : Bool) → f y ≡ b → Memᴰ x (passing l) ↔ (Memᴰ x l × (f x ≡ true)) → Memᴰ x (if b then y ∷ passing l else passing l) ↔ (Memᴰ x (y ∷ l) × (f x ≡ true))
      go true e later = (
        λ m. ⊎_elim (λ i. (Memᴰ.head i, ap f i ∙ e)) (λ m. let (i, p) = later.0 m in (Memᴰ.tail i, p)) (Memᴰ.cases_cons m),
        λ (m, p). ⊎_elim Memᴰ.head (λ i. Memᴰ.tail (later.1 (i, p))) (Memᴰ.cases_cons m),
      )
      go false e later = (
        λ m. let (i, p) = later.0 m in (Memᴰ.tail i, p),
        λ (m, p). ⊎_elim (λ i. absurd (false≢true (sym e ∙ ap f (sym i) ∙ p))) (λ i. later.1 (i, p)) (Memᴰ.cases_cons m),
      )

  pub passing_all : (l : List A) → ((x : A) → Memᴰ x l → f x ≡ true) → passing l ≡ l
  unfolding passing
  passing_all [] all = refl
  passing_all (x ∷ l) all = rw (all x (Memᴰ.head refl), passing_all l (λ y m. all y (Memᴰ.tail m)))

  passing_pairs : (R : A → A → Type 0) (l : List A) → Pairs R l → Pairs R (passing l)
  unfolding passing
  passing_pairs R [] p = tt
  passing_pairs R (x ∷ l) p = go (f x) (passing_pairs R l p.1)
    where
      go : (b : Bool) → Pairs R (passing l) → Pairs R (if b then x ∷ passing l else passing l)
      go true i = (λ y m. p.0 y ((passing_mem l).0 m).0, i)
      go false i = i

module _ (t : ℕ) where
  pub passes_not_due : (l : List Change) → not_due t l ≡ passing (λ x. not (eqb x.due t)) l
  unfolding not_due passing
  passes_not_due [] = refl
  passes_not_due (y ∷ l) = go (eqb y.due t) (passes_not_due l)
    where
      go : {rest : List Change} (b : Bool) → not_due t l ≡ rest → (if b then not_due t l else y ∷ not_due t l) ≡ (if not b then y ∷ rest else rest)
      go true e = e
      go false e = ap (λ l. y ∷ l) e

  pub not_due-mem : {x : Change} (l : List Change) → Memᴰ x (not_due t l) ↔ (Memᴰ x l × (x.due ≡ t → ⊥))
  not_due-mem {x} l =
      let tells = tells_not (eqb x.due t) (tells_eq x.due t) in
      let mem = passing_mem (λ x. not (eqb x.due t)) l in
      rw (passes_not_due l) (λ m. let (i, p) = mem.0 m in (i, tells.0 p), λ (i, d). mem.1 (i, tells.1 d))

  pub not_due_pairs : (R : Change → Change → Type 0) (l : List Change) → Pairs R l → Pairs R (not_due t l)
  not_due_pairs R l p = rw (passes_not_due l) (passing_pairs (λ x. not (eqb x.due t)) R l p)
