-- A table of rows, and the same with rows more in it: it answers as it does without them, or one of them decides. Assumes nothing.
use mathlib.Core.Bool.{true}
use mathlib.Core.List.{List, [], ◌++◌}
use mathlib.Core.Logic.{⊎_elim}
use mathlib.Core.Path.{◌≡◌, refl, sym, ◌∙◌}
use native.Mathlib.Nat.{le_step, lt-suc_self}
use Prim.Native.Nat.{ℕ, zero, suc, ◌<◌}
use Rattle.sheet.specs.Enumerate.{each}
use Rattle.sheet.specs.Outcome.{finished, refused}
use Rattle.sheet.specs.Refusal.{Row, ◌at◌when◌, first}
use Rattle.sheet.proofs.Rows.{All, first_answers, passed_append, refused_append}
use Rattle.format.proofs.FirstMet.{first_met, met_stands}

-- C is what is known of the rows more that are met, by number and place.
pub data Agrees (C : ℕ → ℕ → Type 0) (with without : List Row) : Type 0 where
  alike : first with ≡ first without → Agrees C with without
  decided : {n p : ℕ} → C n p → first with ≡ refused n p 0 → Agrees C with without

module _ {C : ℕ → ℕ → Type 0} where
  pub same : (xs : List Row) → Agrees C xs xs
  same xs = alike refl

  pub more : (xs : List Row) → All (λ r. r.met ≡ true → C r.number r.place) xs → Agrees C xs []
  unfolding first
  more xs known =
      ⊎_elim
      alike
      (λ r. decided (known (r.0 at r.1 when true) (met_stands xs r.0 r.1 (first_met xs r.0 r.1 r.2)) refl) r.2)
      (first_answers xs)

  infixl 15 ◌next◌
  pub ◌next◌ : {xs ys vs ws : List Row} → Agrees C xs ys → Agrees C vs ws → Agrees C (xs ++ vs) (ys ++ ws)
  ◌next◌ {xs} {vs} (decided c e) after = decided c (refused_append xs vs e)
  ◌next◌ {xs} {ys} {vs} {ws} (alike e) after =
      ⊎_elim (passed after) (λ r. alike (refused_append xs vs r.2 ∙ sym (refused_append ys ws (sym e ∙ r.2)))) (first_answers xs)
    where
      passed : Agrees C vs ws → first xs ≡ finished 0 → Agrees C (xs ++ vs) (ys ++ ws)
      passed (alike f) clear = alike (passed_append xs vs clear ∙ (f ∙ sym (passed_append ys ws (sym e ∙ clear))))
      passed (decided c f) clear = decided c (passed_append xs vs clear ∙ f)

  pub next_each : (n : ℕ) (f g : ℕ → List Row) → ((i : ℕ) → i < n → Agrees C (f i) (g i)) → Agrees C (each n f) (each n g)
  unfolding each
  next_each zero f g h = same []
  next_each (suc n) f g h = next_each n f g (λ i l. h i (le_step l)) next h n (lt-suc_self n)
