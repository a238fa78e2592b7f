-- A tick keeps the pending changes. What is owed before the next tick was owed before this one and is not due now, or is decided at this tick; the delayed modules are scheduled one after
-- the other, and each puts the change that it decides, which is due after every earlier change of it. So each change that is put fits beside those held. Assumes nothing.
use mathlib.Core.List.Memᴰ
use mathlib.Core.List.{List, [], ◌∷◌, ◌++◌, Memᴰ}
use mathlib.Core.Logic.{◌⊎◌, inl, inr, ⊎_elim}
use mathlib.Core.Path.{◌≡◌, sym, ap, ap₂, ◌∙◌, subst, subst₂}
use native.Mathlib.Decide.{dec_lt, ℕ_discrete}
use native.Mathlib.Omega.{arith}
use Prim.Native.Nat.{ℕ, suc, ◌+◌, ◌<◌}
use Rattle.sheet.specs.Sheet.{Sheet}
use Rattle.network.specs.Timeline.{Cells}
use Rattle.network.proofs.Rising.{Pairs, pairs_of, pairs_at, pairs_append}
use Rattle.model.specs.Change.{Change, not_due}
use Rattle.model.specs.Store.{Store, Keepable}
use Rattle.model.specs.State.{State, delayed_count}
use Rattle.model.specs.Standing.{placed, Owed, change_at, Owing, Standing}
use Rattle.model.proofs.Matched.{Apart}
use Rattle.model.proofs.NotDue.{not_due-mem, not_due_pairs}
use Rattle.model.proofs.DelayedFirst.{delayed_listed}
use Rattle.model.proofs.Setting.{Setting, sound, given_level}

-- each once, by the entries
pub owing_pairs : {S : Sheet} {c : Cells} {horizon t : ℕ} {l : List Change} → Owing S c horizon t l → Pairs Apart l
owing_pairs {l} o = let none : Change = record { due = 0; position = 0; value = 0 } in pairs_of Apart l none (λ i j h b. o.once i j h b none)

-- decided before tick t, or at it by one of the first n modules
abbrev By : Sheet → (t n k u : ℕ) → Type 0
By S t n k u = (u < t + (placed S k).delay) ⊎ (k < n)

-- the store holds what is owed before the next tick and so decided, each once
pub record Held (store : Store) (S : Sheet) (c : Cells) (horizon t n : ℕ) (kept : store.Kept) (l : List Change) : Type 0 where
  pub holds : store.Holds kept l
  pub owed : (x : Change) → Memᴰ x l → (k : ℕ) × (u : ℕ) × Owed S c horizon (suc t) k u × By S t n k u × (x ≡ change_at S c k u)
  pub pending : (k u : ℕ) → Owed S c horizon (suc t) k u → By S t n k u → Memᴰ (change_at S c k u) l
  pub once : Pairs Apart l

-- a change that is owed after tick t may be kept
keepable : {S : Sheet} {c : Cells} {horizon : ℕ} → Setting S c horizon → (t k u : ℕ) → Owed S c horizon (suc t) k u → Keepable t (change_at S c k u)
keepable {S} G t k u w =
    let h = delayed_listed S k w.delayed in
    record {
      later = w.due;
      near = omega (arith, w.decided, (sound G k h).delay);
      position = omega (arith, G.accepted.modules);
      value = given_level G u k w.below h;
    }

module _ {store : Store} {S : Sheet} {c : Cells} {horizon : ℕ} (G : Setting S c horizon) (t : ℕ) where
  -- those that are not due now
  pub not_due_lem : (st : State store) (stands : Standing store S c horizon t st) → Held store S c horizon t 0 (store.rest st.pending t) (not_due t stands.held)
  not_due_lem st stands =
      record {
        holds = store.holds_rest st.pending stands.held t stands.holds;
        owed = λ x m.
            let (was, late) = (not_due-mem t stands.held).0 m in
            let (k, u, w, e) = stands.owing.owed x was in
            (k, u, still k u w (λ i. late (ap (λ x. x.due) e ∙ i)), inl w.decided, e);
        pending = λ k u w. ⊎_elim (λ b. (not_due-mem t stands.held).1 (stands.owing.pending k u (was k u w b), λ i. omega (arith, w.due, i))) (λ b. absurd (omega arith));
        once = not_due_pairs t Apart stands.held (owing_pairs stands.owing);
      }
    where
      still : (k u : ℕ) → Owed S c horizon t k u → (u ≡ t → ⊥) → Owed S c horizon (suc t) k u
      still k u o d =
          record { delayed = o.delayed; due = omega (arith, o.due); decided = omega (arith, o.decided); below = o.below; later = o.later; differs = o.differs }

      was : (k u : ℕ) → Owed S c horizon (suc t) k u → u < t + (placed S k).delay → Owed S c horizon t k u
      was k u o b = record { delayed = o.delayed; due = omega (arith, o.due); decided = b; below = o.below; later = o.later; differs = o.differs }

  -- all delayed modules are scheduled
  pub all_held : {kept : store.Kept} {l : List Change} {n : ℕ} → Held store S c horizon t n kept l → ((k : ℕ) → k < delayed_count S → k < n) → Owing S c horizon (suc t) l
  all_held {l = l} H all =
      record {
        owed = λ x m. let (k, u, w, b, e) = H.owed x m in (k, u, w, e);
        pending = λ k u w. H.pending k u w (inr (all k w.delayed));
        once = λ i j h b. pairs_at Apart l H.once i j h b;
      }

  -- module n
  module _ (n : ℕ) {kept : store.Kept} {l : List Change} (H : Held store S c horizon t n kept l) where
    abbrev at : ℕ
    at = t + (placed S n).delay

    wider : (k u : ℕ) → By S t n k u → By S t (suc n) k u
    wider k u (inl b) = inl b
    wider k u (inr b) = inr (omega arith)

    split : (k u : ℕ) → Owed S c horizon (suc t) k u → By S t (suc n) k u → By S t n k u ⊎ ((k ≡ n) × (u ≡ at))
    split k u w (inl b) = inl (inl b)
    split k u w (inr b) = go (ℕ_discrete k n) (dec_lt u (t + (placed S k).delay))
      where
        go : Dec (k ≡ n) → Dec (u < t + (placed S k).delay) → By S t n k u ⊎ ((k ≡ n) × (u ≡ at))
        go d (yes i) = inl (inl i)
        go (yes e) (no i) = inr (e, omega (arith, w.decided, ap (λ k. (placed S k).delay) e))
        go (no d) (no i) = inl (inr (omega arith))

    -- decides no change
    pub none-put : (Owed S c horizon (suc t) n at → ⊥) → Held store S c horizon t (suc n) kept l
    none-put none =
        record {
          holds = H.holds;
          owed = λ x m. let (k, u, w, b, e) = H.owed x m in (k, u, w, wider k u b, e);
          pending = λ k u w b. ⊎_elim (H.pending k u w) (λ (i, j). absurd (none (subst₂ (Owed S c horizon (suc t)) i j w))) (split k u w b);
          once = H.once;
        }

    -- or one
    pub one_put : Owed S c horizon (suc t) n at → Held store S c horizon t (suc n) (store.put kept (change_at S c n at)) (l ++ change_at S c n at ∷ [])
    one_put w =
        record {
          holds = store.holds_put kept l t (change_at S c n at) H.holds (record { keepable = keepable G t n at w; others = others; apart = apart });
          owed = λ x m. ⊎_elim
              (λ i. let (k, u, w, b, e) = H.owed x i in (k, u, w, wider k u b, e))
              (λ i. (n, at, w, inr (omega arith), Memᴰ.eq_of_singleton i))
              (Memᴰ.append_cases l m);
          pending = λ k u w b. ⊎_elim (λ b. Memᴰ.append_left _ (H.pending k u w b)) (λ (i, j). Memᴰ.append_right l (Memᴰ.head (ap₂ (change_at S c) i j))) (split k u w b);
          once = pairs_append Apart l (change_at S c n at ∷ []) H.once (λ b i. absurd (Memᴰ.not-nil i), tt) (λ a b i j e. let f = e ∙ Memᴰ.eq_of_singleton j in apart a i (ap (λ x. x.position) f) (ap (λ x. x.due) f));
        }
      where
        others : (y : Change) → Memᴰ y l → Keepable t y
        others y m = let (k, u, w, b, e) = H.owed y m in subst (Keepable t) (sym e) (keepable G t k u w)

        apart : (y : Change) → Memᴰ y l → y.position ≡ n → y.due ≡ at → ⊥
        apart y m i j =
            let (k, u, w, b, e) = H.owed y m in
            let p : k ≡ n = sym (ap (λ x. x.position) e) ∙ i in
            let d : u ≡ at = sym (ap (λ x. x.due) e) ∙ j in
            ⊎_elim (λ b. omega (arith, ap (λ k. (placed S k).delay) p)) (λ b. omega arith) b
