-- After the drive and the changes that are due, inputs have their cells of the tick, delayed modules give what they contribute at it, and driven nodes the join of what is given. A change that
-- a delayed module owes at the tick is held with its contribution; where none is owed the contribution is the one before, or at first the initial value. Assumes nothing.
use borrow.Author.Tests.{ne_eqb}
use lib.ListN.{get_or}
use mathlib.Core.List.{List, [], ◌∷◌, Memᴰ}
use mathlib.Core.Logic.{◌⊎◌, inl, inr}
use mathlib.Core.Path.{◌≡◌, refl, sym, ap, ◌∙◌}
use native.Mathlib.Decide.{ℕ_discrete}
use native.Mathlib.Omega.{arith}
use Prim.Native.Nat.{ℕ, zero, suc, ◌≤◌, ◌<◌}
use Rattle.sheet.specs.declared.Module.{Module}
use Rattle.sheet.specs.Sheet.{Sheet, node_count, node_byte, module_count}
use Rattle.sheet.specs.WorkingOrder.{in_working_order}
use Rattle.format.specs.Accepted.{Driven}
use Rattle.network.specs.Timeline.{Cells}
use Rattle.model.specs.Change.{Change}
use Rattle.model.specs.Store.{Store}
use Rattle.model.specs.Drive.{drive_tick}
use Rattle.model.specs.Passes.{Settled, give_all}
use Rattle.model.specs.State.{State, delayed_count}
use Rattle.model.specs.Standing.{Standing, Owed, before, placed, given_by, change_at}
use Rattle.model.proofs.Puts.{puts, puts_at}
use Rattle.model.proofs.DelayedFirst.{delayed_first, delayed_listed}
use Rattle.model.proofs.Setting.{Setting, given_level, early_given}
use Rattle.model.proofs.DriveTick.{drive_length, drive_levels, drive_kept, driven_input}
use Rattle.model.proofs.Present.{Present, one_given, joins_before}

-- changes are put at their modules' positions
gives : (modules : List Module) (xs : List Change) (now : Settled) → (give_all modules xs now).given ≡ puts (λ x. x.position) (λ x. x.value) xs now.given
unfolding give_all
gives modules [] now = refl
gives modules (x ∷ xs) now = gives modules xs _

all_given : {S : Sheet} {c : Cells} {horizon : ℕ} → Setting S c horizon → (t : ℕ) (xs : List Change) → ((x : Change) → Memᴰ x xs → (x.position < module_count S) × (x.value < 4))
    → {now : Settled} → Present S c t now → Present S c t (give_all (in_working_order S) xs now)
unfolding give_all
all_given G t [] all p = p
all_given G t (x ∷ xs) all p =
    let (h, l) = all x (Memᴰ.head refl) in
    all_given G t xs (λ y m. all y (Memᴰ.tail m)) (one_given G t p x.position h x.value l)

-- a delayed module's contribution stands already, or it is owed
owed_now : {S : Sheet} {c : Cells} {horizon : ℕ} → Setting S c horizon → (k t : ℕ) → t < horizon → k < delayed_count S
    → (before (given_by S c k) (node_byte S (placed S k).output) t ≡ given_by S c k t) ⊎ Owed S c horizon t k t
owed_now {S} {c} G k zero h l = inl (sym (early_given S k c zero (omega (arith, (delayed_first S k (delayed_listed S k l)).0 l))))
owed_now {S} {c} {horizon} G k (suc t) h l = go (ℕ_discrete (given_by S c k (suc t)) (given_by S c k t))
  where
    go : Dec (given_by S c k (suc t) ≡ given_by S c k t) → (given_by S c k t ≡ given_by S c k (suc t)) ⊎ Owed S c horizon (suc t) k (suc t)
    go (yes e) = inl (sym e)
    go (no d) =
        inr (record {
          delayed = l;
          due = omega arith;
          decided = omega (arith, (delayed_first S k (delayed_listed S k l)).0 l);
          below = h;
          later = omega arith;
          differs = rw (ne_eqb (given_by S c k (suc t)) (given_by S c k t) d) tt;
        })

-- what stands after the drive and the due changes
abbrev pub applied_in : (store : Store) → Sheet → ℕ → State store → Settled
applied_in store S t st = give_all (in_working_order S) (store.due st.pending t) (record { values = drive_tick S.drive t st.values; given = st.given })

module _ {store : Store} {S : Sheet} {c : Cells} {horizon : ℕ} (G : Setting S c horizon) (t : ℕ) (below : t < horizon) (st : State store) (stands : Standing store S c horizon t st) where
  abbrev dues : List Change
  dues = store.due st.pending t

  abbrev drove : Settled
  drove = record { values = drive_tick S.drive t st.values; given = st.given }

  -- a due change is of a delayed module, and has its contribution
  due : (x : Change) → Memᴰ x dues → (k : ℕ) × (k < delayed_count S) × (x ≡ change_at S c k t)
  due x m =
      let (i, d) = (store.tells_due st.pending stands.held t stands.holds x).0 m in
      let (k, u, w, e) = stands.owing.owed x i in
      (k, w.delayed, e ∙ ap (change_at S c k) (sym (ap (λ x. x.due) e) ∙ d))

  driven_node : (v : ℕ) → Driven S v → v < node_count S
  driven_node v d = omega (arith, d.output, (G.accepted.sound_modules d.driver d.listed).output)

  -- after the drive
  drove_present : Present S c t drove
  drove_present =
      record {
        values_size = drive_length S G.accepted t st.values ∙ stands.values_size;
        levels = drive_levels S G.accepted t st.values stands.levels;
        given_size = stands.given_size;
        given_levels = stands.given_levels;
        inputs = λ v i. driven_input G v i t below st.values stands.values_size (stands.values v i.node);
        joins = λ v d.
            let node = driven_node v d in
            drive_kept S G.accepted t st.values stands.values_size v node d
            ∙ stands.values v node
            ∙ joins_before G t v (omega arith) d node st.given stands.given;
      }

  pub applied_present : Present S c t (applied_in store S t st)
  applied_present =
      all_given G t dues
      (λ x m. let (k, h, e) = due x m in let l = delayed_listed S k h in (omega (arith, ap (λ x. x.position) e), omega (arith, ap (λ x. x.value) e, given_level G t k below l)))
      drove_present

  -- what is given after the due changes: what all that are due give there, where one is due or it stood there
  applied_at : (k w : ℕ) → k < module_count S → ((x : Change) → Memᴰ x dues → x.position ≡ k → x.value ≡ w)
      → (get_or st.given k 0 ≡ w) ⊎ ((x : Change) × Memᴰ x dues × (x.position ≡ k)) → get_or (applied_in store S t st).given k 0 ≡ w
  applied_at k w h all some =
      rw (gives (in_working_order S) dues drove)
      (puts_at (λ x. x.position) (λ x. x.value) k w dues st.given (omega (arith, stands.given_size)) all some)

  pub applied_delayed : (k : ℕ) → k < delayed_count S → get_or (applied_in store S t st).given k 0 ≡ given_by S c k t
  applied_delayed k l =
      applied_at k (given_by S c k t) (delayed_listed S k l)
      (λ x m p. let (j, b, e) = due x m in ap (λ x. x.value) e ∙ ap (λ j. given_by S c j t) (sym (ap (λ x. x.position) e) ∙ p))
      (go (owed_now G k t below l))
    where
      go : (before (given_by S c k) (node_byte S (placed S k).output) t ≡ given_by S c k t) ⊎ Owed S c horizon t k t
          → (get_or st.given k 0 ≡ given_by S c k t) ⊎ ((x : Change) × Memᴰ x dues × (x.position ≡ k))
      go (inl e) = inl (stands.given k (delayed_listed S k l) ∙ e)
      go (inr w) = inr (change_at S c k t, (store.tells_due st.pending stands.held t stands.holds (change_at S c k t)).1 (stands.owing.pending k t w, refl), refl)

  -- the others give what they gave
  pub applied_kept : (k : ℕ) → delayed_count S ≤ k → k < module_count S → get_or (applied_in store S t st).given k 0 ≡ get_or st.given k 0
  applied_kept k l h = applied_at k (get_or st.given k 0) h (λ x m p. let (j, b, e) = due x m in absurd (omega (arith, ap (λ x. x.position) e, p))) (inl refl)
