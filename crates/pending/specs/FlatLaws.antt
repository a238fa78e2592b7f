-- The flat list is a store: its laws. Assumes nothing.
use Rattle.std.specs.Prelude.{Bool, ℕ, suc, length, if◌then◌else◌}
use Rattle.std.proofs.Math.Bool.{true, false}
use mathlib.Core.List.Memᴰ
use mathlib.Core.List.{List, [], ◌∷◌, ◌++◌, Memᴰ}
use Rattle.std.proofs.Math.Path.{◌≡◌, refl, ap}
use Rattle.std.proofs.Common.{sym, ◌∙◌, arith}
use borrow.Author.Tests.{eqb-true, eq-eqb}
use Rattle.std.proofs.Math.Dec.{eqb}
use Rattle.model.specs.Change.{Change, not_due}
use Rattle.model.specs.Store.{Store, Keepable}
use Rattle.pending.specs.Flat.{Packable, FlatHolds, none, one, packed, unpacked, flat_put, flat_due, flat_rest}

pub told : {x : Change} → Packable x → unpacked (packed x) ≡ x
told {x} p =
    let d : (unpacked (packed x)).due ≡ x.due = omega arith in
    let k : (unpacked (packed x)).position ≡ x.position = omega arith in
    let v : (unpacked (packed x)).value ≡ x.value = omega arith in
    λ i. record { due = d i; position = k i; value = v i }

pub packable : {t : ℕ} {x : Change} → Keepable t x → Packable x
packable w = record { position = w.position; value = omega arith }

pub flat_put_lem : {k : List ℕ} {held : List Change} → FlatHolds k held → {x : Change} → Packable x → FlatHolds (flat_put k x) (held ++ x ∷ [])
flat_put_lem none p = one p none
flat_put_lem (one q h) p = one q (flat_put_lem h p)

module _ (t : ℕ) where
  due_one : {x : Change} → Packable x → (k : List ℕ) → flat_due (packed x ∷ k) t ≡ (if eqb x.due t then x ∷ flat_due k t else flat_due k t)
  unfolding flat_due
  due_one p k = ap (λ (y : Change). if eqb y.due t then y ∷ flat_due k t else flat_due k t) (told p)

  rest_one : {x : Change} → Packable x → (k : List ℕ)
      → flat_rest (packed x ∷ k) t ≡ (if eqb x.due t then flat_rest k t else packed x ∷ flat_rest k t)
  unfolding flat_rest
  rest_one {x} p k = ap (λ (y : Change). if eqb y.due t then flat_rest k t else packed x ∷ flat_rest k t) (told p)

  pub due_held : {k : List ℕ} {held : List Change} → FlatHolds k held
      → {x : Change} → Memᴰ x (flat_due k t) → Memᴰ x held × (x.due ≡ t)
  unfolding flat_due
  due_held none m = absurd (Memᴰ.not-nil m)
  due_held (one {x = y} {k = k} {held = held} p h) {x} m = go (eqb y.due t) refl (λ n. due_held h n) (rw (due_one p k) at m)
    where
      go : (b : Bool) → eqb y.due t ≡ b → (Memᴰ x (flat_due k t) → Memᴰ x held × (x.due ≡ t))
          → Memᴰ x (if b then y ∷ flat_due k t else flat_due k t) → Memᴰ x (y ∷ held) × (x.due ≡ t)
      go true e later (Memᴰ.head i) = (Memᴰ.head i, ap (λ (z : Change). z.due) i ∙ eqb-true y.due t e)
      go true e later (Memᴰ.tail n) = (Memᴰ.tail (later n).0, (later n).1)
      go false e later n = (Memᴰ.tail (later n).0, (later n).1)

  pub held_due : {k : List ℕ} {held : List Change} → FlatHolds k held
      → {x : Change} → Memᴰ x held → x.due ≡ t → Memᴰ x (flat_due k t)
  held_due none m d = absurd (Memᴰ.not-nil m)
  held_due (one {x = y} {k = k} p h) (Memᴰ.head i) d =
      rw (due_one p k, eq-eqb y.due t (ap (λ (z : Change). z.due) (sym i) ∙ d)) (Memᴰ.head i)
  held_due (one {x = y} {k = k} p h) {x} (Memᴰ.tail m) d = rw (due_one p k) (go (eqb y.due t) (held_due h m d))
    where
      go : (b : Bool) → Memᴰ x (flat_due k t) → Memᴰ x (if b then y ∷ flat_due k t else flat_due k t)
      go true n = Memᴰ.tail n
      go false n = n

  pub flat_rest_lem : {k : List ℕ} {held : List Change} → FlatHolds k held → FlatHolds (flat_rest k t) (not_due t held)
  unfolding flat_rest not_due
  flat_rest_lem none = none
  flat_rest_lem (one {x = x} {k = k} {held = held} p h) = rw (rest_one p k) (go (eqb x.due t) (flat_rest_lem h))
    where
      go : (b : Bool) → FlatHolds (flat_rest k t) (not_due t held)
          → FlatHolds (if b then flat_rest k t else packed x ∷ flat_rest k t) (if b then not_due t held else x ∷ not_due t held)
      go true n = n
      go false n = one p n

  pub none_due : (k : List ℕ) → flat_due k t ≡ [] → flat_rest k t ≡ k
  unfolding flat_due flat_rest
  none_due [] e = refl
  none_due (p ∷ k) e = go (eqb (unpacked p).due t) (none_due k) e
    where
      go : (b : Bool) → (flat_due k t ≡ [] → flat_rest k t ≡ k) → (if b then unpacked p ∷ flat_due k t else flat_due k t) ≡ []
          → (if b then flat_rest k t else p ∷ flat_rest k t) ≡ p ∷ k
      go true later e = let z : ◌≡◌ {A = ℕ} 0 1 = cc in absurd (omega arith)
      go false later e = ap (λ (l : List ℕ). p ∷ l) (later e)

pub flat_count : {k : List ℕ} {held : List Change} → FlatHolds k held → length k ≡ length held
flat_count none = refl
flat_count (one p h) = ap suc (flat_count h)

abbrev pub flat : Store
flat =
    record {
      Kept = List ℕ;
      Holds = FlatHolds;
      nothing = [];
      put = flat_put;
      due = flat_due;
      rest = flat_rest;
      count = length;
      holds_nothing = none;
      holds_put = λ k held t x h f. flat_put_lem h (packable f.keepable);
      tells_due = λ k held t h x. (due_held t h, λ m. held_due t h m.0 m.1);
      holds_rest = λ k held t h. flat_rest_lem t h;
      rest_same = λ k held t h e. none_due t k e;
      counts = λ k held h. flat_count h;
    }
