-- What a drive gives at a tick on a node is told by its events alone, whatever their order, where no two events of one tick and node differ in
-- value. Assumes nothing.
use lib.Dec.{eqb}
use mathlib.Core.Bool.{Bool, true, false, ◌&&◌}
use mathlib.Core.List.Memᴰ
use mathlib.Core.List.{List, [], ◌∷◌, Memᴰ}
use mathlib.Core.Logic.{◌↔◌}
use mathlib.Core.Path.{◌≡◌, refl, sym, ap, ◌∙◌}
use Prim.Native.Nat.{ℕ, zero, suc}
use Rattle.level.specs.Examples.{is}
use Rattle.sheet.specs.declared.Event.{Event}
use Rattle.network.specs.Timeline.{given, drive_cell}
use Rattle.sheet.proofs.Tests.{Tells, tells_eq, tells_and, fails}

-- a list has an event at a tick on a node with a value
pub record Gives (l : List Event) (v t x : ℕ) : Type 0 where
  pub event : Event
  pub listed : Memᴰ event l
  pub tick : event.tick ≡ t
  pub node : event.node ≡ v
  pub value : event.value ≡ x

-- what is given is such a value, or there is none
data Given (l : List Event) (v t : ℕ) : Type 0 where
  there : (x : ℕ) → Gives l v t x → ((before : ℕ) → given l v t before ≡ x) → Given l v t
  nothing : ((x : ℕ) → Gives l v t x → ⊥) → ((before : ℕ) → given l v t before ≡ before) → Given l v t

which : (l : List Event) (v t : ℕ) → Given l v t
unfolding given
which [] v t = nothing (λ x g. Memᴰ.not-nil g.listed) (λ before. refl)
which (e ∷ es) v t = go (eqb e.tick t && eqb e.node v) refl (which es v t)
  where
    at : Tells (eqb e.tick t && eqb e.node v) ((e.tick ≡ t) × (e.node ≡ v))
    at = tells_and _ _ (tells_eq e.tick t) (tells_eq e.node v)

    later : ((e.tick ≡ t) × (e.node ≡ v) → ⊥) → ((x : ℕ) → Gives es v t x → ⊥) → (x : ℕ) (d : Event) → Memᴰ d (e ∷ es) → d.tick ≡ t → d.node ≡ v → d.value ≡ x → ⊥
    later n none x d (Memᴰ.head i) h k r = n (ap (λ r. r.tick) (sym i) ∙ h, ap (λ r. r.node) (sym i) ∙ k)
    later n none x d (Memᴰ.tail m) h k r = none x (record { event = d; listed = m; tick = h; node = k; value = r })

    go : (b : Bool) → (eqb e.tick t && eqb e.node v) ≡ b → Given es v t → Given (e ∷ es) v t
    go true p w =
        let h = at.0 p in
        there e.value (record { event = e; listed = Memᴰ.head refl; tick = h.0; node = h.1; value = refl }) (λ before. rw p)
    go false p (there x g is) =
        there x (record { event = g.event; listed = Memᴰ.tail g.listed; tick = g.tick; node = g.node; value = g.value }) (λ before. rw p (is before))
    go false p (nothing none is) =
        nothing (λ x g. later ((fails _ at).0 p) none x g.event g.listed g.tick g.node g.value) (λ before. rw p (is before))

-- two drives and a node in each, with the same events
module _ (l r : List Event) (v w : ℕ) (one : (t x y : ℕ) → Gives l v t x → Gives l v t y → x ≡ y) (same : (t x : ℕ) → Gives l v t x ↔ Gives r w t x) where
  given_same : (t before : ℕ) → given l v t before ≡ given r w t before
  given_same t before = go (which l v t) (which r w t)
    where
      go : Given l v t → Given r w t → given l v t before ≡ given r w t before
      go (there x g is) (there y h also) = is before ∙ one t x y g ((same t y).1 h) ∙ sym (also before)
      go (there x g is) (nothing none also) = absurd (none x ((same t x).0 g))
      go (nothing none is) (there y h also) = absurd (none y ((same t y).1 h))
      go (nothing none is) (nothing no_one also) = is before ∙ sym (also before)

  pub drive_same : (t : ℕ) → drive_cell l v t ≡ drive_cell r w t
  unfolding drive_cell
  drive_same zero = given_same zero _
  drive_same (suc t) = given_same (suc t) (drive_cell l v t) ∙ ap (given r w (suc t)) (drive_same t)
