-- An input's cell is the value of its latest event with a tick at most t, and X where there is none. Assumes nothing.
use lib.Dec.{eqb}
use mathlib.Core.Bool.{Bool, true, false, ◌&&◌}
use mathlib.Core.List.Memᴰ
use mathlib.Core.List.{List, [], ◌∷◌, Memᴰ}
use mathlib.Core.Logic.{◌⊎◌, inl, inr}
use mathlib.Core.Path.{◌≡◌, refl, sym, ◌∙◌, subst}
use native.Mathlib.Decide.{ℕ_discrete}
use native.Mathlib.Omega.{arith}
use Prim.Native.Nat.{ℕ, zero, suc, ◌≤◌, ◌<◌}
use Rattle.std.specs.Prelude.{if◌then◌else◌}
use Rattle.level.specs.Level.{unknown, none}
use Rattle.sheet.specs.Sheet.{event_count, event_of, Sheet, no_event}
use Rattle.sheet.specs.declared.Event.{Event}
use Rattle.format.specs.Accepted.{Accepted}
use Rattle.network.specs.Timeline.{given, drive_cell}
use Rattle.sheet.proofs.Listed.{get_or-mem}
use Rattle.sheet.proofs.Tests.{Tells, tells_eq, tells_and, fails}
use Rattle.network.proofs.Drivable.{drivable}
use Rattle.network.proofs.Rising.{members_all}

-- an event at a tick on a node
abbrev pub On : ℕ → ℕ → Event → Type 0
On v t e = (e.tick ≡ t) × (e.node ≡ v)

pub on_test : (v t : ℕ) (e : Event) → Tells (eqb e.tick t && eqb e.node v) (On v t e)
on_test v t e = tells_and (eqb e.tick t) (eqb e.node v) (tells_eq e.tick t) (tells_eq e.node v)

module _ (v t before : ℕ) where
  given-none : (es : List Event) → ((e : Event) → Memᴰ e es → On v t e → ⊥) → given es v t before ≡ before
  unfolding given
  given-none [] none = refl
  given-none (e ∷ es) none =
      rw ((fails (eqb e.tick t && eqb e.node v) (on_test v t e)).1 (none e (Memᴰ.head refl))) (given-none es (λ f m. none f (Memᴰ.tail m)))

  given_there : (x : ℕ) (es : List Event) → ((f : Event) → Memᴰ f es → On v t f → f.value ≡ x) → (e : Event) → Memᴰ e es → On v t e → given es v t before ≡ x
  unfolding given
  given_there x [] all e m o = absurd (Memᴰ.not-nil m)
  given_there x (f ∷ fs) all e m o = here (eqb f.tick t && eqb f.node v) refl (given_there x fs (λ g i. all g (Memᴰ.tail i)) e) (Memᴰ.cases_cons m)
    where
      here : (b : Bool) → (eqb f.tick t && eqb f.node v) ≡ b → (Memᴰ e fs → On v t e → given fs v t before ≡ x) → (e ≡ f) ⊎ Memᴰ e fs
          → (if b then f.value else given fs v t before) ≡ x
      here true p later i = all f (Memᴰ.head refl) ((on_test v t f).0 p)
      here false p later (inl i) = absurd ((fails (eqb f.tick t && eqb f.node v) (on_test v t f)).0 p (subst (On v t) i o))
      here false p later (inr i) = later i o

-- the node's latest event with a tick at most t
pub record LatestEvent (drive : List Event) (v t : ℕ) (e : Event) : Type 0 where
  pub listed : Memᴰ e drive
  pub node : e.node ≡ v
  pub tick : e.tick ≤ t
  pub none_later : (f : Event) → Memᴰ f drive → f.node ≡ v → e.tick < f.tick → f.tick ≤ t → ⊥

module _ (drive : List Event) (v : ℕ) where
  -- no two events of one tick and node differ in value
  pub latest_value : ((e f : Event) → Memᴰ e drive → Memᴰ f drive → e.tick ≡ f.tick → e.node ≡ f.node → e.value ≡ f.value)
      → (t : ℕ) (e : Event) → LatestEvent drive v t e → drive_cell drive v t ≡ e.value
  unfolding drive_cell
  latest_value one zero e l =
      given_there v zero _ e.value drive (λ f m o. one f e m l.listed (omega (arith, o.0, l.tick)) (o.1 ∙ sym l.node)) e l.listed (omega (arith, l.tick), l.node)
  latest_value one (suc t) e l = now (latest_value one t e) (ℕ_discrete e.tick (suc t))
    where
      now : (LatestEvent drive v t e → drive_cell drive v t ≡ e.value) → Dec (e.tick ≡ suc t) → given drive v (suc t) (drive_cell drive v t) ≡ e.value
      now earlier (yes i) =
          given_there v (suc t) (drive_cell drive v t) e.value drive (λ f m o. one f e m l.listed (o.0 ∙ sym i) (o.1 ∙ sym l.node)) e l.listed (i, l.node)
      now earlier (no d) =
          let b : e.tick ≤ t = omega (arith, l.tick) in
          given-none v (suc t) (drive_cell drive v t) drive (λ f m o. l.none_later f m o.1 (omega (arith, o.0)) (omega (arith, o.0)))
          ∙ earlier (record { listed = l.listed; node = l.node; tick = b; none_later = λ f m n h k. l.none_later f m n h (omega arith) })

  pub never_given : (t : ℕ) → ((e : Event) → Memᴰ e drive → e.node ≡ v → e.tick ≤ t → ⊥) → drive_cell drive v t ≡ unknown
  unfolding drive_cell
  never_given zero none = given-none v zero unknown drive (λ e m o. none e m o.1 (omega (arith, o.0)))
  never_given (suc t) none =
      given-none v (suc t) (drive_cell drive v t) drive (λ e m o. none e m o.1 (omega (arith, o.0)))
      ∙ never_given t (λ e m n h. none e m n (omega arith))

-- of an accepted sheet, by the events' numbers
module _ (S : Sheet) (v t : ℕ) where
  pub input_cell : Accepted S → (k : ℕ) → k < event_count S → (event_of S k).node ≡ v → (event_of S k).tick ≤ t
      → ((j : ℕ) → j < event_count S → (event_of S j).node ≡ v → (event_of S k).tick < (event_of S j).tick → (event_of S j).tick ≤ t → ⊥)
      → drive_cell S.drive v t ≡ (event_of S k).value
  input_cell acc k h n b none =
      latest_value S.drive v (drivable S acc).one_value t (event_of S k)
      (record {
        listed = get_or-mem S.drive k no_event h;
        node = n;
        tick = b;
        none_later = members_all (λ f. f.node ≡ v → (event_of S k).tick < f.tick → f.tick ≤ t → ⊥) S.drive no_event none;
      })

  pub undriven_cell : ((j : ℕ) → j < event_count S → (event_of S j).node ≡ v → (event_of S j).tick ≤ t → ⊥) → drive_cell S.drive v t ≡ unknown
  undriven_cell none = never_given S.drive v t (members_all (λ e. e.node ≡ v → e.tick ≤ t → ⊥) S.drive no_event none)
