-- The changes pending after a tick are listed by module and tick: each pair of a module and a tick above t, at most t + d and below the horizon, at which its contribution changes, once.
-- Assumes nothing.
use lib.Dec.{T, ltb, ltb→lt, lt→ltb}
use mathlib.Core.Bool.{Bool, true, false, ◌&&◌}
use mathlib.Core.List.Memᴰ
use mathlib.Core.List.{List, [], ◌∷◌, Memᴰ}
use mathlib.Core.Logic.{◌↔◌}
use mathlib.Core.Path.{◌≡◌, sym, ap, ◌∙◌, subst}
use native.Mathlib.Omega.{arith}
use Prim.Native.Nat.{ℕ, suc, ◌+◌, ◌-◌, ◌≤◌, ◌<◌}
use Rattle.std.specs.Prelude.{if◌then◌else◌}
use Rattle.sheet.specs.Sheet.{Sheet, module_count, module_of}
use Rattle.sheet.proofs.Each.{each-mem}
use Rattle.network.specs.Timeline.{Cells, contributions}
use Rattle.network.specs.Listing.{changes, Pending, pending_of, pending}
use Rattle.network.proofs.Rising.{Pairs, pairs_each}
use Rattle.model.proofs.Matched.{Apart}

pub record IsPending (S : Sheet) (c : Cells) (horizon t : ℕ) (q : Pending) : Type 0 where
  pub listed : q.driver < module_count S
  pub above : t < q.due
  pub at_most : q.due ≤ t + (module_of S q.driver).delay
  pub below : q.due < horizon
  pub differs : T (changes (contributions S c) q.driver q.due)

-- what stands there if a test passes
if_mem : {A : Type 0} {x q : A} (b : Bool) → Memᴰ q (if b then x ∷ [] else []) ↔ (T b × (q ≡ x))
if_mem true = (λ m. (tt, Memᴰ.eq_of_singleton m), λ p. Memᴰ.head p.1)
if_mem false = (λ m. absurd (Memᴰ.not-nil m), λ p. absurd p.0)

if_pairs : {A : Type 0} (R : A → A → Type 0) (x : A) (b : Bool) → Pairs R (if b then x ∷ [] else [])
if_pairs R x true = (λ b i. absurd (Memᴰ.not-nil i), tt)
if_pairs R x false = tt

both : (a b : Bool) → T (a && b) ↔ (T a × T b)
both true b = (λ h. (tt, h), λ h. h.1)
both false b = (λ h. absurd h, λ h. h.0)

module _ (S : Sheet) (c : Cells) (horizon t : ℕ) where
  -- module m, so many ticks from now
  abbrev tested : ℕ → ℕ → Bool
  tested m k = ltb (t + suc k) horizon && changes (contributions S c) m (t + suc k)

  abbrev at : ℕ → ℕ → List Pending
  at m k = if tested m k then record { driver = m; due = t + suc k } ∷ [] else []

  of_mem : (m : ℕ) (q : Pending) → Memᴰ q (pending_of S c horizon t m) → (k : ℕ) × (k < (module_of S m).delay) × Memᴰ q (at m k)
  of_mem m q i = (each-mem (module_of S m).delay (at m)).0 i

  pub is-pending : (q : Pending) → Memᴰ q (pending S c horizon t) → IsPending S c horizon t q
  is-pending q i =
      let (m, h, j) = (each-mem (module_count S) (pending_of S c horizon t)).0 i in
      let (k, l, n) = of_mem m q j in
      let (p, e) = (if_mem (tested m k)).0 n in
      let (b, d) = (both (ltb (t + suc k) horizon) _).0 p in
      rw e (record { listed = h; above = omega arith; at_most = omega arith; below = ltb→lt (t + suc k) horizon b; differs = d })

  pub pending-is : (q : Pending) → IsPending S c horizon t q → Memᴰ q (pending S c horizon t)
  pending-is q p =
      let due : q.due ≡ t + suc (q.due - suc t) = omega (arith, p.above) in
      (each-mem (module_count S) (pending_of S c horizon t)).1 (
        q.driver,
        p.listed,
        (each-mem (module_of S q.driver).delay (at q.driver)).1 (
          q.due - suc t,
          omega (arith, p.above, p.at_most),
          (if_mem (tested q.driver (q.due - suc t))).1
              (subst (λ u. T (ltb u horizon && changes (contributions S c) q.driver u)) due ((both (ltb q.due horizon) _).1 (lt→ltb q.due horizon p.below, p.differs)), ap (λ u. record { driver = q.driver; due = u }) due),
        ),
      )

  pub pending_pairs : Pairs Apart (pending S c horizon t)
  pending_pairs = pairs_each Apart (module_count S) (pending_of S c horizon t) of_pairs other_module
    where
      is : (m k : ℕ) (q : Pending) → Memᴰ q (at m k) → q ≡ record { driver = m; due = t + suc k }
      is m k q i = ((if_mem (tested m k)).0 i).1

      driver : (m : ℕ) (q : Pending) → Memᴰ q (pending_of S c horizon t m) → q.driver ≡ m
      driver m q i = let (k, l, n) = of_mem m q i in ap (λ q. q.driver) (is m k q n)

      other_module : (i j : ℕ) → i < j → (a b : Pending) → Memᴰ a (pending_of S c horizon t i) → Memᴰ b (pending_of S c horizon t j) → a ≡ b → ⊥
      other_module i j l a b m n e = omega (arith, driver i a m, driver j b n, ap (λ q. q.driver) e)

      of_pairs : (m : ℕ) → Pairs Apart (pending_of S c horizon t m)
      of_pairs m =
          pairs_each Apart (module_of S m).delay (at m) (λ k. if_pairs Apart _ (tested m k))
          (λ i j l a b x y e. omega (arith, ap (λ q. q.due) (sym (is m i a x) ∙ e ∙ is m j b y)))
