-- The ends that records get from later ones are those that the cells give: a node's next record stands where the node changes next. Assumes nothing.
use borrow.Author.Tests.{eq-eqb, ne_eqb}
use mathlib.Core.Bool.{Bool, true, false, false≢true}
use mathlib.Core.List.Memᴰ
use mathlib.Core.List.{List, [], ◌∷◌, ◌++◌, map, map-append, Memᴰ}
use mathlib.Core.Logic.{◌⊎◌, inl, inr}
use mathlib.Core.Path.{◌≡◌, refl, sym, ap, ap₂, ◌∙◌}
use native.Mathlib.Omega.{arith}
use Prim.Native.Nat.{ℕ, zero, suc, ◌-◌, ◌<◌, ◌≤◌}
use lib.Dec.{eqb}
use Rattle.std.specs.Prelude.{if◌then◌else◌}
use Rattle.sheet.specs.Enumerate.{each}
use Rattle.sheet.specs.Sheet.{Sheet}
use Rattle.format.specs.Accepted.{Accepted}
use Rattle.network.specs.Timeline.{Cells}
use Rattle.network.specs.Listing.{changes, record_of, records_at, listing}
use Rattle.network.specs.Ends.{first_from, ended_of, ended_listing}
use Rattle.network.proofs.Listing.{listed_shown}
use Rattle.network.proofs.Rising.{Pairs, Up, pairs_of}
use Rattle.listing.specs.Ends.{next_of, with_ends}
use Rattle.listing.proofs.LastRecords.{ends_append, ends_same}

-- a tick's records as the next ones of a node
module _ (c : Cells) (t : ℕ) where
  next_still : (vs : List ℕ) (w end : ℕ) → changes c w t ≡ false → next_of (records_at c t vs) w end ≡ end
  unfolding records_at next_of
  next_still [] w end still = refl
  next_still (v ∷ vs) w end still = at (changes c v t) refl (next_still vs w end still)
    where
      at : (b : Bool) → changes c v t ≡ b → next_of (records_at c t vs) w end ≡ end → next_of (if b then record_of c t v ∷ records_at c t vs else records_at c t vs) w end ≡ end
      at true e rest = rw (ne_eqb v w (λ i. false≢true (sym still ∙ ap (λ v. changes c v t) (sym i) ∙ e))) rest
      at false e rest = rest

  next_changed : (vs : List ℕ) (w end : ℕ) → Memᴰ w vs → changes c w t ≡ true → next_of (records_at c t vs) w end ≡ t
  unfolding records_at next_of
  next_changed [] w end m changed = absurd (Memᴰ.not-nil m)
  next_changed (v ∷ vs) w end m changed = at (changes c v t) refl (Memᴰ.cases_cons m) (λ m. next_changed vs w end m changed)
    where
      same : (w ≡ v) ⊎ Memᴰ w vs → (Memᴰ w vs → next_of (records_at c t vs) w end ≡ t) → next_of (record_of c t v ∷ records_at c t vs) w end ≡ t
      same (inl i) rest = rw (eq-eqb v w (sym i))
      same (inr m) rest = go (eqb v w)
        where
          go : (b : Bool) → (if b then t else next_of (records_at c t vs) w end) ≡ t
          go true = refl
          go false = rest m

      at : (b : Bool) → changes c v t ≡ b → (w ≡ v) ⊎ Memᴰ w vs → (Memᴰ w vs → next_of (records_at c t vs) w end ≡ t)
          → next_of (if b then record_of c t v ∷ records_at c t vs else records_at c t vs) w end ≡ t
      at true e m rest = same m rest
      at false e (inl i) rest = absurd (false≢true (sym e ∙ ap (λ v. changes c v t) (sym i) ∙ changed))
      at false e (inr m) rest = rest m

  -- the node has none among them
  next_apart : (vs : List ℕ) (w end : ℕ) → ((v : ℕ) → Memᴰ v vs → v ≡ w → ⊥) → next_of (records_at c t vs) w end ≡ end
  unfolding records_at next_of
  next_apart [] w end apart = refl
  next_apart (v ∷ vs) w end apart = at (changes c v t) (next_apart vs w end (λ u m. apart u (Memᴰ.tail m)))
    where
      at : (b : Bool) → next_of (records_at c t vs) w end ≡ end → next_of (if b then record_of c t v ∷ records_at c t vs else records_at c t vs) w end ≡ end
      at true rest = rw (ne_eqb v w (apart v (Memᴰ.head refl))) rest
      at false rest = rest

module _ (c : Cells) (bound : ℕ) where
  -- a node's first change from a tick on, or the bound
  abbrev change_from : ℕ → ℕ → ℕ
  change_from t v = first_from (changes c v) t (bound - t)

  change_here : (t : ℕ) → t < bound → (vs : List ℕ) (w : ℕ) → Memᴰ w vs → next_of (records_at c t vs) w (change_from (suc t) w) ≡ change_from t w
  unfolding first_from
  change_here t h vs w m = at (changes c w t) refl ∙ sym (ap (first_from (changes c w) t) more)
    where
      more : bound - t ≡ suc (bound - suc t)
      more = omega arith

      at : (b : Bool) → changes c w t ≡ b → next_of (records_at c t vs) w (change_from (suc t) w) ≡ (if changes c w t then t else change_from (suc t) w)
      at true e = rw e (next_changed c t vs w (change_from (suc t) w) m e)
      at false e = rw e (next_still c t vs w (change_from (suc t) w) e)

  -- a tick's own records
  tick_ends : (t : ℕ) (vs : List ℕ) → Pairs (Up (λ v. v)) vs → with_ends (change_from (suc t)) (records_at c t vs) ≡ map (ended_of c bound) (records_at c t vs)
  unfolding records_at with_ends
  tick_ends t [] p = refl
  tick_ends t (v ∷ vs) p = at (changes c v t) (tick_ends t vs p.1)
    where
      alone : next_of (records_at c t vs) v (change_from (suc t) v) ≡ change_from (suc t) v
      alone = next_apart c t vs v (change_from (suc t) v) (λ u m e. omega (arith, p.0 u m, e))

      at : (b : Bool) → with_ends (change_from (suc t)) (records_at c t vs) ≡ map (ended_of c bound) (records_at c t vs)
          → with_ends (change_from (suc t)) (if b then record_of c t v ∷ records_at c t vs else records_at c t vs) ≡ map (ended_of c bound) (if b then record_of c t v ∷ records_at c t vs else records_at c t vs)
      at true rest = ap₂ (λ e l. record { start = record_of c t v; end = e } ∷ l) alone rest
      at false rest = rest

  module _ (S : Sheet) (acc : Accepted S) where
    -- the ticks below t, where what lasts is ended from t on
    ends_below : (t : ℕ) → t ≤ bound → with_ends (change_from t) (listing S c t) ≡ map (ended_of c bound) (listing S c t)
    unfolding each with_ends
    ends_below zero h = refl
    ends_below (suc t) h =
        ends_append (change_from (suc t)) (listing S c t) (records_at c t S.watched)
        ∙ ap₂ ◌++◌
        (ends_same _ _ (listing S c t) (λ r m. change_here t h S.watched r.node ((listed_shown S c t r).0 m).watched) ∙ ends_below t (omega arith))
        (tick_ends t S.watched (pairs_of (Up (λ v. v)) S.watched 0 acc.watched_rise))
        ∙ sym (map-append (ended_of c bound) (listing S c t) (records_at c t S.watched))

    pub cell_ends : with_ends (λ v. bound) (listing S c bound) ≡ ended_listing S c bound
    unfolding first_from
    cell_ends = ends_same _ _ (listing S c bound) (λ r m. sym (none_left r.node)) ∙ ends_below bound (omega arith)
      where
        none_left : (v : ℕ) → change_from bound v ≡ bound
        none_left v = let none : bound - bound ≡ 0 = omega arith in rw none
