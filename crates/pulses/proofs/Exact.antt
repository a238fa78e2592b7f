-- What the records of a whole listing show is every pulse shorter than the width and no other, each once, rising. Assumes nothing.
use lib.Dec.{T, eqb, ltb, not_T, eqb→eq}
use mathlib.Core.Bool.{Bool, true, false, ◌&&◌, true≢false}
use mathlib.Core.List.Memᴰ
use mathlib.Core.List.{List, [], ◌∷◌, flat_map, Memᴰ}
use mathlib.Core.Logic.{◌↔◌, ◌⊎◌, inl, inr}
use mathlib.Core.Path.{◌≡◌, refl, sym, ap, ◌∙◌, subst}
use native.Mathlib.Nat.{add-zero, not-suc-le-zero}
use native.Mathlib.Omega.{arith}
use Prim.Native.Nat.{ℕ, zero, suc, ◌+◌, ◌-◌, ◌<◌, zero-le, suc-le-suc}
use Rattle.std.specs.Prelude.{if◌then◌else◌}
use Rattle.sheet.specs.Sheet.{Sheet}
use Rattle.sheet.proofs.Tests.{Tells, tells_lt, tells_and}
use Rattle.network.specs.Timeline.{Cells}
use Rattle.network.specs.Listing.{changes}
use Rattle.network.specs.Ends.{Ended, ended_key}
use Rattle.network.specs.Demand2.{ShownUntil, Lists}
use Rattle.network.proofs.Ends.{differs}
use Rattle.network.proofs.Rising.{Pairs, Up, rising_pairs, pairs_at, pairs_append}
use Rattle.pulses.specs.Pulse.{Pulse, pulse_key, IsShort, Pulses, to_report, pulse_of}
use Rattle.pulses.specs.InListing.{pulse_in}
use Rattle.pulses.proofs.Records.{shown}

module _ (horizon width : ℕ) where
  -- what the test of a stretch tells
  reported : (start end : ℕ) → Tells (to_report horizon width start end) (((0 < start) × (end < horizon)) × (end - start < width))
  reported start end = tells_and (ltb 0 start && ltb end horizon) _ (tells_and (ltb 0 start) _ (tells_lt 0 start) (tells_lt end horizon)) (tells_lt (end - start) width)

  -- a record shows a pulse: it passes the test, and the pulse is its stretch
  abbrev pub Shows : Ended → Pulse → Type 0
  Shows r p = (to_report horizon width r.start.tick r.end ≡ true) × (p ≡ pulse_of r.start.tick r.start.node r.end)

  shows : {p : Pulse} (r : Ended) → Memᴰ p (pulse_in horizon width r) ↔ Shows r p
  shows {p} r = (from (to_report horizon width r.start.tick r.end) refl, to (to_report horizon width r.start.tick r.end) refl)
    where
      only : (p ≡ pulse_of r.start.tick r.start.node r.end) ⊎ Memᴰ p [] → p ≡ pulse_of r.start.tick r.start.node r.end
      only (inl e) = e
      only (inr m) = absurd (Memᴰ.not-nil m)

      from : (b : Bool) → to_report horizon width r.start.tick r.end ≡ b → Memᴰ p (if b then pulse_of r.start.tick r.start.node r.end ∷ [] else []) → Shows r p
      from true e m = (e, only (Memᴰ.cases_cons m))
      from false e m = absurd (Memᴰ.not-nil m)

      to : (b : Bool) → to_report horizon width r.start.tick r.end ≡ b → Shows r p → Memᴰ p (if b then pulse_of r.start.tick r.start.node r.end ∷ [] else [])
      to true e h = Memᴰ.head h.1
      to false e h = absurd (true≢false (sym h.0 ∙ e))

  pub shown_mem : {p : Pulse} (records : List Ended) → Memᴰ p (shown horizon width records) ↔ ((r : Ended) × Memᴰ r records × Shows r p)
  unfolding flat_map
  shown_mem [] = (λ m. absurd (Memᴰ.not-nil m), λ h. absurd (Memᴰ.not-nil h.1))
  shown_mem {p} (r ∷ rs) = (λ m. from (shown_mem rs).0 (Memᴰ.append_cases (pulse_in horizon width r) m), λ h. to (shown_mem rs).1 h (Memᴰ.cases_cons h.1))
    where
      from : (Memᴰ p (shown horizon width rs) → (q : Ended) × Memᴰ q rs × Shows q p) → Memᴰ p (pulse_in horizon width r) ⊎ Memᴰ p (shown horizon width rs)
          → (q : Ended) × Memᴰ q (r ∷ rs) × Shows q p
      from later (inl m) = (r, Memᴰ.head refl, (shows r).0 m)
      from later (inr m) = let h = later m in (h.0, Memᴰ.tail h.1, h.2)

      to : ((q : Ended) × Memᴰ q rs × Shows q p → Memᴰ p (shown horizon width rs)) → (h : (q : Ended) × Memᴰ q (r ∷ rs) × Shows q p) → (h.0 ≡ r) ⊎ Memᴰ h.0 rs
          → Memᴰ p (flat_map (pulse_in horizon width) (r ∷ rs))
      to later h (inl e) = Memᴰ.append_left (shown horizon width rs) ((shows r).1 (subst (λ q. Shows q p) e h.2))
      to later h (inr m) = Memᴰ.append_right (pulse_in horizon width r) (later (h.0, m, h.2))

  -- pulses rise as their records do
  shown_rise : (records : List Ended) → Pairs (Up ended_key) records → Pairs (Up pulse_key) (shown horizon width records)
  unfolding flat_map
  shown_rise [] p = tt
  shown_rise (r ∷ rs) p = pairs_append (Up pulse_key) (pulse_in horizon width r) (shown horizon width rs) (one (to_report horizon width r.start.tick r.end)) (shown_rise rs p.1) later
    where
      one : (b : Bool) → Pairs (Up pulse_key) (if b then pulse_of r.start.tick r.start.node r.end ∷ [] else [])
      one true = (λ b m. absurd (Memᴰ.not-nil m), tt)
      one false = tt

      later : (a b : Pulse) → Memᴰ a (pulse_in horizon width r) → Memᴰ b (shown horizon width rs) → pulse_key a < pulse_key b
      later a b m n =
          let h = (shown_mem rs).0 n in
          let i = ap pulse_key ((shows r).0 m).1 in
          let j = ap pulse_key h.2.1 in
          omega (arith, p.0 h.0 h.1, i, j)

-- a node's cells around a stretch
module _ (c : Cells) (v : ℕ) where
  starts_at : (t : ℕ) → 0 < t → T (changes c v t) → c t v ≡ c (t - 1) v → ⊥
  starts_at zero h d e = absurd (not-suc-le-zero h)
  starts_at (suc t) h d e = let back : suc t - 1 ≡ t = omega arith in differs c v t d (e ∙ ap (λ i. c i v) back)

  change_at : (t : ℕ) → (c t v ≡ c (t - 1) v → ⊥) → T (changes c v t)
  change_at zero h = tt
  change_at (suc t) h =
      let back : t ≡ suc t - 1 = omega arith in
      not_T (eqb (c (suc t) v) (c t v)) (λ e. h (eqb→eq (c (suc t) v) (c t v) e ∙ ap (λ i. c i v) back))

  -- a stretch that is ended has a cell
  some_ticks : (t n : ℕ) → (c (t + n) v ≡ c t v → ⊥) → 0 < n
  some_ticks t zero h = absurd (h (rw add-zero))
  some_ticks t (suc n) h = suc-le-suc zero-le

module _ (S : Sheet) (c : Cells) (horizon width : ℕ) where
  -- a record of the listing that shows a pulse
  short_of : (r : Ended) → ShownUntil S c horizon r → ((0 < r.start.tick) × (r.end < horizon)) × (r.end - r.start.tick < width)
      → IsShort S c horizon width (pulse_of r.start.tick r.start.node r.end)
  short_of r u h =
      let t = r.start.tick in
      let v = r.start.node in
      let L = u.end in
      let whole : t + (r.end - t) ≡ r.end = omega (arith, L.later) in
      let last : c (r.end - 1) v ≡ c t v = L.same (r.end - 1) (omega (arith, L.later)) (omega (arith, L.later)) in
      record {
        pulse =
            record {
              after_first = h.0.0;
              starts = starts_at c v t h.0.0 u.start.change;
              equal = λ k l. L.same (t + k) (omega arith) (omega arith);
              ended = λ e. starts_at c v r.end (omega (arith, L.later)) (L.change h.0.1) (ap (λ i. c i v) (sym whole) ∙ e ∙ sym last);
              below = omega (arith, whole, h.0.1);
            };
        watched = u.start.watched;
        shorter = h.1;
      }

  -- and the record that shows a pulse
  abbrev record_shown : Pulse → Ended
  record_shown p = record { start = record { tick = p.start; node = p.node; value = c p.start p.node }; end = p.start + p.ticks }

  shown_by : (p : Pulse) → IsShort S c horizon width p → ShownUntil S c horizon (record_shown p)
  shown_by p h =
      let t = p.start in
      let v = p.node in
      let P = h.pulse in
      let some : 0 < p.ticks = some_ticks c v t p.ticks P.ended in
      let before : t + (p.ticks - 1) ≡ t + p.ticks - 1 = omega (arith, some) in
      let last : c (t + p.ticks - 1) v ≡ c t v = ap (λ i. c i v) (sym before) ∙ P.equal (p.ticks - 1) (omega (arith, some)) in
      record {
        start = record { below = omega (arith, P.below); watched = h.watched; change = change_at c v t P.starts; value = refl };
        end =
            record {
              later = omega (arith, some);
              within = omega (arith, P.below);
              same = λ u l k. let here : t + (u - t) ≡ u = omega arith in ap (λ i. c i v) (sym here) ∙ P.equal (u - t) (omega arith);
              change = λ b. change_at c v (t + p.ticks) (λ e. P.ended (e ∙ last));
            };
      }

  pub exact : (records : List Ended) → Lists S c horizon records → Pulses S c horizon width (shown horizon width records)
  exact records L =
      record {
        short = λ p m.
            let h = (shown_mem horizon width records).0 m in
            subst (IsShort S c horizon width) (sym h.2.1) (short_of h.0 (L.shown h.0 h.1) ((reported horizon width h.0.start.tick h.0.end).0 h.2.0));
        all = λ p h.
            let ticks-are : p.start + p.ticks - p.start ≡ p.ticks = omega arith in
            (shown_mem horizon width records).1 (
              record_shown p,
              L.all (record_shown p) (shown_by p h),
              ((reported horizon width p.start (p.start + p.ticks)).1 ((h.pulse.after_first, h.pulse.below), rw ticks-are h.shorter), λ i. record { start = p.start; node = p.node; ticks = sym ticks-are i }),
            );
        rise = pairs_at (Up pulse_key) (shown horizon width records) (shown_rise horizon width records (rising_pairs ended_key records L.rise));
      }
