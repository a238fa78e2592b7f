-- The drive's events of a tick stand together: ticks do not fall, so the events below a tick come before all others. Assumes nothing.
use mathlib.Core.List.{List}
use mathlib.Core.Logic.{◌⊎◌, inl, inr, ⊎_elim}
use mathlib.Core.Path.{◌≡◌, ap}
use Prim.Native.Nat.{ℕ, zero, suc, ◌+◌, ◌-◌, ◌<◌, ◌≤◌}
use native.Mathlib.Nat.{le_refl, le_step, lt_of_lt_of_le, lt_of_le_of_lt, le_of_suc-le-suc, eq-or-lt_of_le, not-suc-le-zero}
use native.Mathlib.Decide.{dec_lt}
use native.Mathlib.Omega.{arith}
use borrow.Author.Tests.{lt-ltb, le-ltb}
use lib.Dec.{ltb}
use lib.ListN.{length, set}
use Rattle.std.specs.Prelude.{if◌then◌else◌}
use Rattle.sheet.specs.declared.Event.{Event}
use Rattle.model.specs.Drive.{event_in, events_below, next_event, driven, drive_tick}
use Rattle.tick.specs.Rest.{Levels, Driving}
use Rattle.tick.proofs.Values.{levels_set}

-- the first e of n events are before tick t, and no other
record Split (tick : ℕ → ℕ) (t n e : ℕ) : Type 0 where
  within : e ≤ n
  before : (a : ℕ) → a < e → tick a < t
  after : (a : ℕ) → e ≤ a → a < n → t ≤ tick a

one_split : {tick : ℕ → ℕ} {t n d e : ℕ} → Split tick t n d → Split tick t n e → d ≡ e
one_split {tick} {t} {n} {d} {e} p q = at (dec_lt d e) (dec_lt e d)
  where
    at : Dec (d < e) → Dec (e < d) → d ≡ e
    at (yes l) k = absurd (omega (arith, q.before d l, p.after d (le_refl d) (lt_of_lt_of_le l q.within)))
    at (no l) (yes k) = absurd (omega (arith, p.before e k, q.after e (le_refl e) (lt_of_lt_of_le k p.within)))
    at (no l) (no k) = omega arith

-- ticks do not fall over the first n events
abbrev Rise : (ℕ → ℕ) → ℕ → Type 0
Rise tick n = (a b : ℕ) → a < b → b < n → tick a ≤ tick b

split_more : {tick : ℕ → ℕ} {t n e : ℕ} → Rise tick (suc n) → Split tick t n e → Split tick t (suc n) (e + (if ltb (tick n) t then 1 else 0))
split_more {tick} {t} {n} {e} rise p = at (dec_lt (tick n) t) (dec_lt e n)
  where
    at : Dec (tick n < t) → Dec (e < n) → Split tick t (suc n) (e + (if ltb (tick n) t then 1 else 0))
    at (yes l) (yes k) = absurd (omega (arith, p.after e (le_refl e) k, rise e n k (le_refl (suc n))))
    at (yes l) (no k) =
        rw (lt-ltb (tick n) t l)
        record { within = omega (arith, p.within); before = λ a h. ⊎_elim (λ (b : a ≡ n). rw b l) (λ (b : a < n). lt_of_le_of_lt (rise a n b (le_refl (suc n))) l) (eq-or-lt_of_le (omega (arith, p.within))); after = λ a h b. absurd (omega (arith, p.within)) }
    at (no l) k =
        rw (le-ltb (tick n) t (omega arith))
        record { within = omega (arith, p.within); before = λ a h. p.before a (omega arith); after = λ a h b. ⊎_elim (λ (q : a ≡ n). rw q (omega arith)) (λ (q : a < n). p.after a (omega arith) q) (eq-or-lt_of_le (le_of_suc-le-suc b)) }

-- past the events of tick t
split_next : {tick : ℕ → ℕ} {t n d e : ℕ} → Rise tick n → Split tick t n d → e ≤ n → d ≤ e → ((a : ℕ) → d ≤ a → a < e → tick a ≡ t) → (e < n → tick e ≡ t → ⊥) → Split tick (suc t) n e
split_next {tick} {t} {n} {d} {e} rise p w f ticks stop = record { within = w; before = λ a h. before a h (dec_lt a d); after = λ a h b. after a b (eq-or-lt_of_le h) (lt_of_le_of_lt h b) }
  where
    before : (a : ℕ) → a < e → Dec (a < d) → tick a < suc t
    before a h (yes l) = omega (arith, p.before a l)
    before a h (no l) = omega (arith, ticks a (omega arith) h)

    after : (a : ℕ) → a < n → (e ≡ a) ⊎ (e < a) → e < n → suc t ≤ tick a
    after a b (inl q) h = rw (← q) (omega (arith, p.after e f h, stop h))
    after a b (inr l) h = omega (arith, p.after e f h, stop h, rise e a l b)

module _ (drive : List Event) where
  abbrev tick_at : ℕ → ℕ
  tick_at a = (event_in drive a).tick

  split : (t n : ℕ) → Rise tick_at n → Split tick_at t n (events_below drive t n)
  unfolding events_below
  split t zero rise = record { within = omega arith; before = λ a h. absurd (not-suc-le-zero h); after = λ a h b. absurd (not-suc-le-zero b) }
  split t (suc n) rise = split_more rise (split t n (λ a b l h. rise a b l (le_step h)))

  -- the first event that is not before tick t is one of the drive, or its end
  pub first_within : (t : ℕ) → Driving drive → next_event drive t ≤ length drive
  first_within t d = (split t (length drive) d.ticks).within

-- the events of tick t from number next up to e are put into the values
pub record Put (drive : List Event) (t next : ℕ) (values₀ : List ℕ) (e : ℕ) (values : List ℕ) : Type 0 where
  pub from : next ≤ e
  pub within : e ≤ length drive
  pub ticks : (a : ℕ) → next ≤ a → a < e → (event_in drive a).tick ≡ t
  pub applied : values ≡ driven drive next (e - next) values₀
  pub levels : Levels values

module _ {drive : List Event} (d : Driving drive) {t next : ℕ} (first : next ≡ next_event drive t) where
  split₀ : Split (tick_at drive) t (length drive) next
  split₀ = rw first (split drive t (length drive) d.ticks)

  pub none-put : {values₀ : List ℕ} → Levels values₀ → Put drive t next values₀ next values₀
  unfolding driven
  none-put l = record { from = le_refl next; within = split₀.within; ticks = λ a h b. absurd (omega arith); applied = rw none; levels = l }
    where
      none : next - next ≡ 0
      none = omega arith

  module _ {values₀ : List ℕ} {e : ℕ} {values : List ℕ} (p : Put drive t next values₀ e values) where
    pub one_put : e < length drive → {x : Event} → event_in drive e ≡ x → x.tick ≡ t → Put drive t next values₀ (e + 1) (set values x.node x.value)
    unfolding driven
    one_put h {x} read q =
        record {
          from = omega (arith, p.from);
          within = omega arith;
          ticks = λ a k b. ⊎_elim (λ (r : a ≡ e). rw (r, read) q) (λ (r : a < e). p.ticks a k r) (eq-or-lt_of_le (omega arith));
          applied = rw (more, there, read) (ap (λ (l : List ℕ). set l x.node x.value) p.applied);
          levels = levels_set p.levels x.node x.value (let v = rw read at (d.values e h) in omega arith);
        }
      where
        more : e + 1 - next ≡ suc (e - next)
        more = omega (arith, p.from)

        there : next + (e - next) ≡ e
        there = omega (arith, p.from)

    pub all_put : (e < length drive → (event_in drive e).tick ≡ t → ⊥) → (e ≡ next_event drive (suc t)) × (values ≡ drive_tick drive t values₀) × Levels values
    all_put stop = (last, rw (← first, ← last) p.applied, p.levels)
      where
        last : e ≡ next_event drive (suc t)
        last = one_split (split_next d.ticks split₀ p.within p.from p.ticks stop) (split drive (suc t) (length drive) d.ticks)
