-- A memory holds: tick by tick, what a module comes to is its rule over the inputs' cells and what it came to the tick before; and the tick that a memory
-- reads is the greatest at which its second input's cell is in its set. Assumes nothing.
use lib.ListN.{set}
use mathlib.Core.Bool.{Bool, true, false, true≢false}
use mathlib.Core.List.{List}
use mathlib.Core.Logic.{◌↔◌}
use mathlib.Core.Path.{◌≡◌, refl, sym, ap, ◌∙◌, subst}
use native.Mathlib.Decide.{dec_lt, ℕ_discrete}
use native.Mathlib.Omega.{arith}
use Prim.Native.Nat.{ℕ, zero, suc, ◌≤◌, ◌<◌}
use Rattle.std.specs.Prelude.{if◌then◌else◌}
use Rattle.level.specs.Gate.{input_at}
use Rattle.level.specs.Level.{none}
use Rattle.level.specs.Rule.{Rule, hold, comes_to, gate}
use Rattle.network.specs.Timeline.{Timeline, Latest, never, at, latest, cell_at, comes_to_at}

module _ (a : ℕ → List ℕ) (initial : ℕ) where
  first : Timeline
  first w = input_at (a w) 0

  held : (w : ℕ) (l : Latest) (x : Bool) → cell_at first initial (if x then at w else l) ≡ (if x then first w else cell_at first initial l)
  held w l true = refl
  held w l false = refl

  pub at_start : (rule : Rule) → comes_to_at rule a initial 0 ≡ comes_to rule (a 0) initial
  unfolding latest first
  at_start (gate n f) = refl
  at_start (hold set) = held 0 never (set (input_at (a 0) 1))

  pub recurrence : (rule : Rule) (u : ℕ) → comes_to_at rule a initial (suc u) ≡ comes_to rule (a (suc u)) (comes_to_at rule a initial u)
  unfolding latest first
  recurrence (gate n f) u = refl
  recurrence (hold set) u = held (suc u) (latest (λ w. set (input_at (a w) 1)) u) (set (input_at (a (suc u)) 1))

  -- of a memory: this tick's value, or what was held
  pub memory : (set : ℕ → Bool) (u : ℕ)
      → comes_to_at (hold set) a initial (suc u) ≡ (if set (input_at (a (suc u)) 1) then input_at (a (suc u)) 0 else comes_to_at (hold set) a initial u)
  memory set u = recurrence (hold set) u

-- the greatest tick not above u at which the test passes
pub record Greatest (test : ℕ → Bool) (u w : ℕ) : Type 0 where
  pub not_above : w ≤ u
  pub passes : test w ≡ true
  pub none_between : (k : ℕ) → w < k → k ≤ u → test k ≡ false

abbrev pub NonePasses : (ℕ → Bool) → ℕ → Type 0
NonePasses test u = (k : ℕ) → k ≤ u → test k ≡ false

module _ (test : ℕ → Bool) where
  Found : ℕ → Latest → Type 0
  Found u never = NonePasses test u
  Found u (at w) = Greatest test u w

  -- none passes at one tick more
  one_more : (u : ℕ) → test (suc u) ≡ false → (k : ℕ) → k ≤ suc u → (k ≤ u → test k ≡ false) → test k ≡ false
  one_more u e k h before = last (ℕ_discrete k (suc u))
    where
      last : Dec (k ≡ suc u) → test k ≡ false
      last (yes z) = ap test z ∙ e
      last (no d) = before (omega arith)

  found : (u : ℕ) → Found u (latest test u)
  unfolding latest Found
  found zero = first (test zero) refl
    where
      first : (x : Bool) → test zero ≡ x → Found zero (if x then at zero else never)
      first true e = record { not_above = omega arith; passes = e; none_between = λ k h l. absurd (omega arith) }
      first false e = λ k h. let z : k ≡ 0 = omega arith in ap test z ∙ e
  found (suc u) = now (test (suc u)) refl (latest test u) (found u)
    where
      now : (x : Bool) → test (suc u) ≡ x → (l : Latest) → Found u l → Found (suc u) (if x then at (suc u) else l)
      now true e l before = record { not_above = omega arith; passes = e; none_between = λ k h b. absurd (omega arith) }
      now false e never before = λ k h. one_more u e k h (before k)
      now false e (at w) before =
          record { not_above = omega (arith, before.not_above); passes = before.passes; none_between = λ k h b. one_more u e k b (before.none_between k h) }

  one_greatest : (u w x : ℕ) → Greatest test u w → Greatest test u x → w ≡ x
  one_greatest u w x g h = order (dec_lt w x) (dec_lt x w)
    where
      order : Dec (w < x) → Dec (x < w) → w ≡ x
      order (yes l) d = absurd (true≢false (sym h.passes ∙ g.none_between x l h.not_above))
      order (no n) (yes l) = absurd (true≢false (sym g.passes ∙ h.none_between w l g.not_above))
      order (no n) (no d) = omega arith

  pub latest_at : (u w : ℕ) → (latest test u ≡ at w) ↔ Greatest test u w
  unfolding Found
  latest_at u w = (λ e. subst (Found u) e (found u), λ g. which (latest test u) (found u) g)
    where
      which : (l : Latest) → Found u l → Greatest test u w → l ≡ at w
      which never none g = absurd (true≢false (sym g.passes ∙ none w g.not_above))
      which (at x) f g = ap at (one_greatest u x w f g)

  pub latest_never : (u : ℕ) → (latest test u ≡ never) ↔ NonePasses test u
  unfolding Found
  latest_never u = (λ e. subst (Found u) e (found u), λ none. which (latest test u) (found u) none)
    where
      which : (l : Latest) → Found u l → NonePasses test u → l ≡ never
      which never f none = refl
      which (at x) f none = absurd (true≢false (sym f.passes ∙ none x f.not_above))
