-- A count's or record's first byte determines it: its size, its range and its number in its section. Assumes nothing.
use lib.ListN.{get_or}
use mathlib.Core.List.{List, [], ◌∷◌}
use mathlib.Core.Path.{◌≡◌, refl, sym, ◌∙◌, ap}
use native.Mathlib.Nat.{le_refl, le_trans, le_antisymm, not-le_of_lt, mul-le-mul_left, mul-suc}
use native.Mathlib.Decide.{le_ind}
use native.Mathlib.Omega.{arith}
use Prim.Native.Nat.{ℕ, zero, suc, ◌+◌, ◌*◌, ◌<◌, ◌≤◌}
use Rattle.sheet.specs.declared.Edition.{Edition}
use Rattle.sheet.specs.Limits.{least_nodes, most_nodes, most_modules, most_events, most_watched}
use Rattle.sheet.specs.Layout.{count_size, event_size, modules_place, drive_place, event_place, watched_place, watch_place, sheet_end}
use Rattle.sheet.proofs.Tests.{at_most}
use Rattle.format.specs.Condition.{Count, of_nodes, of_modules, of_drive, of_watched, Part, a_count, a_node, a_module, an_event, a_watched}

-- where the counts and the records of each section begin, front to back
abbrev begins : Edition → List ℕ → ℕ → ℕ
begins E s z = get_or (0 ∷ count_size ∷ modules_place s ∷ (modules_place s + count_size) ∷ drive_place E s ∷ (drive_place E s + count_size) ∷ watched_place E s ∷ (watched_place E s + count_size) ∷ []) z (sheet_end E s)

begins_next : (E : Edition) (s : List ℕ) (z : ℕ) → begins E s z ≤ begins E s (suc z)
begins_next E s zero = omega arith
begins_next E s (suc zero) = omega arith
begins_next E s (suc (suc zero)) = omega arith
begins_next E s (suc (suc (suc zero))) = omega arith
begins_next E s (suc (suc (suc (suc zero)))) = omega arith
begins_next E s (suc (suc (suc (suc (suc zero))))) = omega arith
begins_next E s (suc (suc (suc (suc (suc (suc zero)))))) = omega arith
begins_next E s (suc (suc (suc (suc (suc (suc (suc zero))))))) = omega arith
begins_next E s (suc (suc (suc (suc (suc (suc (suc (suc z)))))))) = omega arith

begins_later : (E : Edition) (s : List ℕ) (a b : ℕ) → a ≤ b → begins E s a ≤ begins E s b
begins_later E s a b h = le_ind (λ b. begins E s a ≤ begins E s b) (le_refl (begins E s a)) (λ b h l. le_trans l (begins_next E s b)) b h

-- the place lies in a stretch, at which something has this value
record Lies {A : Type 0} (E : Edition) (s : List ℕ) (f : ℕ → A) (p : ℕ) (value : A) : Type 0 where
  stretch : ℕ
  from : begins E s stretch ≤ p
  to : p < begins E s (suc stretch)
  is : value ≡ f stretch

not_after : {A : Type 0} {E : Edition} {s : List ℕ} {f : ℕ → A} {p : ℕ} {a b : A} → (l : Lies E s f p a) (k : Lies E s f p b) → l.stretch ≤ k.stretch
not_after {E} {s} l k = at_most (λ later. not-le_of_lt k.to (le_trans (begins_later E s (suc k.stretch) l.stretch later) l.from))

same_value : {A : Type 0} {E : Edition} {s : List ℕ} {f : ℕ → A} {p : ℕ} {a b : A} → Lies E s f p a → Lies E s f p b → a ≡ b
same_value {f} l k = l.is ∙ ap f (le_antisymm (not_after l k) (not_after k l)) ∙ sym k.is

-- records of some size stand one after the other
pub record_before : (E : Edition) → 0 < E.size → (a b : ℕ) → a < b → E.size * a < E.size * b
record_before E some a b h = omega (arith, mul-le-mul_left E.size h, mul-suc E.size a)

-- the size, by the stretches
sizes : Edition → ℕ → ℕ
sizes E z = get_or (count_size ∷ 1 ∷ count_size ∷ E.size ∷ count_size ∷ event_size ∷ count_size ∷ 1 ∷ []) z 0

size_lies : {E : Edition} {s : List ℕ} {p size : ℕ} → 0 < E.size → Part E s p size → Lies E s (sizes E) p size
unfolding sizes
size_lies some (a_count of_nodes) = record { stretch = 0; from = omega arith; to = omega arith; is = refl }
size_lies some (a_count of_modules) = record { stretch = 2; from = omega arith; to = omega arith; is = refl }
size_lies some (a_count of_drive) = record { stretch = 4; from = omega arith; to = omega arith; is = refl }
size_lies some (a_count of_watched) = record { stretch = 6; from = omega arith; to = omega arith; is = refl }
size_lies some (a_node v h) = record { stretch = 1; from = omega arith; to = omega arith; is = refl }
size_lies {E} some (a_module m h) = record { stretch = 3; from = omega arith; to = omega (arith, some, record_before E some m _ h); is = refl }
size_lies some (an_event e h) = record { stretch = 5; from = omega arith; to = omega arith; is = refl }
size_lies some (a_watched k h) = record { stretch = 7; from = omega arith; to = omega arith; is = refl }

pub same_size : {E : Edition} {s : List ℕ} {p a b : ℕ} → 0 < E.size → Part E s p a → Part E s p b → a ≡ b
same_size some a b = same_value (size_lies some a) (size_lies some b)

-- a count's range
ranges : ℕ → ℕ × ℕ
ranges z = get_or ((least_nodes, most_nodes) ∷ (0, 0) ∷ (0, most_modules) ∷ (0, 0) ∷ (0, most_events) ∷ (0, 0) ∷ (0, most_watched) ∷ []) z (0, 0)

range_lies : {E : Edition} {s : List ℕ} {p least greatest : ℕ} → Count E s p least greatest → Lies E s ranges p (least, greatest)
unfolding ranges
range_lies of_nodes = record { stretch = 0; from = omega arith; to = omega arith; is = refl }
range_lies of_modules = record { stretch = 2; from = omega arith; to = omega arith; is = refl }
range_lies of_drive = record { stretch = 4; from = omega arith; to = omega arith; is = refl }
range_lies of_watched = record { stretch = 6; from = omega arith; to = omega arith; is = refl }

pub same_range : {E : Edition} {s : List ℕ} {p a b c d : ℕ} → Count E s p a b → Count E s p c d → Path (ℕ × ℕ) (a, b) (c, d)
same_range a b = same_value (range_lies a) (range_lies b)

-- a record's number in its section
pub same_event : (E : Edition) (s : List ℕ) (a b : ℕ) → event_place E s a ≡ event_place E s b → a ≡ b
same_event E s a b e = omega arith

pub same_watched : (E : Edition) (s : List ℕ) (a b : ℕ) → watch_place E s a ≡ watch_place E s b → a ≡ b
same_watched E s a b e = omega arith
