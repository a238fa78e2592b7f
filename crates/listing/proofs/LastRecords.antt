-- The ends of records, as they are put right: another end for a node is another end for its last record, and a record that is added ends the value before it. Assumes nothing.
use borrow.Author.Tests.{eq-eqb, ne_eqb}
use mathlib.Core.List.{List, [], ◌∷◌, ◌++◌, Memᴰ}
use mathlib.Core.Path.{◌≡◌, refl, sym, ap, ap₂, subst}
use native.Mathlib.Decide.{ℕ_discrete}
use native.Mathlib.Omega.{arith}
use Prim.Native.Nat.{ℕ, zero, suc, ◌<◌}
use lib.Dec.{eqb}
use lib.ListN.{length}
use Rattle.std.specs.Prelude.{if◌then◌else◌, Option, Some, None}
use Rattle.network.specs.Listing.{Record}
use Rattle.network.specs.Ends.{Ended}
use Rattle.listing.specs.Ends.{next_of, with_ends, end_at, Last, nowhere, elsewhere, here, later}

-- records after others
next_append : (rs qs : List Record) (v end : ℕ) → next_of (rs ++ qs) v end ≡ next_of rs v (next_of qs v end)
unfolding next_of
next_append [] qs v end = refl
next_append (r ∷ rs) qs v end = ap (λ n. if eqb r.node v then r.tick else n) (next_append rs qs v end)

pub ends_append : (ends : ℕ → ℕ) (rs qs : List Record) → with_ends ends (rs ++ qs) ≡ with_ends (λ v. next_of qs v (ends v)) rs ++ with_ends ends qs
unfolding with_ends
ends_append ends [] qs = refl
ends_append ends (r ∷ rs) qs = ap₂ (λ e l. record { start = r; end = e } ∷ l) (next_append rs qs r.node (ends r.node)) (ends_append ends rs qs)

-- only what is given for the records' own nodes counts
pub ends_same : (a b : ℕ → ℕ) (rs : List Record) → ((r : Record) → Memᴰ r rs → a r.node ≡ b r.node) → with_ends a rs ≡ with_ends b rs
unfolding with_ends
ends_same a b [] same = refl
ends_same a b (r ∷ rs) same =
    ap₂ (λ e l. record { start = r; end = e } ∷ l) (ap (next_of rs r.node) (same r (Memᴰ.head refl))) (ends_same a b rs (λ q m. same q (Memᴰ.tail m)))

pub ends_length : (ends : ℕ → ℕ) (rs : List Record) → length (with_ends ends rs) ≡ length rs
unfolding with_ends
ends_length ends [] = refl
ends_length ends (r ∷ rs) = ap suc (ends_length ends rs)

-- a node's next record, where it has none and where it has one
none_next : {v : ℕ} {rs : List Record} → Last v rs None → (end : ℕ) → next_of rs v end ≡ end
unfolding next_of
none_next nowhere end = refl
none_next (elsewhere d l) end = rw (ne_eqb _ _ d) (none_next l end)

some_next : {v n : ℕ} {rs : List Record} → Last v rs (Some n) → (a b : ℕ) → next_of rs v a ≡ next_of rs v b
unfolding next_of
some_next (here e l) a b = rw (eq-eqb _ _ e)
some_next {v} (later {r} l) a b = ap (λ n. if eqb r.node v then r.tick else n) (some_next l a b)

-- the record of a number gets another end
abbrev pub another_end : ℕ → ℕ → List Ended → List Ended
another_end n end [] = []
another_end zero end (r ∷ rs) = record { start = r.start; end = end } ∷ rs
another_end (suc n) end (r ∷ rs) = r ∷ another_end n end rs

pub another_length : (n end : ℕ) (rs : List Ended) → length (another_end n end rs) ≡ length rs
another_length n end [] = refl
another_length zero end (r ∷ rs) = refl
another_length (suc n) end (r ∷ rs) = ap suc (another_length n end rs)

-- another end for a node
pub none_ended : {v : ℕ} {rs : List Record} → Last v rs None → (end : ℕ) (ends : ℕ → ℕ) → with_ends (end_at v end ends) rs ≡ with_ends ends rs
unfolding with_ends
none_ended nowhere end ends = refl
none_ended {v} (elsewhere {r} d l) end ends = rw (ne_eqb v r.node (λ e. d (sym e)), none_ended l end ends)

pub last_ended : {v n : ℕ} {rs : List Record} → Last v rs (Some n) → (end : ℕ) (ends : ℕ → ℕ) → with_ends (end_at v end ends) rs ≡ another_end n end (with_ends ends rs)
unfolding with_ends
last_ended {v} (here {r} {rs} e l) end ends = ap₂ (λ e l. record { start = r; end = e } ∷ l) first (none_ended l end ends)
  where
    first : next_of rs r.node (end_at v end ends r.node) ≡ end
    first = rw (eq-eqb v r.node (sym e), e) (none_next l end)
last_ended {v} (later {r} {rs} {n} l) end ends = ap₂ (λ e l. record { start = r; end = e } ∷ l) (first (ℕ_discrete v r.node)) (last_ended l end ends)
  where
    first : Dec (v ≡ r.node) → next_of rs r.node (end_at v end ends r.node) ≡ next_of rs r.node (ends r.node)
    first (yes e) = some_next (subst (λ v. Last v rs (Some n)) e l) _ _
    first (no d) = rw (ne_eqb v r.node d)

-- a record more
pub last_still : {v : ℕ} {n : Option ℕ} {rs : List Record} → Last v rs n → (r : Record) → (r.node ≡ v → ⊥) → Last v (rs ++ r ∷ []) n
last_still nowhere r d = elsewhere d nowhere
last_still (elsewhere f l) r d = elsewhere f (last_still l r d)
last_still (here e l) r d = here e (last_still l r d)
last_still (later l) r d = later (last_still l r d)

pub last_new : {v : ℕ} {n : Option ℕ} {rs : List Record} → Last v rs n → (r : Record) → r.node ≡ v → Last v (rs ++ r ∷ []) (Some (length rs))
last_new nowhere r e = here e nowhere
last_new (elsewhere f l) r e = later (last_new l r e)
last_new (here f l) r e = later (last_new l r e)
last_new (later l) r e = later (last_new l r e)

pub last_known : {v n : ℕ} {rs : List Record} → Last v rs (Some n) → n < length rs
last_known (here e l) = omega arith
last_known (later l) = omega (arith, last_known l)
