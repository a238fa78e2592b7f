-- The records of a tick are those that the cells give, and what is shown afterwards are the watched nodes' cells of that tick. A record stands where a value
-- differs from the one shown, which is the cell before; at tick 0 nothing is shown that a cell could be. Assumes nothing.
use borrow.Author.Tests.{ne_eqb}
use lib.Dec.{eqb}
use lib.ListN.{length, get_or}
use mathlib.Core.Bool.{Bool, true, false, not}
use mathlib.Core.List.{List, [], ◌∷◌, Memᴰ}
use mathlib.Core.Logic.{inr}
use mathlib.Core.Path.{◌≡◌, refl, ap, ◌∙◌}
use native.Mathlib.Omega.{arith}
use Prim.Native.Nat.{ℕ, zero, suc, ◌<◌, ◌≤◌}
use Rattle.std.specs.Prelude.{if◌then◌else◌}
use Rattle.sheet.specs.Sheet.{Sheet, node_count, watched_count, watched_node}
use Rattle.sheet.proofs.Listed.{get_or-mem}
use Rattle.format.specs.Accepted.{Accepted}
use Rattle.network.specs.Timeline.{Cells}
use Rattle.network.specs.Listing.{changes, record_of, records_at}
use Rattle.network.proofs.Rising.{members_all}
use Rattle.model.specs.Fresh.{not_shown, fresh, show_all}
use Rattle.model.specs.Standing.{before}
use Rattle.model.proofs.Puts.{puts, puts_length, puts_at}

-- values are put where they are shown
pub shows : (values shown vs : List ℕ) → show_all values shown vs ≡ puts (λ v. v) (λ v. get_or values v 0) vs shown
unfolding show_all
shows values shown [] = refl
shows values shown (v ∷ vs) = shows values _ vs

-- a value differs from what is shown exactly where the cells have a change
differs : (c : Cells) (v t x y : ℕ) → x ≡ c t v → c t v ≤ 3 → y ≡ before (λ u. c u v) not_shown t → not (eqb x y) ≡ changes c v t
differs c v zero x y e l s = ap not (ne_eqb x y (λ p. omega (arith, e, s)))
differs c v (suc t) x y e l s = rw (e, s)

fresh_records : (c : Cells) (t : ℕ) (values shown vs : List ℕ) → ((v : ℕ) → Memᴰ v vs → (get_or values v 0 ≡ c t v) × (not (eqb (get_or values v 0) (get_or shown v 0)) ≡ changes c v t))
    → fresh t values shown vs ≡ records_at c t vs
unfolding fresh records_at
fresh_records c t values shown [] h = refl
fresh_records c t values shown (v ∷ vs) h =
    let first = h v (Memᴰ.head refl) in
    at (eqb (get_or values v 0) (get_or shown v 0)) (changes c v t) first.1 first.0 (fresh_records c t values shown vs (λ w m. h w (Memᴰ.tail m)))
  where
    at : (b d : Bool) → not b ≡ d → get_or values v 0 ≡ c t v → fresh t values shown vs ≡ records_at c t vs
        → (if b then fresh t values shown vs else record { tick = t; node = v; value = get_or values v 0 } ∷ fresh t values shown vs)
        ≡ (if d then record_of c t v ∷ records_at c t vs else records_at c t vs)
    at true d n e rest = rw (← n) rest
    at false d n e rest = rw (← n, e, rest)

module _ (S : Sheet) (c : Cells) (t : ℕ) (acc : Accepted S) (values shown : List ℕ) (cells : (v : ℕ) → v < node_count S → get_or values v 0 ≡ c t v) where
  pub tick_records : ((v : ℕ) → v < node_count S → c t v ≤ 3) → ((k : ℕ) → k < watched_count S → get_or shown (watched_node S k) 0 ≡ before (λ u. c u (watched_node S k)) not_shown t)
      → fresh t values shown S.watched ≡ records_at c t S.watched
  tick_records level stood =
      fresh_records c t values shown S.watched
      (members_all _ S.watched 0
      (λ k h. let n = acc.watched_nodes k h in let e = cells (watched_node S k) n in (e, differs c (watched_node S k) t _ _ e (level (watched_node S k) n) (stood k h))))

  module _ (size : length shown ≡ 256) where
    pub shown_size : length (show_all values shown S.watched) ≡ 256
    shown_size = ap length (shows values shown S.watched) ∙ puts_length _ _ S.watched shown ∙ size

    pub now_shown : (k : ℕ) → k < watched_count S → get_or (show_all values shown S.watched) (watched_node S k) 0 ≡ c t (watched_node S k)
    now_shown k h =
        let n = acc.watched_nodes k h in
        rw (shows values shown S.watched)
        (puts_at (λ v. v) (λ v. get_or values v 0) (watched_node S k) (c t (watched_node S k)) S.watched shown (omega (arith, acc.nodes))
        (λ v m e. rw e (cells (watched_node S k) n)) (inr (watched_node S k, get_or-mem S.watched k 0 h, refl)))
