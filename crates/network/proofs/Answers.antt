-- What a run answers is told by how many records and pending changes there are: sheets and cells that agree in these give one answer. A finished run
-- has written the whole listing; and only cells of nodes below the horizon count. Assumes nothing.
use lib.Dec.{ltb}
use lib.ListN.{length, length-map}
use mathlib.Core.Bool.{Bool, true, false}
use mathlib.Core.List.{List, [], ◌∷◌, ◌++◌, Memᴰ, map}
use mathlib.Core.Path.{◌≡◌, refl, sym, ap, ap₂, ◌∙◌}
use native.Mathlib.Nat.{le_step, lt-suc_self, le_refl}
use native.Mathlib.Omega.{arith}
use Prim.Native.Nat.{ℕ, zero, suc, ◌<◌, ◌≤◌}
use Rattle.std.specs.Prelude.{if◌then◌else◌}
use Rattle.sheet.specs.Enumerate.{each}
use Rattle.sheet.specs.Limits.{pending_limit}
use Rattle.sheet.specs.Outcome.{finished, refused}
use Rattle.sheet.specs.Sheet.{Sheet, node_count, module_count}
use Rattle.network.specs.Buffer.{room}
use Rattle.network.specs.Ends.{Ended, ended_of, ended_listing}
use Rattle.network.specs.Listing.{changes, record_of, records_at, listing, pending_of, pending}
use Rattle.network.specs.Run.{TickRow, tick_rows, wrote, first_tick, written_of}
use Rattle.network.specs.Timeline.{Cells}
use Rattle.sheet.proofs.Each.{each_same}
use Rattle.sheet.proofs.Rows.{finished≢refused}
use Rattle.network.proofs.Count.{count}
use Rattle.network.proofs.Ends.{next_same}
use Rattle.network.proofs.Equation.{map_same, equation_local}
use Rattle.network.proofs.Listed.{each_lengths}
use Rattle.network.proofs.Listing.{listed_shown}
use Rattle.network.proofs.PendingCount.{changes_same, pending_of_same}
use Rattle.network.proofs.Wired.{Wired}

-- rows that answer alike: the same number, tick and test, and as many records left
data Alike : List TickRow → List TickRow → Type 0 where
  no_row : Alike [] []
  one_more : {n t : ℕ} {a b : Bool} {x y : List Ended} {rs qs : List TickRow} → a ≡ b → length x ≡ length y → Alike rs qs
      → Alike (record { number = n; tick = t; met = a; left = x } ∷ rs) (record { number = n; tick = t; met = b; left = y } ∷ qs)

alike_append : {rs qs rs' qs' : List TickRow} → Alike rs qs → Alike rs' qs' → Alike (rs ++ rs') (qs ++ qs')
alike_append no_row b = b
alike_append (one_more m l a) b = one_more m l (alike_append a b)

alike_each : (n : ℕ) (f h : ℕ → List TickRow) → ((t : ℕ) → t < n → Alike (f t) (h t)) → Alike (each n f) (each n h)
unfolding each
alike_each zero f h a = no_row
alike_each (suc n) f h a = alike_append (alike_each n f h (λ t l. a t (le_step l))) (a n (lt-suc_self n))

alike_answer : {rs qs : List TickRow} (x y : List Ended) → Alike rs qs → length x ≡ length y → (first_tick rs x).answer ≡ (first_tick qs y).answer
unfolding first_tick
alike_answer x y no_row e = ap finished e
alike_answer x y (one_more {n} {t} {b} {x = x'} {y = y'} {rs} {qs} m l r) e =
    ap (λ a. (if a then wrote (refused n t (length x')) x' else first_tick rs x).answer) m ∙ go b (alike_answer x y r e)
  where
    go : (b : Bool) → (first_tick rs x).answer ≡ (first_tick qs y).answer
        → (if b then wrote (refused n t (length x')) x' else first_tick rs x).answer ≡ (if b then wrote (refused n t (length y')) y' else first_tick qs y).answer
    go true before = ap (refused n t) l
    go false before = before

pub same_answer : (S P : Sheet) (n q : Cells) (horizon bytes : ℕ)
    → ((k : ℕ) → k ≤ horizon → length (listing P q k) ≡ length (listing S n k))
    → ((t : ℕ) → t < horizon → length (pending P q horizon t) ≡ length (pending S n horizon t))
    → (written_of P q horizon bytes).answer ≡ (written_of S n horizon bytes).answer
unfolding written_of
same_answer S P n q horizon bytes records waiting =
    alike_answer _ _ (alike_each horizon (tick_rows P q horizon bytes) (tick_rows S n horizon bytes) at) (lengths horizon (le_refl horizon))
  where
    lengths : (k : ℕ) → k ≤ horizon → length (ended_listing P q k) ≡ length (ended_listing S n k)
    lengths k h = length-map (listing P q k) (ended_of q k) ∙ records k h ∙ sym (length-map (listing S n k) (ended_of n k))

    at : (t : ℕ) → t < horizon → Alike (tick_rows P q horizon bytes t) (tick_rows S n horizon bytes t)
    at t l =
        one_more (ap (ltb (room bytes)) (records (suc t) l)) (lengths t (omega arith))
        (one_more (ap (ltb pending_limit) (waiting t l)) (lengths (suc t) l) no_row)

-- a finished run has written all
all_written : (rs : List TickRow) (all : List Ended) (count : ℕ) → (first_tick rs all).answer ≡ finished count → (first_tick rs all).records ≡ all
unfolding first_tick
all_written [] all count e = refl
all_written (r ∷ rs) all count e = go r.met e (all_written rs all count)
  where
    go : (b : Bool) → (if b then wrote (refused r.number r.tick (length r.left)) r.left else first_tick rs all).answer ≡ finished count
        → ((first_tick rs all).answer ≡ finished count → (first_tick rs all).records ≡ all)
        → (if b then wrote (refused r.number r.tick (length r.left)) r.left else first_tick rs all).records ≡ all
    go true e before = absurd (finished≢refused (sym e))
    go false e before = before e

pub whole_listing : (S : Sheet) (c : Cells) (horizon bytes count : ℕ) → (written_of S c horizon bytes).answer ≡ finished count → (written_of S c horizon bytes).records ≡ ended_listing S c horizon
unfolding written_of
whole_listing S c horizon bytes count e = all_written _ _ count e

-- two sets of cells that are the same on nodes below the horizon
records_same : (c q : Cells) (t : ℕ) (vs : List ℕ) → ((u v : ℕ) → u ≤ t → Memᴰ v vs → c u v ≡ q u v) → records_at c t vs ≡ records_at q t vs
unfolding records_at
records_same c q t [] e = refl
records_same c q t (v ∷ vs) e = go (changes_same c q v v t (λ u l. e u v l (Memᴰ.head refl))) (records_same c q t vs (λ u w l m. e u w l (Memᴰ.tail m)))
  where
    go : changes c v t ≡ changes q v t → records_at c t vs ≡ records_at q t vs
        → (if changes c v t then record_of c t v ∷ records_at c t vs else records_at c t vs) ≡ (if changes q v t then record_of q t v ∷ records_at q t vs else records_at q t vs)
    go p after = λ i. if p i then record { tick = t; node = v; value = e t v (le_refl t) (Memᴰ.head refl) i } ∷ after i else after i

module _ (S : Sheet) (w : Wired S) (watched : (v : ℕ) → Memᴰ v S.watched → v < node_count S) (c q : Cells) (horizon : ℕ)
    (same : (t v : ℕ) → t < horizon → v < node_count S → c t v ≡ q t v) where
  listing_local : (k : ℕ) → k ≤ horizon → listing S c k ≡ listing S q k
  listing_local k h =
      each_same k (λ t. records_at c t S.watched) (λ t. records_at q t S.watched)
      (λ t l. records_same c q t S.watched (λ u v i m. same u v (omega arith) (watched v m)))

  ended_local : (k : ℕ) → k ≤ horizon → ended_listing S c k ≡ ended_listing S q k
  ended_local k h =
      map_same (ended_of c k) (ended_of q k) (listing S c k)
      (λ r m.
      let s = (listed_shown S c k r).0 m in
      ap (λ e. record { start = r; end = e }) (next_same c q k r.node r.node (λ u l. same u r.node (omega arith) (watched r.node s.watched)) r.tick s.below))
      ∙ ap (map (ended_of q k)) (listing_local k h)

  pending_local : (t : ℕ) → length (pending S c horizon t) ≡ length (pending S q horizon t)
  pending_local t =
      each_lengths (module_count S) (pending_of S c horizon t) (pending_of S q horizon t)
      (λ m h. pending_of_same S S c q horizon t m m refl (λ u l. equation_local S c q m u (λ x v b used. same x v (omega arith) (w.used_node m h v used))))

  pub written_local : (bytes : ℕ) → written_of S c horizon bytes ≡ written_of S q horizon bytes
  unfolding written_of
  written_local bytes = ap₂ first_tick (each_same horizon (tick_rows S c horizon bytes) (tick_rows S q horizon bytes) at) (ended_local horizon (le_refl horizon))
    where
      at : (t : ℕ) → t < horizon → tick_rows S c horizon bytes t ≡ tick_rows S q horizon bytes t
      at t l =
          λ i.
          record { number = 19; tick = t; met = ltb (room bytes) (length (listing_local (suc t) l i)); left = ended_local t (omega arith) i }
          ∷ record { number = 20; tick = t; met = ltb pending_limit (pending_local t i); left = ended_local (suc t) l i }
          ∷ []
