-- Demand 2 on the definitions: a record stands in the listing exactly when it shows a watched node's first value or change, with the end that the timelines give; they rise, and no other list is such. Assumes nothing.
use lib.Dec.{T}
use lib.ListN.{length, get_or}
use mathlib.Core.Bool.{Bool, true, false}
use mathlib.Core.List.Memᴰ
use mathlib.Core.List.{List, [], ◌∷◌, Memᴰ, map}
use mathlib.Core.Logic.{◌↔◌, ◌⊎◌, inl, inr}
use mathlib.Core.Path.{◌≡◌, refl, sym, ap, ◌∙◌, subst}
use native.Mathlib.Omega.{arith}
use Prim.Native.Nat.{ℕ, ◌<◌}
use Rattle.std.specs.Prelude.{if◌then◌else◌}
use Rattle.sheet.specs.Sheet.{Sheet, node_count}
use Rattle.format.specs.Accepted.{Accepted}
use Rattle.network.specs.Demand2.{Shown, ShownUntil, Lists}
use Rattle.network.specs.Ends.{Ended, ended_key, ended_of, ended_listing}
use Rattle.network.specs.Listing.{Record, record_key, changes, record_of, records_at, listing}
use Rattle.network.specs.Timeline.{Cells}
use Rattle.level.proofs.Computed.{below}
use Rattle.sheet.proofs.Each.{each-mem}
use Rattle.network.proofs.Ends.{next_lasts, lasts_once}
use Rattle.network.proofs.Rising.{Pairs, Up, pairs_of, pairs_at, pairs_each, rising_unique, members_all}

module _ (c : Cells) (t : ℕ) where
  -- a record of the tick: of one of these nodes, which changes there
  abbrev Recorded : Record → List ℕ → Type 0
  Recorded r vs = (v : ℕ) × Memᴰ v vs × T (changes c v t) × (r ≡ record_of c t v)

  records_mem : {r : Record} (vs : List ℕ) → Memᴰ r (records_at c t vs) ↔ Recorded r vs
  unfolding records_at
  records_mem [] = (λ m. absurd (Memᴰ.not-nil m), λ h. absurd (Memᴰ.not-nil h.1))
  records_mem {r} (v ∷ vs) = (from (changes c v t) refl (records_mem vs).0, λ h. to (changes c v t) refl (records_mem vs).1 h (Memᴰ.cases_cons h.1))
    where
      later : Recorded r vs → Recorded r (v ∷ vs)
      later h = (h.0, Memᴰ.tail h.1, h.2, h.3)

      from : (b : Bool) → changes c v t ≡ b → (Memᴰ r (records_at c t vs) → Recorded r vs)
          → Memᴰ r (if b then record_of c t v ∷ records_at c t vs else records_at c t vs) → Recorded r (v ∷ vs)
      from true e f m = first (Memᴰ.cases_cons m)
        where
          first : (r ≡ record_of c t v) ⊎ Memᴰ r (records_at c t vs) → Recorded r (v ∷ vs)
          first (inl k) = (v, Memᴰ.head refl, subst T (sym e) tt, k)
          first (inr m) = later (f m)
      from false e f m = later (f m)

      to : (b : Bool) → changes c v t ≡ b → (Recorded r vs → Memᴰ r (records_at c t vs)) → (h : Recorded r (v ∷ vs)) → (h.0 ≡ v) ⊎ Memᴰ h.0 vs
          → Memᴰ r (if b then record_of c t v ∷ records_at c t vs else records_at c t vs)
      to true e f h (inl k) = Memᴰ.head (h.3 ∙ ap (record_of c t) k)
      to false e f h (inl k) = absurd (subst T (ap (λ v. changes c v t) k ∙ e) h.2)
      to true e f h (inr m) = Memᴰ.tail (f (h.0, m, h.2, h.3))
      to false e f h (inr m) = f (h.0, m, h.2, h.3)

  records_rise : (vs : List ℕ) → Pairs (Up (λ v. v)) vs → Pairs (Up record_key) (records_at c t vs)
  unfolding records_at
  records_rise [] p = tt
  records_rise (v ∷ vs) p = at (changes c v t) (records_rise vs p.1)
    where
      at : (b : Bool) → Pairs (Up record_key) (records_at c t vs) → Pairs (Up record_key) (if b then record_of c t v ∷ records_at c t vs else records_at c t vs)
      at true q = (λ r m. let h = (records_mem vs).0 m in let l = p.0 h.0 h.1 in let k = ap record_key h.3 in omega arith, q)
      at false q = q

module _ (S : Sheet) (c : Cells) (horizon : ℕ) where
  pub listed_shown : (r : Record) → Memᴰ r (listing S c horizon) ↔ Shown S c horizon r
  listed_shown r = (shown, all)
    where
      shown : Memᴰ r (listing S c horizon) → Shown S c horizon r
      shown m =
          let i = (each-mem horizon (λ t. records_at c t S.watched)).0 m in
          let h = (records_mem c i.0 S.watched).0 i.2 in
          subst (Shown S c horizon) (sym h.3) (record { below = i.1; watched = h.1; change = h.2; value = refl })

      all : Shown S c horizon r → Memᴰ r (listing S c horizon)
      all h =
          (each-mem horizon (λ t. records_at c t S.watched)).1
          (r.tick, h.below, (records_mem c r.tick S.watched).1 (r.node, h.watched, h.change, λ i. record { tick = r.tick; node = r.node; value = h.value i }))

  -- with the ends that the cells give
  ended_shown : (r : Ended) → Memᴰ r (ended_listing S c horizon) ↔ ShownUntil S c horizon r
  ended_shown r = (shown, all)
    where
      shown : Memᴰ r (ended_listing S c horizon) → ShownUntil S c horizon r
      shown m =
          let a = Memᴰ.of_map (ended_of c horizon) (listing S c horizon) m in
          let h = (listed_shown a.0).0 a.1 in
          subst (ShownUntil S c horizon) a.2 (record { start = h; end = next_lasts c horizon a.0.node a.0.tick h.below })

      all : ShownUntil S c horizon r → Memᴰ r (ended_listing S c horizon)
      all h =
          let one = lasts_once c horizon r.start.node r.start.tick _ _ h.end (next_lasts c horizon r.start.node r.start.tick h.start.below) in
          Memᴰ.cast (λ i. record { start = r.start; end = one i }) (Memᴰ.map (ended_of c horizon) ((listed_shown r.start).1 h.start))

  ended_rise : (records : List Record) → Pairs (Up record_key) records → Pairs (Up ended_key) (map (ended_of c horizon) records)
  ended_rise [] p = tt
  ended_rise (r ∷ rs) p =
      (λ b m. let a = Memᴰ.of_map (ended_of c horizon) rs m in subst (λ b. record_key r < ended_key b) a.2 (p.0 a.0 a.1), ended_rise rs p.1)

  -- nodes are bytes, so a later tick has the greater record_key
  pub lists : ((j k : ℕ) → j < k → k < length S.watched → get_or S.watched j 0 < get_or S.watched k 0)
      → ((v : ℕ) → Memᴰ v S.watched → v < 256) → Lists S c horizon (ended_listing S c horizon)
  lists rises bytes =
      record {
        shown = λ r. (ended_shown r).0;
        all = λ r. (ended_shown r).1;
        rise = pairs_at (Up ended_key) (ended_listing S c horizon) (ended_rise (listing S c horizon) (pairs_each (Up record_key) horizon (λ t. records_at c t S.watched) (λ t. records_rise c t S.watched (pairs_of (Up (λ v. v)) S.watched 0 rises)) later));
      }
    where
      later : (t u : ℕ) → t < u → (a b : Record) → Memᴰ a (records_at c t S.watched) → Memᴰ b (records_at c u S.watched) → record_key a < record_key b
      later t u l a b m n =
          let h = (records_mem c t S.watched).0 m in
          let g = (records_mem c u S.watched).0 n in
          let small = bytes h.0 h.1 in
          let i = ap record_key h.3 in
          let j = ap record_key g.3 in
          omega arith

  -- no other list has these records and rises
  pub lists_unique : (l m : List Ended) → Lists S c horizon l → Lists S c horizon m → l ≡ m
  lists_unique l m L M = rising_unique ended_key l m L.rise M.rise (λ r. (λ i. M.all r (L.shown r i), λ i. L.all r (M.shown r i)))

-- of an accepted sheet
module _ (S : Sheet) (a : Accepted S) where
  pub watched_nodes : (v : ℕ) → Memᴰ v S.watched → v < node_count S
  watched_nodes = members_all (λ v. v < node_count S) S.watched 0 a.watched_nodes

  pub watched_bytes : (v : ℕ) → Memᴰ v S.watched → v < 256
  watched_bytes v m = omega (arith, watched_nodes v m, a.nodes)

  pub listing_of : (c : Cells) (horizon : ℕ) → Lists S c horizon (ended_listing S c horizon)
  listing_of c horizon = lists S c horizon a.watched_rise watched_bytes
