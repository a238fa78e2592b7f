-- The listing of a renumbered sheet is the listing renumbered and sorted again, and every tick has as many records in both. Assumes nothing.
use lib.Dec.{T}
use lib.ListN.{length, get_or, length-map}
use mathlib.Core.List.Memᴰ
use mathlib.Core.List.{map, Memᴰ}
use mathlib.Core.Logic.{◌↔◌}
use mathlib.Core.Path.{◌≡◌, refl, sym, ap, ◌∙◌, subst}
use native.Mathlib.Omega.{arith}
use Prim.Native.Nat.{ℕ, ◌<◌, ◌≤◌}
use Rattle.sheet.specs.Sheet.{Sheet}
use Rattle.network.specs.Demand2.{Shown, Lasts, ShownUntil, Lists}
use Rattle.network.specs.Ends.{Ended, ended_key, ended_of, ended_listing}
use Rattle.network.specs.Listing.{Record, changes, record_of, listing}
use Rattle.network.specs.Renumbering.{sort, renumbered_record, renumbered_ended, renumbered_listing}
use Rattle.network.specs.Timeline.{Cells}
use Rattle.level.proofs.Computed.{below}
use Rattle.network.proofs.Ends.{lasts_same}
use Rattle.network.proofs.Listing.{lists}
use Rattle.network.proofs.PendingCount.{changes_same}
use Rattle.network.proofs.Rising.{rising_at}
use Rattle.network.proofs.Sort.{sort-is, sort-map-length, sort-map-mem, sort_map_rises}

-- P watches S's nodes by their new numbers, sorted; the new numbers are bytes, and no two nodes have one
pub record Rewatched (S P : Sheet) (to : ℕ → ℕ) : Type 0 where
  pub rises : (j k : ℕ) → j < k → k < length S.watched → get_or S.watched j 0 < get_or S.watched k 0
  pub bytes : (v : ℕ) → Memᴰ v S.watched → v < 256
  pub new_bytes : (v : ℕ) → Memᴰ v S.watched → to v < 256
  pub apart : (u v : ℕ) → Memᴰ u S.watched → Memᴰ v S.watched → to u ≡ to v → u ≡ v
  pub sorted : P.watched ≡ sort (λ v. v) (map to S.watched)

module _ (S P : Sheet) (to : ℕ → ℕ) (w : Rewatched S P to) where
  rewatched : {v : ℕ} → Memᴰ v P.watched ↔ ((u : ℕ) × Memᴰ u S.watched × (to u ≡ v))
  rewatched = rw w.sorted (sort-map-mem (λ v. v) to S.watched)

  rewatched_rises : (j k : ℕ) → j < k → k < length P.watched → get_or P.watched j 0 < get_or P.watched k 0
  rewatched_rises = rw w.sorted (λ j k l b. sort_map_rises (λ v. v) to (λ v. v) S.watched (rising_at (λ v. v) S.watched 0 w.rises) w.apart j k l b 0)

  -- the same cells of watched nodes
  module _ (n q : Cells) (horizon : ℕ) (same : (t v : ℕ) → t < horizon → Memᴰ v S.watched → n t v ≡ q t (to v)) where
    listing_N : Lists S n horizon (ended_listing S n horizon)
    listing_N = lists S n horizon w.rises w.bytes

    listing_P : Lists P q horizon (ended_listing P q horizon)
    listing_P = lists P q horizon rewatched_rises (λ v m. let r = rewatched.0 m in subst (λ v. v < 256) r.2 (w.new_bytes r.0 r.1))

    same_changes : (t v : ℕ) → t < horizon → Memᴰ v S.watched → changes n v t ≡ changes q (to v) t
    same_changes t v b m = changes_same n q v (to v) t (λ u l. same u v (omega arith) m)

    there : (r : Record) → Shown S n horizon r → Shown P q horizon (renumbered_record to r)
    there r h =
        record {
          below = h.below;
          watched = rewatched.1 (r.node, h.watched, refl);
          change = subst T (same_changes r.tick r.node h.below h.watched) h.change;
          value = h.value ∙ same r.tick r.node h.below h.watched;
        }

    back : (r : Record) → Shown P q horizon r → (a : Record) × Shown S n horizon a × (renumbered_record to a ≡ r)
    back r h =
        let u = rewatched.0 h.watched in
        let cell = same r.tick u.0 h.below u.1 in (
          record_of n r.tick u.0,
          record { below = h.below; watched = u.1; change = subst T (sym (same_changes r.tick u.0 h.below u.1 ∙ ap (λ v. changes q v r.tick) u.2)) h.change; value = refl },
          λ i. record { tick = r.tick; node = u.2 i; value = (cell ∙ ap (q r.tick) u.2 ∙ sym h.value) i },
        )

    there_until : (r : Ended) → ShownUntil S n horizon r → ShownUntil P q horizon (renumbered_ended to r)
    there_until r h =
        record { start = there r.start h.start; end = lasts_same n q horizon r.start.node (to r.start.node) (λ u b. same u r.start.node b h.start.watched) r.start.tick r.end h.end }

    back_until : (r : Ended) → ShownUntil P q horizon r → (a : Ended) × ShownUntil S n horizon a × (renumbered_ended to a ≡ r)
    back_until r h =
        let (a, s, e) = back r.start h.start in
        let node = ap (λ (b : Record). b.node) e in (
          record { start = a; end = r.end },
          record {
            start = s;
            end = lasts_same q n horizon r.start.node a.node (λ u b. sym (same u a.node b s.watched ∙ ap (q u) node)) a.tick r.end (subst (λ t. Lasts q horizon r.start.node t r.end) (sym (ap (λ (b : Record). b.tick) e)) h.end);
          },
          λ i. record { start = e i; end = r.end },
        )

    members : (r : Ended) → Memᴰ r (map (renumbered_ended to) (ended_listing S n horizon)) ↔ Memᴰ r (ended_listing P q horizon)
    members r = (to_P, from_P)
      where
        to_P : Memᴰ r (map (renumbered_ended to) (ended_listing S n horizon)) → Memᴰ r (ended_listing P q horizon)
        to_P m = let a = Memᴰ.of_map (renumbered_ended to) (ended_listing S n horizon) m in Memᴰ.cast (sym a.2) (listing_P.all (renumbered_ended to a.0) (there_until a.0 (listing_N.shown a.0 a.1)))

        from_P : Memᴰ r (ended_listing P q horizon) → Memᴰ r (map (renumbered_ended to) (ended_listing S n horizon))
        from_P m = let a = back_until r (listing_P.shown r m) in Memᴰ.cast (sym a.2) (Memᴰ.map (renumbered_ended to) (listing_N.all a.0 a.1))

    key_apart : (a b : Ended) → Memᴰ a (ended_listing S n horizon) → Memᴰ b (ended_listing S n horizon) → ended_key (renumbered_ended to a) ≡ ended_key (renumbered_ended to b) → ended_key a ≡ ended_key b
    key_apart a b i j e =
        let f = (listing_N.shown a i).start.watched in
        let g = (listing_N.shown b j).start.watched in
        let x = w.new_bytes a.start.node f in
        let y = w.new_bytes b.start.node g in
        let z = w.apart a.start.node b.start.node f g (omega arith) in
        omega arith

    pub listing_renumbered : ended_listing P q horizon ≡ renumbered_listing to (ended_listing S n horizon)
    listing_renumbered = sym (sort-is ended_key (map (renumbered_ended to) (ended_listing S n horizon)) (ended_listing P q horizon) (sort_map_rises ended_key (renumbered_ended to) ended_key (ended_listing S n horizon) listing_N.rise key_apart) listing_P.rise members)

  pub renumbered-length : (n q : Cells) (horizon : ℕ) → ((t v : ℕ) → t < horizon → Memᴰ v S.watched → n t v ≡ q t (to v)) → (k : ℕ) → k ≤ horizon → length (listing P q k) ≡ length (listing S n k)
  renumbered-length n q horizon same k b =
      sym (length-map (listing P q k) (ended_of q k))
      ∙ ap length (listing_renumbered n q k (λ t v l m. same t v (omega arith) m))
      ∙ sort-map-length ended_key (renumbered_ended to) (ended_listing S n k)
      ∙ length-map (listing S n k) (ended_of n k)
