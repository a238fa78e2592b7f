-- The listing between ticks, kept by what is written: a record's end put right, a record added, and the ends of what lasts. Assumes nothing.
use borrow.Author.Tests.{eq-eqb}
use mathlib.Core.Bool.{Bool, true, false}
use mathlib.Core.List.{List, [], ◌∷◌, ◌++◌, Memᴰ}
use mathlib.Core.Path.{◌≡◌, refl, sym, ap, ◌∙◌, subst}
use native.Mathlib.Decide.{ℕ_discrete}
use native.Mathlib.Omega.{arith}
use Prim.Native.Nat.{ℕ, zero, suc, ◌+◌, ◌*◌, ◌<◌, ◌≤◌}
use lib.Dec.{eqb}
use lib.ListN.{length, get_or, set, take, replicate, length-append, length-set, length-take, length-replicate, get_or-replicate}
use lib.Seq.{get_or-set_same, get_or-set_other, get_or-take}
use Rattle.std.specs.Prelude.{if◌then◌else◌, Option, Some, None, IfSome}
use Rattle.sheet.specs.Limits.{most_nodes}
use Rattle.network.specs.Listing.{Record}
use Rattle.network.specs.Ends.{Ended}
use Rattle.network.specs.Buffer.{record_size, buffer_after}
use Rattle.network.proofs.Rising.{mem_place}
use Rattle.listing.specs.declared.Listing.{Listing}
use Rattle.listing.specs.Record.{written, end_written}
use Rattle.listing.specs.Ends.{next_of, with_ends, end_at, Last, nowhere, not_ended, ends_for, Holding}
use Rattle.listing.proofs.Buffer.{buffer-none, buffer_more, buffer-length, end_buffer}
use Rattle.listing.proofs.LastRecords.{ends_append, ends_same, ends_length, none_ended, last_ended, last_still, last_new, last_known}

-- a node's last record, or none, gets another end
module _ (buffer : List ℕ) (ends : ℕ → ℕ) (records : List Record) (v end : ℕ) (fits : record_size * length records ≤ length buffer) {listing : List ℕ}
    (bytes : listing ≡ buffer_after (with_ends ends records) buffer) where
  pub none_put : Last v records None → listing ≡ buffer_after (with_ends (end_at v end ends) records) buffer
  none_put l = bytes ∙ ap (λ rs. buffer_after rs buffer) (sym (none_ended l end ends))

  pub end_put : (n : ℕ) → Last v records (Some n) → end_written n end listing ≡ buffer_after (with_ends (end_at v end ends) records) buffer
  end_put n l =
      ap (end_written n end) bytes
      ∙ end_buffer (with_ends ends records) buffer n end (rw (ends_length ends records) fits) (rw (ends_length ends records) (last_known l))
      ∙ ap (λ rs. buffer_after rs buffer) (sym (last_ended l end ends))

-- before the first tick
pub nothing_yet : (listing : Listing) → listing.written ≡ 0 → listing.places ≡ replicate most_nodes None → Holding listing.bytes.now [] listing
unfolding with_ends
nothing_yet listing none unplaced =
    record {
      counted = none;
      fits = omega arith;
      bytes = sym (buffer-none listing.bytes.now);
      placed = rw unplaced (record {
        size = length-replicate {A = Option ℕ} most_nodes None;
        last = λ v h. subst (Last v []) (sym (get_or-replicate {A = Option ℕ} most_nodes v None None h)) nowhere;
      });
    }

module _ {buffer : List ℕ} {records : List Record} {listing : Listing} (H : Holding buffer records listing) where
  pub holding_length : length listing.bytes.now ≡ length buffer
  holding_length = ap length H.bytes ∙ buffer-length (with_ends not_ended records) buffer (rw (ends_length not_ended records) H.fits)

  -- the place of a node's last record is one in the listing
  pub place_known : (v : ℕ) → v < most_nodes → IfSome (get_or listing.places v None) (λ n. record_size * (n + 1) ≤ length listing.bytes.now)
  place_known v h = known (get_or listing.places v None) (H.placed.last v h)
    where
      known : (place : Option ℕ) → Last v records place → IfSome place (λ n. record_size * (n + 1) ≤ length listing.bytes.now)
      known None l = tt
      known (Some n) l = omega (arith, last_known l, H.fits, holding_length)

  -- one record more, which ends the value before it
  pub one_more : (r : Record) → r.node < most_nodes → record_size * (listing.written + 1) ≤ length listing.bytes.now
      → (ended : List ℕ) → ended ≡ buffer_after (with_ends (end_at r.node r.tick not_ended) records) buffer
      → (now : Listing) → now.written ≡ listing.written + 1 → now.places ≡ set listing.places r.node (Some listing.written)
      → now.bytes.now ≡ written listing.written (record { start = r; end = 0 } ∷ []) ended
      → Holding buffer (records ++ r ∷ []) now
  unfolding next_of with_ends
  one_more r small room ended is now written-is places-is bytes-is =
      record {
        counted = rw (written-is, H.counted) (sym (length-append records (r ∷ [])));
        fits = rw (length-append records (r ∷ [])) (omega (arith, room, H.counted, holding_length));
        bytes =
            bytes-is
            ∙ ap (λ n. written n (record { start = r; end = 0 } ∷ []) ended) (H.counted ∙ sym count)
            ∙ buffer_more front (record { start = r; end = 0 } ∷ []) buffer ended (omega (arith, room, H.counted, holding_length, count)) is
            ∙ ap (λ rs. buffer_after rs buffer) (sym (ends_append not_ended records (r ∷ [])));
        placed = rw places-is (record { size = length-set listing.places r.node (Some listing.written) ∙ H.placed.size; last = λ v h. at v h (ℕ_discrete v r.node) });
      }
    where
      front : List Ended
      front = with_ends (end_at r.node r.tick not_ended) records

      count : length front ≡ length records
      count = ends_length (end_at r.node r.tick not_ended) records

      at : (v : ℕ) → v < most_nodes → Dec (v ≡ r.node) → Last v (records ++ r ∷ []) (get_or (set listing.places r.node (Some listing.written)) v None)
      at v h (yes e) =
          subst (Last v (records ++ r ∷ []))
          (sym (ap (λ v. get_or (set listing.places r.node (Some listing.written)) v None) e ∙ get_or-set_same listing.places r.node (Some listing.written) None (omega (arith, small, H.placed.size)) ∙ ap Some H.counted))
          (last_new (H.placed.last v h) r (sym e))
      at v h (no d) = subst (Last v (records ++ r ∷ [])) (sym (get_or-set_other listing.places r.node v (Some listing.written) None d)) (last_still (H.placed.last v h) r (λ e. d (sym e)))

-- once all of these nodes have theirs
has_end : (nodes : List ℕ) (end n k : ℕ) → k < n → ends_for nodes end n (get_or nodes k 0) ≡ end
has_end nodes end zero k h = absurd (omega arith)
has_end nodes end (suc n) k h = at (ℕ_discrete k n) (has_end nodes end n k)
  where
    other : (b : Bool) → ends_for nodes end n (get_or nodes k 0) ≡ end → (if b then end else ends_for nodes end n (get_or nodes k 0)) ≡ end
    other true before = refl
    other false before = before

    at : Dec (k ≡ n) → (k < n → ends_for nodes end n (get_or nodes k 0) ≡ end) → end_at (get_or nodes n 0) end (ends_for nodes end n) (get_or nodes k 0) ≡ end
    at (yes e) before = rw (eq-eqb (get_or nodes n 0) (get_or nodes k 0) (ap (λ k. get_or nodes k 0) (sym e)))
    at (no d) before = other (eqb (get_or nodes n 0) (get_or nodes k 0)) (before (omega arith))

pub all_have_end : (nodes : List ℕ) (end n : ℕ) (records : List Record) → ((r : Record) → Memᴰ r records → Memᴰ r.node (take n nodes))
    → with_ends (ends_for nodes end n) records ≡ with_ends (λ v. end) records
all_have_end nodes end n records among = ends_same _ _ records (λ r m. one r.node (among r m))
  where
    one : (v : ℕ) → Memᴰ v (take n nodes) → ends_for nodes end n v ≡ end
    one v m =
        let p = mem_place m in
        let h : p.0 < n = omega (arith, p.1, length-take n nodes) in
        subst (λ v. ends_for nodes end n v ≡ end) (sym (get_or-take n nodes p.0 0 h) ∙ p.2 0) (has_end nodes end n p.0 h)
