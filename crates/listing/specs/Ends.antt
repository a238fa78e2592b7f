-- The ends that records get while they are listed: from later records of the same node, and at the last what is given for the node.
use Rattle.std.specs.Prelude.{List, [], ◌∷◌, ◌≡◌, ℕ, zero, suc, ◌*◌, ◌<◌, ◌≤◌, eqb, length, get_or, if◌then◌else◌, Option, Some, None}
use Rattle.sheet.specs.Limits.{most_nodes}
use Rattle.network.specs.Listing.{Record}
use Rattle.network.specs.Ends.{Ended}
use Rattle.network.specs.Buffer.{record_size, buffer_after}
use Rattle.listing.specs.declared.Listing.{Listing}

-- the tick of the first of these records that is the node's, and what is given where there is none
unfoldable pub next_of : List Record → ℕ → ℕ → ℕ
next_of [] v end = end
next_of (r ∷ rs) v end = if eqb r.node v then r.tick else next_of rs v end

-- each record ends at the next one of its node, and a node's last at what is given for the node
unfoldable pub with_ends : (ℕ → ℕ) → List Record → List Ended
with_ends ends [] = []
with_ends ends (r ∷ rs) = record { start = r; end = next_of rs r.node (ends r.node) } ∷ with_ends ends rs

-- another end is given for one node
abbrev pub end_at : ℕ → ℕ → (ℕ → ℕ) → ℕ → ℕ
end_at v end ends w = if eqb v w then end else ends w

-- A node's last record, by its number, where the node has one.
pub data Last (v : ℕ) : List Record → Option ℕ → Type 0 where
  nowhere : Last v [] None
  elsewhere : {r : Record} {rs : List Record} → (r.node ≡ v → ⊥) → Last v rs None → Last v (r ∷ rs) None
  here : {r : Record} {rs : List Record} → r.node ≡ v → Last v rs None → Last v (r ∷ rs) (Some 0)
  later : {r : Record} {rs : List Record} {n : ℕ} → Last v rs (Some n) → Last v (r ∷ rs) (Some (suc n))

-- each node's last record has its place
pub record Placed (records : List Record) (places : List (Option ℕ)) : Type 0 where
  pub size : length places ≡ most_nodes
  pub last : (v : ℕ) → v < most_nodes → Last v records (get_or places v None)

-- a value that still lasts has no end yet
abbrev pub not_ended : ℕ → ℕ
not_ended v = 0

-- the first k of these nodes have theirs
abbrev pub ends_for : List ℕ → ℕ → ℕ → ℕ → ℕ
ends_for nodes end zero = not_ended
ends_for nodes end (suc k) = end_at (get_or nodes k 0) end (ends_for nodes end k)

-- The listing between ticks: so many records are written into the buffer, values that still last have end 0, and the places are theirs.
pub record Holding (buffer : List ℕ) (records : List Record) (listing : Listing) : Type 0 where
  pub counted : listing.written ≡ length records
  pub fits : record_size * length records ≤ length buffer
  pub bytes : listing.bytes.now ≡ buffer_after (with_ends not_ended records) buffer
  pub placed : Placed records listing.places

-- it holds some records of some buffer
abbrev pub Held : Listing → Type 0
Held listing = (buffer : List ℕ) × (records : List Record) × Holding buffer records listing
