-- What a check tells of the rows that it goes through: the first of them that is met, and without one what stands there.
use Rattle.std.specs.Prelude.{List, ◌≡◌, ℕ, Result}
use Rattle.sheet.specs.declared.Edition.{Edition}
use Rattle.sheet.specs.declared.refusal.Refusal.{Refusal}
use Rattle.sheet.specs.Layout.{nodes_counted, node_place, node_at, watch_place, watched_at}
use Rattle.sheet.specs.Refusal.{node_rows, watched_rows}
use Rattle.sheet.specs.Told.{Told}
use Rattle.read_nodes.specs.Rising.{least_after}

-- of the node that stands at a place
abbrev pub NodeTold : List ℕ → ℕ → Result ℕ Refusal → Type 0
NodeTold s at r = (v : ℕ) → at ≡ node_place v → Told (node_rows s v) (λ byte. byte ≡ node_at s v) r

-- of the watched node that stands at a place, where the nodes are counted and the least that it may be is known
abbrev pub WatchedTold : List ℕ → ℕ → ℕ → ℕ → Result ℕ Refusal → Type 0
WatchedTold s at nodes least r =
    (e : Edition) (k : ℕ) → at ≡ watch_place e s k → nodes ≡ nodes_counted s → least ≡ least_after (watched_at e s) k
    → Told (watched_rows e s k) (λ byte. byte ≡ watched_at e s k) r
