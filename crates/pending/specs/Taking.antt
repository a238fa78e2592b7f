-- Changes due at a tick are taken one at a time, in one pass over the numbers.
use mathlib.Core.List.{List, [], ◌∷◌, ◌++◌, Memᴰ}
use Rattle.std.specs.Prelude.{◌≡◌, ℕ, ◌-◌, ◌<◌, ◌≤◌, length, take, drop}
use Rattle.model.specs.Change.{Change}
use Rattle.pending.specs.declared.Scan.{Scan}
use Rattle.pending.specs.declared.Met.{Met}
use Rattle.pending.specs.declared.Met.TheVariants as met
use Rattle.pending.specs.Flat.{flat_due, flat_rest}
use Rattle.pending.specs.Kept.{arrangement}

-- where a pass begins, and how far it has to go
abbrev pub from_start : arrangement.Kept → Scan
from_start held = record { kept = 0; at = 0; end = arrangement.count held }

abbrev pub to_go : Scan → ℕ
to_go scan = scan.end - scan.at

-- a scan within the numbers held
pub record Within (held : List ℕ) (scan : Scan) : Type 0 where
  pub kept : scan.kept ≤ scan.at
  pub at : scan.at ≤ scan.end
  pub all : scan.end ≡ length held

-- the numbers were `start` when the pass at tick t began
module _ (start : List ℕ) (t : ℕ) where
  -- of the first `at` numbers those due are taken, the others stand first, `kept` of them, and those from `at` on are as they were
  pub record Taking (taken : List Change) (held : List ℕ) (scan : Scan) : Type 0 where
    pub within : Within held scan
    pub counted : length start ≡ length held
    pub takes : taken ≡ flat_due (take scan.at start) t
    pub stay : take scan.kept held ≡ flat_rest (take scan.at start) t
    pub ahead : drop scan.at held ≡ drop scan.at start

  -- one more change is taken, which is due, and the scan has gone on past it
  pub record OneTaken (taken : List Change) (held : List ℕ) (from : Scan) (x : Change) (scan : Scan) : Type 0 where
    pub position : x.position < 256
    pub value : x.value < 4
    pub due : Memᴰ x (arrangement.due start t)
    pub nearer : to_go scan < to_go from
    pub taking : Taking (taken ++ x ∷ []) held scan

  -- one more change stays, and the scan has gone on past it
  pub record OneKept (taken : List Change) (held : List ℕ) (from scan : Scan) : Type 0 where
    pub nearer : to_go scan < to_go from
    pub taking : Taking taken held scan

  -- all that are due are taken, and those that stay are held
  pub record AllTaken (taken : List Change) (held : arrangement.Kept) : Type 0 where
    pub takes : taken ≡ arrangement.due start t
    pub stay : held ≡ arrangement.rest start t
    pub fewer : arrangement.count held ≤ arrangement.count start

  -- what is met next, from a scan on
  abbrev pub TakenOn : List Change → List ℕ → Scan → Met → Type 0
  TakenOn taken held from (met.Due k v scan) = OneTaken taken held from (record { due = t; position = k; value = v }) scan
  TakenOn taken held from (met.Stays scan) = OneKept taken held from scan
  TakenOn taken held from met.End = AllTaken taken held
