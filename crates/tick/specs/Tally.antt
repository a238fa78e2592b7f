-- What is kept of what modules give. A module that drives its node alone needs nothing: it gives the node's value. For a node with several
-- drivers there are a flag in each of their rows, what each of them gives, and how many of them give each value, so that one may give
-- another value without a look at the others.
use Rattle.std.specs.Prelude.{eqb, length, get_or, set, Bool, true, false, List, ◌≡◌, ℕ, ◌+◌, ◌-◌, ◌*◌, ◌<◌, ◌≤◌, if◌then◌else◌}
use Rattle.level.specs.Join.{count_of}
use Rattle.sheet.specs.declared.Module.{Module}
use Rattle.sheet.specs.Enumerate.{chosen, listed}
use Rattle.sheet.specs.Limits.{most_nodes, most_modules}
use Rattle.model.specs.Passes.{module_in}
use Rattle.tick.specs.declared.row.Row.{Row}
use Rattle.tick.specs.Rows.{row_in, modules_in}

-- the node that the module at position k drives
abbrev pub driven_at : List Row → ℕ → ℕ
driven_at rows k = (row_in rows k).module.output

-- the flag of the module at position k: it stands only if no other module drives its node
abbrev pub alone_at : List Row → ℕ → Bool
alone_at rows k = (row_in rows k).alone

abbrev pub DrivesAlone : List Module → ℕ → Type 0
DrivesAlone modules k = (j : ℕ) → j < length modules → (module_in modules j).output ≡ (module_in modules k).output → j ≡ k

abbrev pub Flagged : List Row → Type 0
Flagged rows = (k : ℕ) → k < length rows → alone_at rows k ≡ true → DrivesAlone (modules_in rows) k

-- what the module at position k gives: the value of its node if it drives it alone, and else what is kept of it
abbrev pub given_at : List Row → List ℕ → List ℕ → ℕ → ℕ
given_at rows values kept k = if alone_at rows k then get_or values (driven_at rows k) 0 else get_or kept k 0

abbrev pub given_in : List Row → List ℕ → List ℕ → List ℕ
given_in rows values kept = listed (length rows) (given_at rows values kept)

-- what those of the first n modules that drive a node give it at present
abbrev pub present_in : List Row → ℕ → List ℕ → ℕ → List ℕ
present_in rows n given v = chosen n (λ k. eqb (driven_at rows k) v) (λ k. get_or given k 0)

-- the counts of all nodes that there may be, one for each value
abbrev pub counts_size : ℕ
counts_size = 4 * most_nodes

abbrev pub count_at : List ℕ → ℕ → ℕ → ℕ
count_at counts v x = get_or counts (4 * v + x) 0

-- one driver of a node gives another value: one less of the old value, one more of the new
abbrev pub one_less : List ℕ → ℕ → ℕ → List ℕ
one_less counts v x = set counts (4 * v + x) (count_at counts v x - 1)

abbrev pub one_more : List ℕ → ℕ → ℕ → List ℕ
one_more counts v x = set counts (4 * v + x) (count_at counts v x + 1)

-- the counts of a node are those of what its drivers among the first n modules give
abbrev pub CountedAt : List Row → ℕ → List ℕ → List ℕ → ℕ → Type 0
CountedAt rows n kept counts v = (x : ℕ) → x < 4 → count_at counts v x ≡ count_of x (present_in rows n kept v)

-- flags that may be relied on, one that tells whether any module has none, and counts of every node of which a driver has none
pub record Tallied (rows : List Row) (shared : Bool) (kept counts : List ℕ) : Type 0 where
  pub few : length rows ≤ most_modules
  pub size : length counts ≡ counts_size
  pub flagged : Flagged rows
  pub none_flagged : shared ≡ false → (k : ℕ) → k < length rows → alone_at rows k ≡ true
  pub counted : (k : ℕ) → k < length rows → alone_at rows k ≡ false → CountedAt rows (length rows) kept counts (driven_at rows k)
