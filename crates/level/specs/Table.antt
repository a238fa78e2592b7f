-- The constant tables: one for each kind of gate that has inputs, kind after kind: 4 entries for one input, 16 for
-- two and 64 for three.
-- First where a gate's entry stands in them, then the entries.
use Rattle.std.specs.Prelude.{Bool, List, [], ◌∷◌, ◌++◌, map, ℕ, zero, suc, ◌+◌, ◌*◌, ◌^◌, ltb, if◌then◌else◌}
use Rattle.level.specs.Rule.{Rule, gate, hold}
use Rattle.level.specs.Kind.{rule_of, last_kind}

-- the entries of a rule's table: one for all values of its inputs; a constant and a memory have none
abbrev pub table_size : Rule → ℕ
table_size (gate zero f) = 0
table_size (gate (suc n) f) = 4 ^ suc n
table_size (hold set) = 0

-- where a kind's table begins: after those of the kinds before it
abbrev pub table_start : ℕ → ℕ
table_start zero = 0
table_start (suc kind) = table_start kind + table_size (rule_of kind 0)

-- a kind has a table: its rule is a gate that has inputs
abbrev pub tabled : ℕ → Bool
tabled kind = ltb 0 (table_size (rule_of kind 0))

-- a kind's start: where its table begins, and for a kind that has none the end of all tables, where no entry stands
abbrev pub start_of : ℕ → ℕ
start_of kind = if tabled kind then table_start kind else table_start (suc last_kind)

-- where in a table the entry of the inputs' values stands, the first input's value counting most, after the values already passed
abbrev pub place_after : ℕ → List ℕ → ℕ
place_after place [] = place
place_after place (a ∷ rest) = place_after (4 * place + a) rest

abbrev pub place_of : List ℕ → ℕ
place_of inputs = place_after 0 inputs

abbrev pub entry_of : ℕ → List ℕ → ℕ
entry_of kind inputs = table_start kind + place_of inputs

-- each of some lists with a value put first
abbrev pub behind : ℕ → List (List ℕ) → List (List ℕ)
behind a lists = map (λ rest. a ∷ rest) lists

-- all lists of so many values, in the order of their places
abbrev pub spread : ℕ → List (List ℕ)
spread zero = [] ∷ []
spread (suc n) = behind 0 (spread n) ++ behind 1 (spread n) ++ behind 2 (spread n) ++ behind 3 (spread n)

-- a rule's table: what it gives at all values of its inputs
abbrev pub table_of : Rule → List ℕ
table_of (gate zero f) = []
table_of (gate (suc n) f) = map f (spread (suc n))
table_of (hold set) = []

-- the tables of the kinds before one
abbrev pub tables_before : ℕ → List ℕ
tables_before zero = []
tables_before (suc kind) = tables_before kind ++ table_of (rule_of kind 0)

-- of all kinds
unfoldable pub tables : List ℕ
tables = tables_before (suc last_kind)
