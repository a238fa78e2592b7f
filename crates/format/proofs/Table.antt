-- Each row's test in the refusals' table tells the condition of its number at its place, and each condition met has its row. Assumes nothing.
use lib.ListN.{length, get_or}
use lib.Dec.{ltb}
use mathlib.Core.Bool.{Bool, true}
use mathlib.Core.List.Memᴰ.{tail as later}
use mathlib.Core.List.{List, [], ◌∷◌, Memᴰ}
use mathlib.Core.Logic.{◌↔◌, ◌⊎◌}
use mathlib.Core.Path.{◌≡◌, refl, subst}
use Prim.Native.Nat.{ℕ, ◌+◌, ◌<◌, ◌≤◌}
use Rattle.sheet.specs.Bytes.{byte_at, word_at}
use Rattle.sheet.specs.declared.Edition.{Edition}
use Rattle.sheet.specs.Enumerate.{each}
use Rattle.sheet.specs.Limits.{input_byte, last_value, longest_delay, last_tick}
use Rattle.sheet.specs.Sheet.{node_count}
use Rattle.sheet.specs.Layout.{nodes_counted, node_at, modules_counted, module_record, module_at, events_counted, event_place, event_record, event_at, watched_counted, watch_place, watched_at, sheet_end, sheet_of}
use Rattle.sheet.specs.Wiring.{is_input}
use Rattle.sheet.specs.Loop.{OnLoop}
use Rattle.sheet.specs.Refusal.{Row, ◌at◌when◌, outside, greatest_parameter, key, count_rows, node_rows, module_rows, start_rows, event_rows, first_event_rows, first_events_section, watched_rows, left_over_rows, loop_rows, bytes_rows, rows}
use Rattle.format.specs.Accepted.{Driven, Input, DrivenAtStart}
use Rattle.format.specs.Condition.{Count, of_nodes, of_modules, of_drive, of_watched, Part, a_count, a_node, a_module, an_event, a_watched, Miswired, NotAbove, ConditionBy, ends_inside, outside_range, byte_above, kind_above, parameter_not_allowed, wrong_wiring, delay_above, driven_or_not, tick_above, not_an_input, value_above, not_above_before, no_first_event, wrong_watched, left_over, on_loop}
use Rattle.sheet.proofs.Tests.{Tells, tells_as, tells_lt, tells_not, tells_outside}
use Rattle.sheet.proofs.Parts.{counts_nodes}
use Rattle.sheet.proofs.Rows.{All, all_nil, ◌and◌, ◌then◌, all_each, all_where}
use Rattle.format.proofs.Sections.{in_count, in_node, in_module, in_event, in_watched_node, in_start, in_first_event, in_left_over, in_bytes, in_loop}
use Rattle.format.proofs.Condition.{tells_input, tells_miswired, tells_start, tells_event, tells_first_event, tells_wrong_watched}
use Rattle.format.proofs.Chains.{loop_node, loop_test}
use Rattle.format.proofs.Places.{same_size, same_range, same_event, same_watched}

-- no such node, or not above the one before
abbrev WrongWatched : Edition → List ℕ → ℕ → Type 0
WrongWatched E s k = nodes_counted s ≤ watched_at E s k ⊎ NotAbove (watched_at E s) k

-- What a condition says, by its number, of its place alone.
abbrev Says : Bool → Edition → List ℕ → ℕ → ℕ → Type 0
Says strict E s n p =
    get_or
    (⊥
    ∷ ⊥
    ∷ ((size : ℕ) × Part E s p size × length s < p + size)
    ∷ ((least : ℕ) × (greatest : ℕ) × Count E s p least greatest × (word_at s p < least ⊎ greatest < word_at s p))
    ∷ (input_byte < byte_at s p)
    ∷ (E.greatest < (module_record E s p).kind)
    ∷ (greatest_parameter (module_record E s p).kind < (module_record E s p).parameter)
    ∷ Miswired (nodes_counted s) (module_record E s p)
    ∷ (longest_delay < (module_record E s p).delay)
    ∷ ⊥
    ∷ ((Driven (sheet_of E s) p × (node_at s p ≡ input_byte)) ⊎ ((Driven (sheet_of E s) p → ⊥) × node_at s p < input_byte))
    ∷ (last_tick < (event_record s p).tick)
    ∷ (Input (sheet_of E s) (event_record s p).node → ⊥)
    ∷ (last_value < (event_record s p).value)
    ∷ ((k : ℕ) × (event_place E s k ≡ p) × NotAbove (λ k. key (event_at E s k)) k)
    ∷ ((strict ≡ true) × Input (sheet_of E s) p × (DrivenAtStart (sheet_of E s) p → ⊥))
    ∷ ((k : ℕ) × (watch_place E s k ≡ p) × WrongWatched E s k)
    ∷ (sheet_end E s < length s)
    ∷ OnLoop (sheet_of E s) p
    ∷ [])
    n
    ⊥

says : {strict : Bool} {E : Edition} {s : List ℕ} {n p : ℕ} → ConditionBy strict E s n p → Says strict E s n p
says (ends_inside {size} part h) = (size, part, h)
says (outside_range {least} {greatest} c h) = (least, greatest, c, h)
says (byte_above v h c) = c
says (kind_above m h c) = c
says (parameter_not_allowed m h c) = c
says (wrong_wiring m h c) = c
says (delay_above m h c) = c
says (driven_or_not v h c) = c
says (tick_above e h c) = c
says (not_an_input e h c) = c
says (value_above e h c) = c
says (not_above_before e h c) = (e, refl, c)
says (no_first_event is v i c) = (is, i, c)
says (wrong_watched k h c) = (k, refl, c)
says (left_over c) = c
says (on_loop v c) = c

-- no condition is 9's
pub none_at_9 : {strict : Bool} {E : Edition} {s : List ℕ} {p : ℕ} → ConditionBy strict E s 9 p → ⊥
none_at_9 c = says c

-- the condition of 15 is a strict check's alone
pub strict_at_15 : {strict : Bool} {E : Edition} {s : List ℕ} {p : ℕ} → ConditionBy strict E s 15 p → strict ≡ true
strict_at_15 c = (says c).0

here : {r : Row} {xs : List Row} → Memᴰ r (r ∷ xs)
here = Memᴰ.head refl

-- what holds of some record with this first byte holds of this record
of_this : (P : ℕ → Type 0) (place : ℕ → ℕ) → ((a b : ℕ) → place a ≡ place b → a ≡ b) → (m : ℕ) → ((k : ℕ) × (place k ≡ place m) × P k) → P m
of_this P place same m h = subst P (same h.0 m h.1) h.2

-- Each row, by its section: the test tells the condition, since number and place determine what is tested.
abbrev Told : Bool → Edition → List ℕ → Row → Type 0
Told strict E s r = Tells r.met (ConditionBy strict E s r.number r.place)

module _ (strict : Bool) (E : Edition) (some : 0 < E.size) (s : List ℕ) where
  by_order : {n p : ℕ} (a b : ℕ) → (a < b → ConditionBy strict E s n p) → (ConditionBy strict E s n p → a < b) → Tells (ltb a b) (ConditionBy strict E s n p)
  by_order a b to from = tells_as (tells_lt a b) (to, from)

  short_told : {p size : ℕ} → Part E s p size → Tells (ltb (length s) (p + size)) (ConditionBy strict E s 2 p)
  short_told {p} {size} part = by_order (length s) (p + size) (ends_inside part) (λ c. let h = says c in subst (λ size. length s < p + size) (same_size some h.1 part) h.2)

  outside_told : {p least greatest : ℕ} → Count E s p least greatest → Tells (outside least greatest (word_at s p)) (ConditionBy strict E s 3 p)
  outside_told {p} {least} {greatest} c = tells_as (tells_outside least greatest (word_at s p)) (outside_range c, again)
    where
      Outside : ℕ × ℕ → Type 0
      Outside range = word_at s p < range.0 ⊎ range.1 < word_at s p

      again : ConditionBy strict E s 3 p → Outside (least, greatest)
      again t = let h = says t in subst Outside (same_range h.2 c) h.3

  count_told : {p least greatest : ℕ} → Count E s p least greatest → All (Told strict E s) (count_rows s p least greatest)
  count_told c =
      short_told (a_count c)
      and outside_told c
      and all_nil (Told strict E s)

  node_told : (v : ℕ) → v < nodes_counted s → All (Told strict E s) (node_rows s v)
  node_told v h =
      short_told (a_node v h)
      and by_order input_byte (node_at s v) (byte_above v h) says
      and all_nil (Told strict E s)

  module_told : (m : ℕ) → m < modules_counted s → All (Told strict E s) (module_rows E s m)
  module_told m h =
      short_told (a_module m h)
      and by_order E.greatest (module_at E s m).kind (kind_above m h) says
      and by_order (greatest_parameter (module_at E s m).kind) (module_at E s m).parameter (parameter_not_allowed m h) says
      and tells_as (tells_miswired (nodes_counted s) (module_at E s m)) (wrong_wiring m h, says)
      and by_order longest_delay (module_at E s m).delay (delay_above m h) says
      and all_nil (Told strict E s)

  start_told : (v : ℕ) → v < nodes_counted s → All (Told strict E s) (start_rows E s v)
  start_told v h = tells_as (tells_start E s v) (driven_or_not v h, says) and all_nil (Told strict E s)

  event_told : (k : ℕ) → k < events_counted E s → All (Told strict E s) (event_rows E s k)
  event_told k h =
      short_told (an_event k h)
      and by_order last_tick (event_at E s k).tick (tick_above k h) says
      and tells_as (tells_not (is_input (sheet_of E s) (event_at E s k).node) (tells_input (sheet_of E s) (event_at E s k).node)) (not_an_input k h, says)
      and by_order last_value (event_at E s k).value (value_above k h) says
      and tells_as (tells_event E s k) (not_above_before k h, λ c. of_this (NotAbove (λ k. key (event_at E s k))) (event_place E s) (same_event E s) k (says c))
      and all_nil (Told strict E s)

  first_event_told : strict ≡ true → (v : ℕ) → All (Told strict E s) (first_event_rows E s v)
  first_event_told is v = tells_as (tells_first_event (sheet_of E s) v) (λ c. no_first_event is v c.0 c.1, λ c. let h = says c in (h.1, h.2)) and all_nil (Told strict E s)

  first_events_told : All (Told strict E s) (first_events_section strict E s)
  first_events_told = all_where strict (each (nodes_counted s) (first_event_rows E s)) (λ is. all_each (nodes_counted s) (first_event_rows E s) (λ v h. first_event_told is v))

  watched_told : (k : ℕ) → k < watched_counted E s → All (Told strict E s) (watched_rows E s k)
  watched_told k h =
      short_told (a_watched k h)
      and tells_as (tells_wrong_watched E s k) (wrong_watched k h, λ c. of_this (WrongWatched E s) (watch_place E s) (same_watched E s) k (says c))
      and all_nil (Told strict E s)

  left_over_told : All (Told strict E s) (left_over_rows E s)
  left_over_told = by_order (sheet_end E s) (length s) left_over says and all_nil (Told strict E s)

  loop_told : (v : ℕ) → v < node_count (sheet_of E s) → All (Told strict E s) (loop_rows (sheet_of E s) v)
  loop_told v h = tells_as (loop_test (sheet_of E s) v h) (on_loop v, says) and all_nil (Told strict E s)

  -- front to back
  rows_told : All (Told strict E s) (rows strict E s)
  unfolding rows bytes_rows
  rows_told =
      (count_told of_nodes then all_each (nodes_counted s) (node_rows s) node_told)
      then (count_told of_modules then all_each (modules_counted s) (module_rows E s) module_told)
      then all_each (nodes_counted s) (start_rows E s) start_told
      then (count_told of_drive then all_each (events_counted E s) (event_rows E s) event_told)
      then first_events_told
      then (count_told of_watched then all_each (watched_counted E s) (watched_rows E s) watched_told)
      then left_over_told
      then all_each (node_count (sheet_of E s)) (loop_rows (sheet_of E s)) loop_told

  -- A condition has its row: where it stands, whatever its test.
  abbrev Stands : ℕ → ℕ → Type 0
  Stands n p = (b : Bool) × Memᴰ (n at p when b) (rows strict E s)

  of_bytes : {n p : ℕ} {b : Bool} → Memᴰ (n at p when b) (bytes_rows strict E s) → Stands n p
  of_bytes {b} m = (b, in_bytes strict E s m)

  short_stands : {p size : ℕ} → Part E s p size → Stands 2 p
  short_stands (a_count c) = of_bytes (in_count strict E s c here)
  short_stands (a_node v h) = of_bytes (in_node strict E s v h here)
  short_stands (a_module m h) = of_bytes (in_module strict E s m h here)
  short_stands (an_event e h) = of_bytes (in_event strict E s e h here)
  short_stands (a_watched k h) = of_bytes (in_watched_node strict E s k h here)

  stands : {n p : ℕ} → ConditionBy strict E s n p → Stands n p
  stands (ends_inside part l) = short_stands part
  stands (outside_range c o) = of_bytes (in_count strict E s c (later here))
  stands (byte_above v h c) = of_bytes (in_node strict E s v h (later here))
  stands (kind_above m h c) = of_bytes (in_module strict E s m h (later here))
  stands (parameter_not_allowed m h c) = of_bytes (in_module strict E s m h (later (later here)))
  stands (wrong_wiring m h c) = of_bytes (in_module strict E s m h (later (later (later here))))
  stands (delay_above m h c) = of_bytes (in_module strict E s m h (later (later (later (later here)))))
  stands (driven_or_not v h c) = of_bytes (in_start strict E s v h here)
  stands (tick_above e h c) = of_bytes (in_event strict E s e h (later here))
  stands (not_an_input e h c) = of_bytes (in_event strict E s e h (later (later here)))
  stands (value_above e h c) = of_bytes (in_event strict E s e h (later (later (later here))))
  stands (not_above_before e h c) = of_bytes (in_event strict E s e h (later (later (later (later here)))))
  stands (no_first_event is v i c) = of_bytes (in_first_event strict E s is v (rw (counts_nodes E s) at i.node) here)
  stands (wrong_watched k h c) = of_bytes (in_watched_node strict E s k h (later here))
  stands (left_over c) = of_bytes (in_left_over strict E s here)
  stands (on_loop v c) = (_, in_loop strict E s v (loop_node (sheet_of E s) c) here)

-- each row of the table: its test passes exactly when its condition is met
pub row_tells : (strict : Bool) (E : Edition) → 0 < E.size → (s : List ℕ) (r : Row) → Memᴰ r (rows strict E s) → Tells r.met (ConditionBy strict E s r.number r.place)
row_tells = rows_told

-- a row that is met, with this number and place: exactly where the condition is met
pub met_iff : (strict : Bool) (E : Edition) → 0 < E.size → (s : List ℕ) (n p : ℕ) → Memᴰ (n at p when true) (rows strict E s) ↔ ConditionBy strict E s n p
met_iff strict E some s n p = (λ m. (row_tells strict E some s (n at p when true) m).0 refl, λ c. let row = stands strict E some s c in subst (λ b. Memᴰ (n at p when b) (rows strict E s)) ((row_tells strict E some s (n at p when row.0) row.1).1 c) row.1)
