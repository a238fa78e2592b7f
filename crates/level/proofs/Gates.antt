-- What holds of the kinds' rules one by one, each by one test that antt computes over all kinds and values. Assumes nothing.
use mathlib.Core.Bool.{Bool, true, false, ◌&&◌, ◌||◌}
use mathlib.Core.List.{List, [], ◌∷◌, ◌++◌, map, Memᴰ}
use mathlib.Core.Path.{◌≡◌, ◌∙◌, refl, sym, ap}
use Prim.Native.Nat.{ℕ, zero, suc, ◌+◌, ◌≤◌, ◌<◌}
use native.Mathlib.Nat.{min-eq_left}
use native.Mathlib.Omega.{arith}
use borrow.Author.Tests.{ltb-true, ltb-false, eqb-true, lt-ltb, le-ltb, ne_eqb}
use lib.Dec.{T, eqb, leb, ltb, eqb→eq, leb→le, ltb→lt}
use lib.Ieee.Fits.{and_l, and_r}
use lib.ListN.{length, get_or, take, length-take, get_or-map, get_or-eq_default}
use Rattle.std.specs.Prelude.{if◌then◌else◌}
use Rattle.level.specs.Level.{unknown}
use Rattle.level.specs.Gate.{input_at, buffer, inverter, and, or, xor, nand, nor, clocked_inverter, multiplexer, member}
use Rattle.level.specs.Rule.{Rule, gate, hold, inputs_of, comes_to}
use Rattle.level.specs.Kind.{rules, rule_of}
use Rattle.level.specs.Table.{table_size, table_start, tabled, start_of, place_of, entry_of, tables}
use Rattle.level.proofs.Computed.{all_below, below}

-- each of a list is one of the four values
abbrev pub Values : List ℕ → Type 0
Values [] = Unit {0}
Values (a ∷ l) = (a < 4) × Values l

pub values_take : (n : ℕ) (l : List ℕ) → Values l → Values (take n l)
values_take zero l v = tt
values_take (suc n) [] v = tt
values_take (suc n) (a ∷ l) v = (v.0, values_take n l v.1)

pub values_map : (f : ℕ → ℕ) (l : List ℕ) → ((a : ℕ) → Memᴰ a l → f a < 4) → Values (map f l)
values_map f [] all = tt
values_map f (a ∷ l) all = (all a (Memᴰ.head refl), values_map f l (λ b m. all b (Memᴰ.tail m)))

pub values_all : (l : List ℕ) → ((a : ℕ) → Memᴰ a l → a < 4) → Values l
values_all [] all = tt
values_all (a ∷ l) all = (all a (Memᴰ.head refl), values_all l (λ b m. all b (Memᴰ.tail m)))

-- the input at a place, X where there is none
pub value_at : (l : List ℕ) (i : ℕ) → Values l → input_at l i < 4
value_at [] i v = omega arith
value_at (a ∷ l) zero v = v.0
value_at (a ∷ l) (suc i) v = value_at l i v.1

-- the test f passes at every list of n values
abbrev all_lists : ℕ → (List ℕ → Bool) → Bool
all_lists zero f = f []
all_lists (suc n) f = all_below 4 (λ a. all_lists n (λ l. f (a ∷ l)))

lists : (l : List ℕ) (f : List ℕ → Bool) → T (all_lists (length l) f) → Values l → T (f l)
lists [] f t v = t
lists (a ∷ l) f t v = lists l (λ l. f (a ∷ l)) (below 4 (λ a. all_lists (length l) (λ l. f (a ∷ l))) t a v.0) v.1

tabled_below : (kind : ℕ) → T (tabled kind) → kind < 16
tabled_below kind t = by (ltb kind 16) refl
  where
    by : (b : Bool) → ltb kind 16 ≡ b → kind < 16
    by true e = ltb-true kind 16 e
    by false e = absurd (rw (get_or-eq_default (rules 0) (gate 0 (λ inputs. unknown)) (ltb-false kind 16 e)) at t)

-- the test f passes at every kind that has a table and every list of as many values as its rule uses
abbrev pub all_gates : (ℕ → List ℕ → Bool) → Bool
all_gates f = all_below 16 (λ k. if tabled k then all_lists (inputs_of (rule_of k 0)) (f k) else true)

asked : (b x : Bool) → T b → T (if b then x else true) → T x
asked true x t h = h
asked false x t h = absurd t

pub gates : (f : ℕ → List ℕ → Bool) → T (all_gates f) → (kind : ℕ) (l : List ℕ) → T (tabled kind) → length l ≡ inputs_of (rule_of kind 0) → Values l → T (f kind l)
gates f t kind l h e v =
    lists l (f kind) (rw e (asked (tabled kind) (all_lists (inputs_of (rule_of kind 0)) (f kind)) h (below 16 (λ k. if tabled k then all_lists (inputs_of (rule_of k 0)) (f k) else true) t kind (tabled_below kind h)))) v

-- the start of a kind that has a table is where that begins
pub has_start : (kind : ℕ) → T (tabled kind) → start_of kind ≡ table_start kind
has_start kind t = by (tabled kind) t
  where
    by : (b : Bool) → T b → (if b then table_start kind else 488) ≡ table_start kind
    by true t = refl
    by false t = absurd t

-- a number that is no kind has no table
pub no_kind : (kind : ℕ) → 16 ≤ kind → start_of kind ≡ 488
no_kind kind h = rw (get_or-eq_default (rules 0) (gate 0 (λ inputs. unknown)) h)

-- a kind uses as many inputs at every parameter
pub same_inputs : (kind parameter : ℕ) → inputs_of (rule_of kind parameter) ≡ inputs_of (rule_of kind 0)
same_inputs kind p = sym (get_or-map inputs_of (rules p) kind (gate 0 (λ inputs. unknown))) ∙ get_or-map inputs_of (rules 0) kind (gate 0 (λ inputs. unknown))

pub most_inputs : (kind parameter : ℕ) → inputs_of (rule_of kind parameter) ≤ 3
most_inputs kind p = rw (same_inputs kind p) (by (ltb kind 16) refl)
  where
    by : (b : Bool) → ltb kind 16 ≡ b → inputs_of (rule_of kind 0) ≤ 3
    by true e = leb→le _ _ (below 16 (λ k. leb (inputs_of (rule_of k 0)) 3) tt kind (ltb-true kind 16 e))
    by false e = rw (get_or-eq_default (rules 0) (gate 0 (λ inputs. unknown)) (ltb-false kind 16 e)) (omega arith)

pub length_used : (kind parameter : ℕ) (l : List ℕ) → 3 ≤ length l → length (take (inputs_of (rule_of kind parameter)) l) ≡ inputs_of (rule_of kind parameter)
length_used kind p l three = length-take (inputs_of (rule_of kind p)) l ∙ min-eq_left (omega (arith, most_inputs kind p))

pub length-tables : length tables ≡ 488
unfolding tables
length-tables = refl

-- a gate's entry in the tables is what its rule comes to
pub gate_entry : (kind : ℕ) (inputs : List ℕ) → T (tabled kind) → length inputs ≡ inputs_of (rule_of kind 0) → Values inputs → get_or tables (entry_of kind inputs) 0 ≡ comes_to (rule_of kind 0) inputs 0
unfolding tables
gate_entry kind inputs h e v = eqb→eq _ _ (gates (λ k l. eqb (get_or tables (entry_of k l) 0) (comes_to (rule_of k 0) l 0)) tt kind inputs h e v)

-- two lists that differ in one place are the same at the others
elsewhere : (l rest : List Rule) (a b default : Rule) (i : ℕ) → (i ≡ length l → ⊥) → get_or (l ++ a ∷ rest) i default ≡ get_or (l ++ b ∷ rest) i default
elsewhere [] rest a b d zero ne = absurd (ne refl)
elsewhere [] rest a b d (suc i) ne = refl
elsewhere (x ∷ l) rest a b d zero ne = refl
elsewhere (x ∷ l) rest a b d (suc i) ne = elsewhere l rest a b d i (λ e. ne (ap suc e))

-- a gate looks at no parameter and at no held value
pub gate_same : (kind parameter : ℕ) (inputs : List ℕ) (held : ℕ) → T (tabled kind) → comes_to (rule_of kind parameter) inputs held ≡ comes_to (rule_of kind 0) inputs 0
gate_same zero p l h t = absurd t
gate_same (suc k) p l h t = ap (λ r. comes_to r l h) (at (λ e. not_memory k e t)) ∙ unheld (rule_of (suc k) 0) t
  where
    unheld : (r : Rule) → T (ltb 0 (table_size r)) → comes_to r l h ≡ comes_to r l 0
    unheld (gate n f) t = refl
    unheld (hold set) t = absurd t

    not_memory : (k : ℕ) → k ≡ 8 → T (tabled (suc k)) → ⊥
    not_memory k e t = rw e at t

    of_one_or_two : List Rule
    of_one_or_two = gate 1 buffer ∷ gate 1 inverter ∷ gate 2 and ∷ gate 2 or ∷ gate 2 xor ∷ gate 2 nand ∷ gate 2 nor ∷ gate 2 clocked_inverter ∷ []

    of_three : List Rule
    of_three = gate 3 and ∷ gate 3 or ∷ gate 3 xor ∷ gate 3 nand ∷ gate 3 nor ∷ gate 3 multiplexer ∷ []

    at : (k ≡ 8 → ⊥) → rule_of (suc k) p ≡ rule_of (suc k) 0
    at ne = elsewhere of_one_or_two of_three (hold (member p)) (hold (member 0)) (gate 0 (λ inputs. unknown)) k ne

-- a memory comes to its first input or to what it held
chosen : (b : Bool) {x y : ℕ} → x < 4 → y < 4 → (if b then x else y) < 4
chosen true h l = h
chosen false h l = l

-- a rule comes to a value over values
pub level_bound : (kind parameter : ℕ) (inputs : List ℕ) (held : ℕ) → (kind ≡ 0 → parameter < 4) → length inputs ≡ inputs_of (rule_of kind parameter) → Values inputs → held < 4 → comes_to (rule_of kind parameter) inputs held < 4
level_bound zero p l h q e v s = q refl
level_bound (suc k) p l h q e v s = by (tabled (suc k)) refl (eqb k 8) refl
  where
    -- a kind without a table is a constant, a memory or no kind
    others : ltb k 15 ≡ true → tabled (suc k) ≡ false → eqb k 8 ≡ false → ⊥
    others b t m = rw (t, m) at (below 15 (λ k. tabled (suc k) || eqb k 8) tt k (ltb-true k 15 b))

    past : (b : Bool) → ltb k 15 ≡ b → tabled (suc k) ≡ false → eqb k 8 ≡ false → comes_to (rule_of (suc k) p) l h < 4
    past true b t m = absurd (others b t m)
    past false b t m = rw (get_or-eq_default (rules p) (gate 0 (λ inputs. unknown)) {n = suc k} (omega (arith, ltb-false k 15 b))) (omega arith)

    by : (g : Bool) → tabled (suc k) ≡ g → (m : Bool) → eqb k 8 ≡ m → comes_to (rule_of (suc k) p) l h < 4
    by true g m i =
        let t : T (tabled (suc k)) = rw g tt in
        rw (gate_same (suc k) p l h t) (ltb→lt _ _ (gates (λ k l. ltb (comes_to (rule_of k 0) l 0) 4) tt (suc k) l t (e ∙ same_inputs (suc k) p) v))
    by false g true i = rw (eqb-true k 8 i) (chosen (member p (input_at l 1)) (value_at l 0 v) s)
    by false g false i = past (ltb k 15) refl g i

-- a rule that held what it comes to comes to that
pub again : (r : Rule) (inputs : List ℕ) (held : ℕ) → comes_to r inputs (comes_to r inputs held) ≡ comes_to r inputs held
again (gate n f) l h = refl
again (hold set) l h = twice (set (input_at l 1))
  where
    twice : (b : Bool) → (if b then input_at l 0 else if b then input_at l 0 else h) ≡ (if b then input_at l 0 else h)
    twice true = refl
    twice false = refl

-- a kind whose start tells that it has a table: how many inputs it uses, and that so many entries from its start on are within the tables
pub record Tabled (kind n size : ℕ) : Type 0 where
  pub has_table : T (tabled kind)
  pub inputs : inputs_of (rule_of kind 0) ≡ n
  pub within : start_of kind + size ≤ 488

module _ (n size from to : ℕ) where
  abbrev uses : ℕ → Bool
  uses k = eqb (inputs_of (rule_of k 0)) n

  abbrev ends : ℕ → Bool
  ends k = leb (start_of k + size) 488

  -- what a start from here to there tells
  abbrev told : ℕ → Bool
  told k = if ltb (start_of k) to then if ltb (start_of k) from then true else tabled k && (uses k && ends k) else true

  tells : T (all_below 16 told) → to ≤ 488 → (k : ℕ) → from ≤ start_of k → start_of k < to → Tabled k n size
  tells t e k l h = by (ltb k 16) refl
    where
      by : (b : Bool) → ltb k 16 ≡ b → Tabled k n size
      by true i =
          let test = rw (lt-ltb (start_of k) to h, le-ltb (start_of k) from l) at (below 16 told t k (ltb-true k 16 i)) in
          let rest = and_r (tabled k) (uses k && ends k) test in
          record { has_table = and_l (tabled k) (uses k && ends k) test; inputs = eqb→eq _ _ (and_l (uses k) (ends k) rest); within = leb→le _ _ (and_r (uses k) (ends k) rest) }
      by false i = absurd (omega (arith, no_kind k (ltb-false k 16 i)))

-- the starts below 8 are those of gates of one input, then come those of two, and from 104 on those of three
pub of_one : (k : ℕ) → start_of k < 8 → Tabled k 1 4
of_one k h = tells 1 4 0 8 tt (omega arith) k (omega arith) h

pub of_two : (k : ℕ) → 8 ≤ start_of k → start_of k < 104 → Tabled k 2 16
of_two k l h = tells 2 16 8 104 tt (omega arith) k l h

pub of_three : (k : ℕ) → 104 ≤ start_of k → start_of k < 488 → Tabled k 3 64
of_three k l h = tells 3 64 104 488 tt (omega arith) k l h

-- a kind that has no table is a constant or a memory
pub of_none : (k : ℕ) → k < 16 → 488 ≤ start_of k → (k ≡ 0 → ⊥) → k ≡ 9
of_none k h l ne = eqb→eq _ _ (rw (le-ltb (start_of k) 488 l, ne_eqb k 0 ne) at (below 16 (λ k. if ltb (start_of k) 488 then true else if eqb k 0 then true else eqb k 9) tt k h))

-- an entry of such a kind's table, counted from the kind's start
pub entry_at : {kind n size : ℕ} → Tabled kind n size → (inputs : List ℕ) (place : ℕ) → length inputs ≡ n → Values inputs → place ≡ place_of inputs
    → get_or tables (start_of kind + place) 0 ≡ comes_to (rule_of kind 0) inputs 0
entry_at {kind} t inputs place e v p = rw (has_start kind t.has_table, p) (gate_entry kind inputs t.has_table (e ∙ sym t.inputs) v)
