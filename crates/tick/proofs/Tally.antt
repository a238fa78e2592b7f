-- The counts of what a node's drivers give: a contribution that changes takes one off and adds one, at its own node alone; so the counts tell the join. Flags and counts as they are loaded. Assumes nothing.
use borrow.Author.Tests.{eqb-true, eq-eqb, ne_eqb}
use lib.Dec.{eqb}
use lib.ListN.{length, get_or, set, replicate, length-set, get_or-replicate}
use lib.Seq.{get_or-set_same, get_or-set_other}
use mathlib.Core.Bool.{Bool, true, false}
use mathlib.Core.List.{List, [], ◌∷◌}
use mathlib.Core.Path.{◌≡◌, refl, sym, ap, ◌∙◌, subst}
use native.Mathlib.Decide.{ℕ_discrete}
use native.Mathlib.Nat.{not-suc-le-zero}
use native.Mathlib.Numerals.{add-one}
use native.Mathlib.Omega.{arith}
use Prim.Native.Nat.{ℕ, zero, suc, ◌+◌, ◌-◌, ◌*◌, ◌<◌, ◌≤◌}
use Rattle.std.specs.Prelude.{if◌then◌else◌}
use Rattle.level.specs.Join.{joined, count_of, joined_counts}
use Rattle.level.proofs.Gates.{values_all}
use Rattle.level.proofs.Join.{joined_by_counts, count_append, count_member}
use Rattle.sheet.specs.Enumerate.{each, chosen}
use Rattle.sheet.proofs.Chosen.{chosen_same, chosen_all, chosen-mem}
use Rattle.tick.specs.declared.row.Row.{Row}
use Rattle.tick.specs.Rest.{Levels}
use Rattle.tick.specs.Tally.{driven_at, present_in, count_at, one_less, one_more, alone_at, Flagged, CountedAt, Tallied}

-- one where a value is x
abbrev pub one : ℕ → ℕ → ℕ
one a x = if eqb a x then 1 else 0

-- what is chosen, counted
module _ (p : ℕ → Bool) (x : ℕ) where
  last_counted : (b : Bool) (a : ℕ) → count_of x (if b then a ∷ [] else []) ≡ (if b then one a x else 0)
  last_counted true a = refl
  last_counted false a = refl

  pub count_more : (n : ℕ) (f : ℕ → ℕ) → count_of x (chosen (suc n) p f) ≡ count_of x (chosen n p f) + (if p n then one (f n) x else 0)
  unfolding each
  count_more n f = count_append x (chosen n p f) (if p n then f n ∷ [] else []) ∙ ap (λ c. count_of x (chosen n p f) + c) (last_counted (p n) (f n))

  pub count_most : (n : ℕ) (f : ℕ → ℕ) → count_of x (chosen n p f) ≤ n
  unfolding each
  count_most zero f = omega arith
  count_most (suc n) f = omega (arith, count_more n f, count_most n f, at_most (p n) (eqb (f n) x))
    where
      at_most : (a b : Bool) → (if a then if b then 1 else 0 else 0) ≤ 1
      at_most true true = omega arith
      at_most true false = omega arith
      at_most false b = omega arith

  -- given anew at one number
  count_changed : (n : ℕ) (f g : ℕ → ℕ) (k : ℕ) → k < n → p k ≡ true → ((j : ℕ) → (j ≡ k → ⊥) → f j ≡ g j) → count_of x (chosen n p f) + one (g k) x ≡ count_of x (chosen n p g) + one (f k) x
  count_changed zero f g k h e same = absurd (not-suc-le-zero h)
  count_changed (suc n) f g k h e same = by (ℕ_discrete n k) (λ l. count_changed n f g k l e same)
    where
      by : Dec (n ≡ k) → (k < n → count_of x (chosen n p f) + one (g k) x ≡ count_of x (chosen n p g) + one (f k) x) → count_of x (chosen (suc n) p f) + one (g k) x ≡ count_of x (chosen (suc n) p g) + one (f k) x
      by (yes i) before =
          omega (
            arith,
            count_more n f,
            count_more n g,
            ap (count_of x) (chosen_same n p p f g (λ j l. refl) (λ j l q. same j (λ c. omega (arith, c, i)))),
            ap (λ j. if p j then one (f j) x else 0) i ∙ ap (λ b. if b then one (f k) x else 0) e,
            ap (λ j. if p j then one (g j) x else 0) i ∙ ap (λ b. if b then one (g k) x else 0) e,
          )
      by (no d) before = omega (arith, count_more n f, count_more n g, before (omega arith), ap (λ a. if p n then one a x else 0) (same n d))

-- one entry of the counts, and another
module _ (counts : List ℕ) (size : length counts ≡ 1024) (v x : ℕ) (node : v < 256) (value : x < 4) where
  within : 4 * v + x < length counts
  within = omega arith

  pub more_at : (y : ℕ) → count_at (one_more counts v x) v y ≡ count_at counts v y + one x y
  more_at y = by (ℕ_discrete x y)
    where
      by : Dec (x ≡ y) → count_at (one_more counts v x) v y ≡ count_at counts v y + one x y
      by (yes e) = rw (eq-eqb x y e, ← e) (get_or-set_same counts (4 * v + x) _ 0 within)
      by (no d) = rw (ne_eqb x y d) (get_or-set_other counts (4 * v + x) (4 * v + y) _ 0 (λ e. d (omega (arith, e))) ∙ omega arith)

  less_at : 0 < count_at counts v x → (y : ℕ) → count_at (one_less counts v x) v y + one x y ≡ count_at counts v y
  less_at some y = by (ℕ_discrete x y)
    where
      by : Dec (x ≡ y) → count_at (one_less counts v x) v y + one x y ≡ count_at counts v y
      by (yes e) = rw (eq-eqb x y e, ← e) (omega (arith, some, get_or-set_same counts (4 * v + x) (count_at counts v x - 1) 0 within))
      by (no d) = rw (ne_eqb x y d) (omega (arith, get_or-set_other counts (4 * v + x) (4 * v + y) (count_at counts v x - 1) 0 (λ e. d (omega (arith, e)))))

  pub more_elsewhere : (u y : ℕ) → y < 4 → (u ≡ v → ⊥) → count_at (one_more counts v x) u y ≡ count_at counts u y
  more_elsewhere u y l d = get_or-set_other counts (4 * v + x) (4 * u + y) _ 0 (λ e. d (omega (arith, e)))

  less_elsewhere : (u y : ℕ) → y < 4 → (u ≡ v → ⊥) → count_at (one_less counts v x) u y ≡ count_at counts u y
  less_elsewhere u y l d = get_or-set_other counts (4 * v + x) (4 * u + y) _ 0 (λ e. d (omega (arith, e)))

module _ (rows : List Row) where
  abbrev n : ℕ
  n = length rows

  -- the module at position k gives another value
  module _ {shared : Bool} {given counts : List ℕ} (T : Tallied rows shared given counts) (levels : Levels given) (k : ℕ) (h : k < n) (value : ℕ) (level : value < 4) where
    abbrev v : ℕ
    v = driven_at rows k

    abbrev given' : List ℕ
    given' = set given k value

    given_there : get_or given' k 0 ≡ value
    given_there = get_or-set_same given k value 0 (omega (arith, T.few, levels.size))

    given_elsewhere : (j : ℕ) → (j ≡ k → ⊥) → get_or given' j 0 ≡ get_or given j 0
    given_elsewhere j d = get_or-set_other given k j value 0 d

    -- which counts at its own node alone
    other_node : (u : ℕ) → (u ≡ v → ⊥) → present_in rows n given' u ≡ present_in rows n given u
    other_node u d = chosen_same n _ _ _ _ (λ j l. refl) (λ j l e. given_elsewhere j (λ i. d (sym (eqb-true (driven_at rows j) u e) ∙ ap (driven_at rows) i)))

    -- at a node with others
    module _ (others : alone_at rows k ≡ false) (node : v < 256) where
      abbrev old : ℕ
      old = get_or given k 0

      driving : eqb (driven_at rows k) v ≡ true
      driving = eq-eqb v v refl

      -- what it gave is counted, and there are no more drivers than modules
      pub old_counted : 0 < count_at counts v old
      old_counted = rw (T.counted k h others old (levels.each k)) (count_member old (chosen-mem n (λ j. eqb (driven_at rows j) v) (λ j. get_or given j 0) k h driving))

      pub few_counted : count_at (one_less counts v old) v value < 65535
      few_counted =
          omega (
            arith,
            T.few,
            T.counted k h others value level,
            count_most (λ j. eqb (driven_at rows j) v) value n (λ j. get_or given j 0),
            less_at counts T.size v old node (levels.each k) old_counted value,
          )

      abbrev counts' : List ℕ
      counts' = one_more (one_less counts v old) v value

      less_size : length (one_less counts v old) ≡ 1024
      less_size = length-set counts (4 * v + old) _ ∙ T.size

      -- at this node
      counted_here : CountedAt rows n given' counts' v
      counted_here x b =
          omega (
            arith,
            more_at (one_less counts v old) less_size v value node level x,
            less_at counts T.size v old node (levels.each k) old_counted x,
            T.counted k h others x b,
            count_changed (λ j. eqb (driven_at rows j) v) x n (λ j. get_or given' j 0) (λ j. get_or given j 0) k h driving given_elsewhere,
            ap (λ a. one a x) given_there,
          )

      pub shared_tallied : Tallied rows shared given' counts'
      shared_tallied =
          record {
            few = T.few;
            size = length-set (one_less counts v old) (4 * v + value) _ ∙ less_size;
            flagged = T.flagged;
            none_flagged = T.none_flagged;
            counted = λ j l flag. by j l flag (ℕ_discrete (driven_at rows j) v);
          }
        where
          by : (j : ℕ) → j < n → alone_at rows j ≡ false → Dec (driven_at rows j ≡ v) → CountedAt rows n given' counts' (driven_at rows j)
          by j l flag (yes e) = subst (CountedAt rows n given' counts') (sym e) counted_here
          by j l flag (no d) =
              λ x b.
              more_elsewhere (one_less counts v old) less_size v value node level (driven_at rows j) x b d
              ∙ less_elsewhere counts T.size v old node (levels.each k) (driven_at rows j) x b d
              ∙ T.counted j l flag x b
              ∙ ap (count_of x) (sym (other_node (driven_at rows j) d))

      -- and the counts tell the join
      pub shared_joined : joined_counts (count_at counts' v 0) (count_at counts' v 1) (count_at counts' v 2) ≡ joined (present_in rows n given' v)
      shared_joined =
          (λ i. joined_counts (counted_here 0 (omega arith) i) (counted_here 1 (omega arith) i) (counted_here 2 (omega arith) i))
          ∙ sym (joined_by_counts (present_in rows n given' v) (values_all _ (chosen_all (λ x. x < 4) n (λ j. eqb (driven_at rows j) v) (λ j. get_or given' j 0) (λ j l e. at j (ℕ_discrete j k)))))
        where
          at : (j : ℕ) → Dec (j ≡ k) → get_or given' j 0 < 4
          at j (yes e) = rw e (omega (arith, given_there))
          at j (no d) = rw (given_elsewhere j d) (levels.each j)

-- what is given is counted, one module after another
module _ (rows : List Row) (given counts : List ℕ) (size : length counts ≡ 1024) (k : ℕ) (node : driven_at rows k < 256) (level : get_or given k 0 < 4)
    (so_far : (v : ℕ) → v < 256 → CountedAt rows k given counts v) where
  pub counted_more : (v : ℕ) → v < 256 → CountedAt rows (k + 1) given (one_more counts (driven_at rows k) (get_or given k 0)) v
  counted_more v l x b = rw (add-one k) (by (ℕ_discrete (driven_at rows k) v))
    where
      more : count_of x (chosen (suc k) (λ j. eqb (driven_at rows j) v) (λ j. get_or given j 0))
          ≡ count_of x (present_in rows k given v) + (if eqb (driven_at rows k) v then one (get_or given k 0) x else 0)
      more = count_more (λ j. eqb (driven_at rows j) v) x k (λ j. get_or given j 0)

      by : Dec (driven_at rows k ≡ v) → count_at (one_more counts (driven_at rows k) (get_or given k 0)) v x ≡ count_of x (present_in rows (suc k) given v)
      by (yes e) =
          omega (
            arith,
            ap (λ u. count_at (one_more counts u (get_or given k 0)) v x) e,
            more_at counts size v (get_or given k 0) l level x,
            so_far v l x b,
            more,
            ap (λ c. if c then one (get_or given k 0) x else 0) (eq-eqb (driven_at rows k) v e),
          )
      by (no d) =
          omega (
            arith,
            more_elsewhere counts size (driven_at rows k) (get_or given k 0) node level v x b (λ e. d (sym e)),
            so_far v l x b,
            more,
            ap (λ c. if c then one (get_or given k 0) x else 0) (ne_eqb (driven_at rows k) v d),
          )

pub none_counted : (rows : List Row) (given : List ℕ) (v : ℕ) → v < 256 → CountedAt rows 0 given (replicate 1024 0) v
unfolding each
none_counted rows given v h x b = get_or-replicate 1024 (4 * v + x) 0 0 (omega arith)

-- flags and counts as they are loaded
pub tallied : (rows : List Row) {given counts : List ℕ} {shared : Bool} → length rows ≤ 256 → Flagged rows → (shared ≡ false → (k : ℕ) → k < length rows → alone_at rows k ≡ true)
    → length counts ≡ 1024 → ((k : ℕ) → k < length rows → driven_at rows k < 256) → ((v : ℕ) → v < 256 → CountedAt rows (length rows) given counts v) → Tallied rows shared given counts
tallied rows few flags none size node counted =
    record { few = few; size = size; flagged = flags; none_flagged = none; counted = λ k h flag. counted (driven_at rows k) (node k h) }
