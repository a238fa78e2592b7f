-- What a contribution that is given leaves of the values and of what modules give: a module that drives its node alone gives the node's value, and of the others it is kept. Assumes nothing.
use borrow.Author.Tests.{eqb-true, eq-eqb}
use lib.Dec.{eqb, ltb}
use lib.ListN.{length, get_or, set, length-set, get_or-eq_default}
use lib.Seq.{get_or-set_same, get_or-set_other}
use mathlib.Core.Bool.{Bool, true, false, true≢false}
use mathlib.Core.List.{List, [], ◌∷◌}
use mathlib.Core.Path.{◌≡◌, refl, sym, ap, ap₂, ◌∙◌}
use native.Mathlib.Decide.{ℕ_discrete, dec_lt}
use native.Mathlib.Omega.{arith}
use Prim.Native.Nat.{ℕ, zero, suc, ◌+◌, ◌≤◌, ◌<◌}
use Rattle.std.specs.Prelude.{if◌then◌else◌}
use Rattle.level.specs.Join.{joined}
use Rattle.level.proofs.Join.{neutral_right}
use Rattle.sheet.specs.declared.Event.{Event}
use Rattle.sheet.specs.Enumerate.{chosen, listed}
use Rattle.sheet.proofs.Chosen.{chosen_same, chosen_one}
use Rattle.sheet.proofs.Each.{each_same}
use Rattle.sheet.proofs.Listed.{length-listed, get_or-listed, listed-is}
use Rattle.model.specs.Drive.{event_in, events_below, driven, drive_tick}
use Rattle.model.specs.Passes.{module_in, present_on, give}
use Rattle.tick.specs.declared.row.Row.{Row}
use Rattle.tick.specs.Rows.{modules_in}
use Rattle.tick.specs.Rest.{Levels}
use Rattle.tick.specs.Tally.{driven_at, alone_at, Flagged, given_at, given_in, present_in}
use Rattle.tick.specs.Tick.{settled_in}
use Rattle.tick.proofs.Rows.{length_modules, module_at}

-- a list given anew at one number
set-listed : (n : ℕ) (f g : ℕ → ℕ) (k x : ℕ) → k < n → g k ≡ x → ((j : ℕ) → j < n → (j ≡ k → ⊥) → g j ≡ f j) → listed n g ≡ set (listed n f) k x
set-listed n f g k x h here others =
    listed-is (set (listed n f) k x) 0 n g (sym (length-set (listed n f) k x ∙ length-listed n f)) (λ i l. at i (rw (length-set (listed n f) k x, length-listed n f) at l) (ℕ_discrete i k))
  where
    at : (i : ℕ) → i < n → Dec (i ≡ k) → g i ≡ get_or (set (listed n f) k x) i 0
    at i l (yes e) = rw e (here ∙ sym (get_or-set_same (listed n f) k x 0 (omega (arith, length-listed n f))))
    at i l (no d) = others i l d ∙ sym (get_or-set_other (listed n f) k i x 0 d ∙ get_or-listed n f i 0 l)

module _ (rows : List Row) where
  abbrev n : ℕ
  n = length rows

  -- as the model has it
  present_in_lem : (given : List ℕ) (v : ℕ) → present_in rows n given v ≡ present_on (modules_in rows) given v
  present_in_lem given v =
      chosen_same n _ _ _ _ (λ k h. ap (λ m. eqb m.output v) (sym (module_at rows k))) (λ k h e. refl)
      ∙ ap (λ l. chosen l (λ k. eqb (module_in (modules_in rows) k).output v) (λ k. get_or given k 0)) (sym (length_modules rows))

  -- what is given where the flags are those, and the values at the nodes of modules that are alone
  given_same : (values values' kept kept' : List ℕ) (j : ℕ) → (alone_at rows j ≡ true → get_or values' (driven_at rows j) 0 ≡ get_or values (driven_at rows j) 0)
      → ((alone_at rows j ≡ false) → get_or kept' j 0 ≡ get_or kept j 0) → given_at rows values' kept' j ≡ given_at rows values kept j
  given_same values values' kept kept' j alone with = by (alone_at rows j) refl
    where
      by : (b : Bool) → alone_at rows j ≡ b
          → (if b then get_or values' (driven_at rows j) 0 else get_or kept' j 0) ≡ (if b then get_or values (driven_at rows j) 0 else get_or kept j 0)
      by true e = alone e
      by false e = with e

  -- values that stay at nodes that modules drive
  pub given-kept : (values values' kept : List ℕ) → ((j : ℕ) → j < n → get_or values' (driven_at rows j) 0 ≡ get_or values (driven_at rows j) 0) → given_in rows values' kept ≡ given_in rows values kept
  given-kept values values' kept same = each_same n _ _ (λ j h. ap (λ x. x ∷ []) (given_same values values' kept kept j (λ e. same j h) (λ d. refl)))

  module _ (flags : Flagged rows) (values kept : List ℕ) (k : ℕ) (h : k < n) (value : ℕ) where
    abbrev v : ℕ
    v = driven_at rows k

    -- where a flag stands, no other module drives the node
    sole : (i : ℕ) → i < n → alone_at rows i ≡ true → (j : ℕ) → j < n → driven_at rows j ≡ driven_at rows i → j ≡ i
    sole i l alone j b e = flags i l alone j (rw (length_modules rows) b) (ap (λ m. m.output) (module_at rows j) ∙ e ∙ ap (λ m. m.output) (sym (module_at rows i)))

    -- the module's contribution, and what its node's drivers come to together
    module _ (values' kept' : List ℕ) (x : ℕ) (is : values' ≡ set values v x) (given : given_in rows values' kept' ≡ set (given_in rows values kept) k value)
        (joins : x ≡ joined (present_in rows n (given_in rows values' kept') v)) where
      given_as : settled_in rows values' kept' ≡ give (modules_in rows) k value (settled_in rows values kept)
      given_as =
          ap₂ (λ vs g. record { values = vs; given = g })
          (is
          ∙ ap (set values v) (joins ∙ ap (λ l. joined (present_in rows n l v)) given ∙ ap joined (present_in_lem (set (given_in rows values kept) k value) v))
          ∙ ap (λ u. set values u (joined (present_on (modules_in rows) (set (given_in rows values kept) k value) u))) (ap (λ m. m.output) (sym (module_at rows k))))
          given

    -- alone at its node
    module _ (alone : alone_at rows k ≡ true) (node : v < length values) where
      alone_given : given_in rows (set values v value) kept ≡ set (given_in rows values kept) k value
      alone_given =
          set-listed n (given_at rows values kept) (given_at rows (set values v value) kept) k value h
          (rw alone (get_or-set_same values v value 0 node))
          (λ j l d. given_same values (set values v value) kept kept j (λ e. get_or-set_other values v (driven_at rows j) value 0 (λ i. d (sole k h alone j l i))) (λ e. refl))

      pub alone_gives : settled_in rows (set values v value) kept ≡ give (modules_in rows) k value (settled_in rows values kept)
      alone_gives =
          given_as (set values v value) kept value refl alone_given
          (sym (
          ap joined (chosen_one n (λ j. eqb (driven_at rows j) v) (λ j. get_or (given_in rows (set values v value) kept) j 0) k h (eq-eqb v v refl) (λ j l e. sole k h alone j l (eqb-true (driven_at rows j) v e)))
          ∙ neutral_right (get_or (given_in rows (set values v value) kept) k 0)
          ∙ get_or-listed n (given_at rows (set values v value) kept) k 0 h
          ∙ rw alone (get_or-set_same values v value 0 node)
          ))

    -- with others, none of which has a flag either
    module _ (others : alone_at rows k ≡ false) (room : k < length kept) where
      flagged_too : (j : ℕ) → j < n → driven_at rows j ≡ v → alone_at rows j ≡ false
      flagged_too j l e = by (alone_at rows j) refl
        where
          by : (b : Bool) → alone_at rows j ≡ b → b ≡ false
          by true alone = absurd (true≢false (sym alone ∙ sym (ap (alone_at rows) (sole j l alone k h (sym e))) ∙ others))
          by false alone = refl

      shared_given : (x : ℕ) → given_in rows (set values v x) (set kept k value) ≡ set (given_in rows values kept) k value
      shared_given x =
          set-listed n (given_at rows values kept) (given_at rows (set values v x) (set kept k value)) k value h
          (rw others (get_or-set_same kept k value 0 room))
          (λ j l d. given_same values (set values v x) kept (set kept k value) j (λ e. get_or-set_other values v (driven_at rows j) x 0 (λ i. true≢false (sym e ∙ flagged_too j l i))) (λ e. get_or-set_other kept k j value 0 d))

      shared_present : (values' kept' : List ℕ) → present_in rows n (given_in rows values' kept') v ≡ present_in rows n kept' v
      shared_present values' kept' =
          chosen_same n _ _ _ _ (λ j l. refl)
          (λ j l e. get_or-listed n (given_at rows values' kept') j 0 l ∙ ap (λ b. if b then get_or values' (driven_at rows j) 0 else get_or kept' j 0) (flagged_too j l (eqb-true (driven_at rows j) v e)))

      pub shared_gives : (x : ℕ) → x ≡ joined (present_in rows n (set kept k value) v)
          → settled_in rows (set values v x) (set kept k value) ≡ give (modules_in rows) k value (settled_in rows values kept)
      shared_gives x e =
          given_as (set values v x) (set kept k value) x refl (shared_given x) (e ∙ ap joined (sym (shared_present (set values v x) (set kept k value))))

-- the drive's events leave the values of other nodes
module _ (drive : List Event) where
  below_most : (t n : ℕ) → events_below drive t n ≤ n
  unfolding events_below
  below_most t zero = omega arith
  below_most t (suc n) = omega (arith, below_most t n, one (ltb (event_in drive n).tick t))
    where
      one : (b : Bool) → (if b then 1 else 0) ≤ 1
      one true = omega arith
      one false = omega arith

  driven_other : (e j : ℕ) (values : List ℕ) (v : ℕ) → ((i : ℕ) → i < e + j → (event_in drive i).node ≡ v → ⊥) → get_or (driven drive e j values) v 0 ≡ get_or values v 0
  unfolding driven
  driven_other e zero values v none = refl
  driven_other e (suc j) values v none =
      get_or-set_other (driven drive e j values) (event_in drive (e + j)).node v _ 0 (λ i. none (e + j) (omega arith) (sym i)) ∙ driven_other e j values v (λ i h. none i (omega arith))

  pub drive_other : (t : ℕ) (values : List ℕ) (v : ℕ) → ((i : ℕ) → i < length drive → (event_in drive i).node ≡ v → ⊥) → get_or (drive_tick drive t values) v 0 ≡ get_or values v 0
  drive_other t values v none = driven_other _ _ values v (λ i h. none i (omega (arith, h, below_most t (length drive), below_most (suc t) (length drive))))

-- what is given are values
module _ (rows : List Row) {values kept : List ℕ} (v : Levels values) (l : Levels kept) where
  value_at : (k : ℕ) → given_at rows values kept k < 4
  value_at k = by (alone_at rows k)
    where
      by : (b : Bool) → (if b then get_or values (driven_at rows k) 0 else get_or kept k 0) < 4
      by true = v.each (driven_at rows k)
      by false = l.each k

  pub given_levels : (k : ℕ) → get_or (given_in rows values kept) k 0 < 4
  given_levels k = by (dec_lt k (length rows))
    where
      by : Dec (k < length rows) → get_or (given_in rows values kept) k 0 < 4
      by (yes h) = rw (get_or-listed (length rows) (given_at rows values kept) k 0 h) (value_at k)
      by (no d) =
          let past : length (given_in rows values kept) ≤ k = omega (arith, length-listed (length rows) (given_at rows values kept)) in
          rw (get_or-eq_default (given_in rows values kept) 0 past) (omega arith)

-- before tick 0 the values of the outputs are given
pub first-given : (rows : List Row) (values kept : List ℕ) (k : ℕ) → k < length rows → get_or kept k 0 ≡ get_or values (driven_at rows k) 0 → get_or (given_in rows values kept) k 0 ≡ get_or values (driven_at rows k) 0
first-given rows values kept k h e = get_or-listed (length rows) (given_at rows values kept) k 0 h ∙ by (alone_at rows k)
  where
    by : (b : Bool) → (if b then get_or values (driven_at rows k) 0 else get_or kept k 0) ≡ get_or values (driven_at rows k) 0
    by true = refl
    by false = e
