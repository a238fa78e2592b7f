-- The definitions compute: the check of small sheets. Assumes nothing.
use mathlib.Core.List.{List, [], ◌∷◌}
use mathlib.Core.Path.{◌≡◌, refl}
use Prim.Native.Nat.{ℕ}
use Rattle.sheet.specs.Outcome.{finished, refused}
use Rattle.sheet.specs.Enumerate.{any_below, each}
use Rattle.sheet.specs.Layout.{first_edition, second_edition, sheet_of}
use Rattle.sheet.specs.Loop.{leads_over}
use Rattle.sheet.specs.Refusal.{not_above_event, not_above_watched, bytes_rows, rows, first, checked_by, checked, checked_strictly}

-- document 01's worked run: a NAND of delay 3 from node 0 and itself onto node 1
worked : List ℕ
worked =
    2 ∷ 0 ∷ 4 ∷ 2
    ∷ 1 ∷ 0 ∷ 6 ∷ 0 ∷ 1 ∷ 0 ∷ 1 ∷ 3 ∷ 0
    ∷ 2 ∷ 0 ∷ 0 ∷ 0 ∷ 0 ∷ 0 ∷ 0 ∷ 0 ∷ 5 ∷ 0 ∷ 0 ∷ 0 ∷ 0 ∷ 1
    ∷ 2 ∷ 0 ∷ 0 ∷ 1 ∷ []

worked_accepted : checked first_edition worked ≡ finished 0
unfolding worked checked_by rows bytes_rows sheet_of first each any_below leads_over not_above_event not_above_watched
worked_accepted = refl

-- an inverter onto its own input: delay 1, and delay 0
ring : ℕ → List ℕ
ring delay = 1 ∷ 0 ∷ 0 ∷ 1 ∷ 0 ∷ 2 ∷ 0 ∷ 0 ∷ 0 ∷ 0 ∷ delay ∷ 0 ∷ 0 ∷ 0 ∷ 0 ∷ 0 ∷ []

ring_1 : checked first_edition (ring 1) ≡ finished 0
unfolding ring checked_by rows bytes_rows sheet_of first each any_below leads_over not_above_event not_above_watched
ring_1 = refl

ring_0 : checked first_edition (ring 0) ≡ refused 18 0 0
unfolding ring checked_by rows bytes_rows sheet_of first each any_below leads_over not_above_event not_above_watched
ring_0 = refl

-- two modules on one node, a buffer of delay 1 and an inverter of delay 0: both checks accept them where the node has an initial value, and
-- to 10 it is driven
abbrev pub shared : ℕ → List ℕ
shared byte =
    2 ∷ 0 ∷ 4 ∷ byte
    ∷ 2 ∷ 0 ∷ 1 ∷ 0 ∷ 1 ∷ 0 ∷ 0 ∷ 1 ∷ 0 ∷ 2 ∷ 0 ∷ 1 ∷ 0 ∷ 0 ∷ 0 ∷ 0
    ∷ 1 ∷ 0 ∷ 0 ∷ 0 ∷ 0 ∷ 0 ∷ 0 ∷ 1
    ∷ 1 ∷ 0 ∷ 1 ∷ []

shared_accepted : (checked first_edition (shared 0) ≡ finished 0) × (checked_strictly first_edition (shared 0) ≡ finished 0) × (checked first_edition (shared 4) ≡ refused 10 1 0)
unfolding checked_by rows bytes_rows sheet_of first each any_below leads_over not_above_event not_above_watched
shared_accepted = (refl, refl, refl)

-- an input without an event, to which nothing is watched: a strict check alone refuses it
undriven : List ℕ
undriven = 1 ∷ 0 ∷ 4 ∷ 0 ∷ 0 ∷ 0 ∷ 0 ∷ 0 ∷ 0 ∷ []

undriven_accepted : (checked first_edition undriven ≡ finished 0) × (checked_strictly first_edition undriven ≡ refused 15 0 0)
unfolding undriven checked_by rows bytes_rows sheet_of first each any_below leads_over not_above_event not_above_watched
undriven_accepted = (refl, refl)

-- 15 comes after the drive and before the watched count, which is missing here: the first of two inputs has an event at tick 0, the second at tick 1
late : List ℕ
late = 2 ∷ 0 ∷ 4 ∷ 4 ∷ 0 ∷ 0 ∷ 2 ∷ 0 ∷ 0 ∷ 0 ∷ 0 ∷ 0 ∷ 0 ∷ 1 ∷ 1 ∷ 0 ∷ 0 ∷ 0 ∷ 1 ∷ 1 ∷ []

late_cut : (checked first_edition late ≡ refused 2 20 0) × (checked_strictly first_edition late ≡ refused 15 1 0)
unfolding late checked_by rows bytes_rows sheet_of first each any_below leads_over not_above_event not_above_watched
late_cut = (refl, refl)

-- and once both have one at tick 0, a strict check answers as a check does
begun : List ℕ
begun = 2 ∷ 0 ∷ 4 ∷ 4 ∷ 0 ∷ 0 ∷ 2 ∷ 0 ∷ 0 ∷ 0 ∷ 0 ∷ 0 ∷ 0 ∷ 1 ∷ 0 ∷ 0 ∷ 0 ∷ 0 ∷ 1 ∷ 1 ∷ []

begun_cut : (checked first_edition begun ≡ refused 2 20 0) × (checked_strictly first_edition begun ≡ refused 2 20 0)
unfolding begun checked_by rows bytes_rows sheet_of first each any_below leads_over not_above_event not_above_watched
begun_cut = (refl, refl)

empty : checked first_edition [] ≡ refused 2 0 0
unfolding checked_by rows bytes_rows sheet_of first each any_below leads_over not_above_event not_above_watched
empty = refl

-- the second edition: a module of an input, twice, and of a third node, onto node 1
third : ℕ → ℕ → ℕ → ℕ → List ℕ
third kind parameter node delay =
    2 ∷ 0 ∷ 4 ∷ 0
    ∷ 1 ∷ 0 ∷ kind ∷ parameter ∷ 1 ∷ 0 ∷ 0 ∷ node ∷ delay ∷ 0
    ∷ 0 ∷ 0
    ∷ 0 ∷ 0 ∷ []

-- a loop by the third input alone, with a delay and without
third_accepted : checked second_edition (third 12 0 1 1) ≡ finished 0
unfolding third checked_by rows bytes_rows sheet_of first each any_below leads_over not_above_event not_above_watched
third_accepted = refl

third_loop : checked second_edition (third 12 0 1 0) ≡ refused 18 1 0
unfolding third checked_by rows bytes_rows sheet_of first each any_below leads_over not_above_event not_above_watched
third_loop = refl

-- kind 15 and kind 16; a parameter of kind 10; a third input that is no node, and one that is not used
third_refused : (checked second_edition (third 15 0 0 0) ≡ finished 0) × (checked second_edition (third 16 0 0 0) ≡ refused 5 6 0) × (checked second_edition (third 10 1 0 0) ≡ refused 6 6 0)
    × (checked second_edition (third 15 0 2 0) ≡ refused 7 6 0) × (checked second_edition (third 5 0 1 0) ≡ refused 7 6 0)
unfolding third checked_by rows bytes_rows sheet_of first each any_below leads_over not_above_event not_above_watched
third_refused = (refl, refl, refl, refl, refl)
