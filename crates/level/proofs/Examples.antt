-- The starred examples of document 01 hold: one theorem for every table of them, by a test that antt computes. Assumes nothing.
use mathlib.Core.Bool.{Bool, true, ◌&&◌}
use mathlib.Core.List.Memᴰ
use mathlib.Core.List.{List, [], ◌∷◌}
use mathlib.Core.Logic.{⊎_elim}
use lib.Dec.{T, eqb, eqb→eq}
use lib.Ieee.Fits.{and_l, and_r}
use Rattle.level.specs.Examples.{Example, Hold, gate_examples, start_examples, join_examples}

-- what is given and what is stated are the same
abbrev pub right : Example → Bool
right e = eqb e.given e.stated

abbrev pub all_right : List Example → Bool
all_right [] = true
all_right (e ∷ l) = right e && all_right l

pub computed : (l : List Example) → T (all_right l) → Hold l
computed [] t e m = absurd (Memᴰ.not-nil m)
computed (x ∷ l) t e m =
    ⊎_elim
    (λ q. rw q (eqb→eq _ _ (and_l (right x) (all_right l) t)))
    (λ m. computed l (and_r (right x) (all_right l) t) e m)
    (Memᴰ.cases_cons m)

pub gate_examples_lem : Hold gate_examples
gate_examples_lem = computed gate_examples tt

pub start_examples_lem : Hold start_examples
start_examples_lem = computed start_examples tt

pub join_examples_lem : Hold join_examples
join_examples_lem = computed join_examples tt
