-- The records of a tick: watched nodes whose value is not the one shown last.
use Rattle.std.specs.Prelude.{List, [], ◌∷◌, ℕ, eqb, get_or, set, if◌then◌else◌}
use Rattle.network.specs.Listing.{Record}

-- before the first tick no value is shown; this is none
abbrev pub not_shown : ℕ
not_shown = 255

unfoldable pub fresh : ℕ → List ℕ → List ℕ → List ℕ → List Record
fresh t values shown [] = []
fresh t values shown (v ∷ vs) =
    if eqb (get_or values v 0) (get_or shown v 0) then fresh t values shown vs
    else record { tick = t; node = v; value = get_or values v 0 } ∷ fresh t values shown vs

-- what is then shown
unfoldable pub show_all : List ℕ → List ℕ → List ℕ → List ℕ
show_all values shown [] = shown
show_all values shown (v ∷ vs) = show_all values (set shown v (get_or values v 0)) vs
