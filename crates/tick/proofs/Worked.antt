-- The passes of a tick, one after the other, are its work. Assumes nothing.
use mathlib.Core.List.{List}
use mathlib.Core.Path.{◌≡◌, refl}
use Prim.Native.Nat.{ℕ, ◌-◌}
use lib.ListN.{length}
use Rattle.model.specs.Drive.{drive_tick}
use Rattle.model.specs.Passes.{Settled, give_all, settle, Scheduled, schedule}
use Rattle.model.specs.State.{Loaded, State}
use Rattle.pending.specs.Kept.{arrangement}
use Rattle.tick.specs.Tick.{worked_tick}

abbrev pub both : List ℕ → arrangement.Kept → Scheduled arrangement
both last pending = record { last = last; pending = pending }

module _ (l : Loaded) (horizon t : ℕ) (st : Settled) (last : List ℕ) (pending : arrangement.Kept) {n : ℕ} (size : length l.modules ≡ n) {driven last' : List ℕ} {given settled : Settled} {kept pending' : arrangement.Kept}
    (d : driven ≡ drive_tick l.drive t st.values)
    (g : given ≡ give_all l.modules (arrangement.due pending t) (record { values = driven; given = st.given }))
    (k : kept ≡ arrangement.rest pending t)
    (z : settled ≡ settle l.modules l.delayed (n - l.delayed) given)
    (h : both last' pending' ≡ schedule arrangement l.modules t horizon settled.values l.delayed (both last kept)) where
  abbrev After : State arrangement
  After = worked_tick l horizon t st last pending

  pub worked : (settled.values ≡ After.values) × (settled.given ≡ After.given) × (last' ≡ After.last) × (pending' ≡ After.pending)
  worked = rw (size, ← d, ← g, ← k, ← z, ← h) (refl, refl, refl, refl)
