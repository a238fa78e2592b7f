-- The changes due at a tick, taken one after the other, each given. Assumes nothing.
use mathlib.Core.List.{List, [], ◌∷◌, ◌++◌}
use mathlib.Core.Path.{◌≡◌, refl, subst}
use Prim.Native.Nat.{ℕ, ◌≤◌}
use Rattle.model.specs.Change.{Change}
use Rattle.model.specs.Passes.{give, give_all}
use Rattle.pending.specs.declared.Scan.{Scan}
use Rattle.pending.specs.declared.Met.{Met}
use Rattle.pending.specs.declared.Met.TheVariants as met
use Rattle.pending.specs.Kept.{arrangement}
use Rattle.pending.specs.Taking.{from_start, Taking, OneTaken, OneKept, AllTaken, TakenOn}
use Rattle.pending.proofs.Taking.{at_start}
use Rattle.tick.specs.declared.fixed.Network.{Network}
use Rattle.tick.specs.declared.carried.Present.{Present}
use Rattle.tick.specs.Rows.{modules_in}
use Rattle.tick.specs.Tick.{settled, TalliedIn}
use Rattle.tick.proofs.Passes.{give_all_more}

module _ (network : Network) (t : ℕ) (held : arrangement.Kept) (before : Present) where
  -- some of the changes held are taken, and given
  pub record Given (held' : arrangement.Kept) (after : Present) (scan : Scan) : Type 0 where
    pub taken : List Change
    pub taking : Taking held t taken held' scan
    pub gave : settled network.rows.now after ≡ give_all (modules_in network.rows.now) taken (settled network.rows.now before)
    pub tallied : TalliedIn network after

  pub none-given : TalliedIn network before → Given held before (from_start held)
  unfolding give_all
  none-given tallied = record { taken = []; taking = at_start t held; gave = refl; tallied = tallied }

module _ {network : Network} {t : ℕ} {held : arrangement.Kept} {before : Present} {held' : arrangement.Kept} {after : Present} {scan : Scan} (g : Given network t held before held' after scan) (held'' : arrangement.Kept) {m : Met}
    (told : (start : arrangement.Kept) (taken : List Change) → Taking start t taken held' scan → TakenOn start t taken held'' scan m) where
  -- what is met is due
  module _ {k v : ℕ} {next : Scan} (e : m ≡ met.Due k v next) where
    pub one_taken : OneTaken held t g.taken held'' scan (record { due = t; position = k; value = v }) next
    one_taken = subst (λ d. TakenOn held t g.taken held'' scan d) e (told held g.taken g.taking)

    pub one_given : {now : Present} → settled network.rows.now now ≡ give (modules_in network.rows.now) k v (settled network.rows.now after) → TalliedIn network now → Given network t held before held'' now next
    one_given gave tallied =
        record { taken = g.taken ++ record { due = t; position = k; value = v } ∷ []; taking = one_taken.taking; gave = rw (give_all_more, ← g.gave) gave; tallied = tallied }

  -- what is met stays
  module _ {next : Scan} (e : m ≡ met.Stays next) where
    pub one_kept : OneKept held t g.taken held'' scan next
    one_kept = subst (λ d. TakenOn held t g.taken held'' scan d) e (told held g.taken g.taking)

    pub still_given : Given network t held before held'' after next
    still_given = record { taken = g.taken; taking = one_kept.taking; gave = g.gave; tallied = g.tallied }

  -- no more of them
  pub all_given : m ≡ met.End
      → (settled network.rows.now after ≡ give_all (modules_in network.rows.now) (arrangement.due held t) (settled network.rows.now before))
      × (held'' ≡ arrangement.rest held t) × (arrangement.count held'' ≤ arrangement.count held) × TalliedIn network after
  all_given e =
      let a : AllTaken held t g.taken held'' = subst (λ d. TakenOn held t g.taken held'' scan d) e (told held g.taken g.taking) in
      (rw a.takes at g.gave, a.stay, a.fewer, g.tallied)
