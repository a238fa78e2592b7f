-- The passes over the modules, one module more: what the code makes of its arrays is what the model makes of its lists. Assumes nothing.
use mathlib.Core.List.{List, [], ◌∷◌, ◌++◌}
use mathlib.Core.Path.{◌≡◌, refl}
use Prim.Native.Nat.{ℕ, suc, ◌+◌, ◌-◌, ◌≤◌}
use native.Mathlib.Nat.{sub_self}
use native.Mathlib.Numerals.{add-one}
use native.Mathlib.Omega.{arith}
use Rattle.sheet.specs.declared.Module.{Module}
use Rattle.model.specs.Change.{Change}
use Rattle.model.specs.Passes.{give, give_all, Settled, settle_one, settle, Scheduled, schedule_one, schedule}
use Rattle.pending.specs.Kept.{arrangement}

-- one change more, at the end
pub give_all_more : (modules : List Module) (changes : List Change) (x : Change) (st : Settled) → give_all modules (changes ++ x ∷ []) st ≡ give modules x.position x.value (give_all modules changes st)
unfolding give_all
give_all_more modules [] x st = refl
give_all_more modules (y ∷ changes) x st = give_all_more modules changes x (give modules y.position y.value st)

module _ (modules : List Module) (from : ℕ) (st : Settled) where
  pub none_settled : st ≡ settle modules from (from - from) st
  unfolding settle
  none_settled = rw (sub_self from)

  pub one_more_settled : {k : ℕ} → from ≤ k → {before after : Settled} → before ≡ settle modules from (k - from) st → after ≡ settle_one modules before k → after ≡ settle modules from (k + 1 - from) st
  unfolding settle
  one_more_settled {k} h b a =
      let j : k + 1 - from ≡ suc (k - from) = omega arith in
      let p : from + (k - from) ≡ k = omega arith in
      rw (j, p, ← b) a

module _ (modules : List Module) (t horizon : ℕ) (values : List ℕ) (st : Scheduled arrangement) where
  pub none-scheduled : st ≡ schedule arrangement modules t horizon values 0 st
  unfolding schedule
  none-scheduled = refl

  pub one_more-scheduled : (k : ℕ) {before after : Scheduled arrangement} → before ≡ schedule arrangement modules t horizon values k st → after ≡ schedule_one arrangement modules t horizon values before k
      → after ≡ schedule arrangement modules t horizon values (k + 1) st
  unfolding schedule
  one_more-scheduled k b a = rw (add-one, ← b) a
