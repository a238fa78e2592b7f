-- `read_nodes::watched::watched_section` meets its contract: the count, then the watched nodes one by one, and the bytes left over. Assumes nothing.
use borrow.Author.Tests.{lt-ltb, le-ltb}
use lib.ListN.{length}
use mathlib.Core.List.{List}
use mathlib.Core.Path.{◌≡◌, refl, ◌∙◌}
use native.Mathlib.Numerals.{add-one}
use native.Mathlib.Omega.{arith}
use Prim.Native.Nat.{ℕ, ◌<◌, ◌≤◌}
use Rattle.sheet.specs.declared.Edition.{Edition}
use Rattle.sheet.specs.Layout.{sheet_end}
use Rattle.sheet.specs.Outcome.{finished, refused}
use Rattle.sheet.specs.Refusal.{first, left_over_rows}
use Rattle.sheet.proofs.Rows.{passed_append}
use Rattle.std.proofs.lemmas.Result.{err_from_is_err_and}
use Rattle.sheet.proofs.Told.{stopped}
use Rattle.read_nodes.proofs.Filling.{begun, one_more, stopped_at, all_passed, all_held}
use Rattle.read_nodes.proofs.watched.watched_section.Goals as goal

module _ (e : Edition) (s : List ℕ) where
  bytes_left : {end : ℕ} → end ≡ sheet_end e s → end < length s → first (left_over_rows e s) ≡ refused 17 end 0
  unfolding first
  bytes_left is h = simp (← is, lt-ltb _ _ h)

  none_left : length s ≤ sheet_end e s → first (left_over_rows e s) ≡ finished 0
  unfolding first
  none_left h = simp (le-ltb _ _ h)

pub returns-in_err-count : goal.returns-in_err-count
returns-in_err-count c =
    let met = rw c.requires.0 at c.in_err-count.ensures in
    let p = err_from_is_err_and c.from_residual.result c.from_residual.ensures.1 in
    rw (p.1, p.2) (stopped _ _ _ met)

pub loop-k-init : goal.loop-k-init
loop-k-init c = (begun (rw c.requires.0 at c.in_ok-count.ensures), refl)

pub returns-in_err-v : goal.returns-in_err-v
returns-in_err-v c =
    let l = c.loop-k in
    let met = c.in_err-v.ensures c.args.e l.k (omega arith) c.requires.2 l.invariant.1 in
    let p = err_from_is_err_and c.from_residual-in_err-v.result c.from_residual-in_err-v.ensures.1 in
    rw (p.1, p.2) (stopped _ _ _ (stopped_at l.invariant.0 _ (omega arith) met))

pub loop-k-preserved : goal.loop-k-preserved
loop-k-preserved c =
    let l = c.loop-k in
    let told = c.in_ok-v.ensures c.args.e l.k (omega arith) c.requires.2 l.invariant.1 in
    (one_more l.invariant.0 (omega arith) told.0 told.1, rw (add-one l.k, told.1))

pub returns-then-end-s : goal.returns-then-end-s
returns-then-end-s c =
    let read = c.loop-k.invariant.0 in
    passed_append _ _ (all_passed read (omega arith) (omega arith)) ∙ bytes_left c.args.e c.args.s.now (omega arith) c.if-end-s.true

pub returns : goal.returns
returns c =
    let read = c.loop-k.invariant.0 in (
      passed_append _ _ (all_passed read (omega arith) (omega arith)) ∙ none_left c.args.e c.args.s.now (omega arith),
      all_held read (omega arith) (omega arith) _ refl refl,
    )
