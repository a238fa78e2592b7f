-- What a run answers, by the first tick that is refused. Assumes nothing.
use lib.ListN.{length}
use borrow.Author.Tests.{lt-ltb, le-ltb}
use mathlib.Core.List.{List, [], ◌∷◌, ◌++◌}
use mathlib.Core.Path.{◌≡◌, refl, ap, ◌∙◌}
use native.Mathlib.Decide.{ℕ_discrete}
use native.Mathlib.Nat.{not-suc-le-zero}
use native.Mathlib.Omega.{arith}
use Prim.Native.Nat.{ℕ, zero, suc, ◌<◌, ◌≤◌}
use Rattle.std.specs.Prelude.{if◌then◌else◌}
use Rattle.sheet.specs.Enumerate.{each}
use Rattle.sheet.specs.Limits.{pending_limit}
use Rattle.sheet.specs.Outcome.{finished, refused}
use Rattle.sheet.specs.Sheet.{Sheet}
use Rattle.network.specs.Buffer.{room}
use Rattle.network.specs.Ends.{Ended, ended_listing}
use Rattle.network.specs.Listing.{listing, pending}
use Rattle.network.specs.Run.{TickRow, tick_rows, Written, wrote, first_tick, written_of}
use Rattle.network.specs.RunConditions.{Passed}
use Rattle.network.specs.Timeline.{Cells}
use Rattle.network.proofs.Fits.{fits}

-- the first row that is met, or else another outcome
first_or : List TickRow → Written → Written
first_or [] w = w
first_or (r ∷ rs) w = if r.met then wrote (refused r.number r.tick (length r.left)) r.left else first_or rs w

first-or : (xs : List TickRow) (all : List Ended) → first_tick xs all ≡ first_or xs (wrote (finished (length all)) all)
unfolding first_tick first_or
first-or [] all = refl
first-or (r ∷ rs) all = ap (λ w. if r.met then wrote (refused r.number r.tick (length r.left)) r.left else w) (first-or rs all)

or-append : (xs ys : List TickRow) (w : Written) → first_or (xs ++ ys) w ≡ first_or xs (first_or ys w)
unfolding first_or
or-append [] ys w = refl
or-append (r ∷ rs) ys w = ap (λ v. if r.met then wrote (refused r.number r.tick (length r.left)) r.left else v) (or-append rs ys w)

module _ (S : Sheet) (c : Cells) (horizon bytes : ℕ) where
  rows_at : ℕ → List TickRow
  rows_at = tick_rows S c horizon bytes

  passed_tick : (t : ℕ) (w : Written) → Passed S c horizon bytes t → first_or (rows_at t) w ≡ w
  unfolding first_or rows_at
  passed_tick t w p = simp (le-ltb (room bytes) (length (listing S c (suc t))) p.room_left, le-ltb pending_limit (length (pending S c horizon t)) p.few_pending)

  passed_ticks : (n : ℕ) (w : Written) → ((t : ℕ) → t < n → Passed S c horizon bytes t) → first_or (each n rows_at) w ≡ w
  unfolding each first_or
  passed_ticks zero w p = refl
  passed_ticks (suc n) w p = or-append (each n rows_at) (rows_at n) w ∙ ap (first_or (each n rows_at)) (passed_tick n w (p n (omega arith))) ∙ passed_ticks n w (λ t h. p t (omega arith))

  -- the first tick that is not passed decides
  module _ (t : ℕ) (before : (u : ℕ) → u < t → Passed S c horizon bytes u) (o : Written) (stops : (w : Written) → first_or (rows_at t) w ≡ o) where
    decides : (n : ℕ) (w : Written) → t < n → first_or (each n rows_at) w ≡ o
    unfolding each
    decides zero w h = absurd (not-suc-le-zero h)
    decides (suc n) w h = or-append (each n rows_at) (rows_at n) w ∙ go (ℕ_discrete t n) (λ h'. decides n (first_or (rows_at n) w) h')
      where
        go : Dec (t ≡ n) → (t < n → first_or (each n rows_at) (first_or (rows_at n) w) ≡ o) → first_or (each n rows_at) (first_or (rows_at n) w) ≡ o
        go (yes e) k = rw (← e) (ap (first_or (each t rows_at)) (stops w) ∙ passed_ticks t o before)
        go (no d) k = k (omega arith)

    decided : t < horizon → written_of S c horizon bytes ≡ o
    unfolding written_of rows_at
    decided h = first-or (each horizon rows_at) (ended_listing S c horizon) ∙ decides horizon _ h

  pub full : (t : ℕ) → t < horizon → ((u : ℕ) → u < t → Passed S c horizon bytes u) → room bytes < length (listing S c (suc t))
      → written_of S c horizon bytes ≡ wrote (refused 19 t (length (ended_listing S c t))) (ended_listing S c t)
  unfolding first_or rows_at
  full t h before over = decided t before _ (λ w. simp (lt-ltb (room bytes) (length (listing S c (suc t))) over)) h

  pub crowded : (t : ℕ) → t < horizon → ((u : ℕ) → u < t → Passed S c horizon bytes u) → length (listing S c (suc t)) ≤ room bytes → pending_limit < length (pending S c horizon t)
      → written_of S c horizon bytes ≡ wrote (refused 20 t (length (ended_listing S c (suc t)))) (ended_listing S c (suc t))
  unfolding first_or rows_at
  crowded t h before fits over =
      decided t before _
      (λ w. simp (le-ltb (room bytes) (length (listing S c (suc t))) fits, lt-ltb pending_limit (length (pending S c horizon t)) over)) h

  pub whole : ((u : ℕ) → u < horizon → Passed S c horizon bytes u) → written_of S c horizon bytes ≡ wrote (finished (length (ended_listing S c horizon))) (ended_listing S c horizon)
  unfolding written_of rows_at
  whole all = first-or (each horizon rows_at) (ended_listing S c horizon) ∙ passed_ticks horizon _ all
