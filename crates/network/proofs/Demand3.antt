-- The mission, demand 3, whole: the cells of P, read through the permutation, satisfy N, so that they are N's; the rest is counted and sorted from the
-- same cells. Beside it, every sheet that a check accepts has a valid order. Assumes nothing.
use lib.ListN.{get_or, length}
use mathlib.Core.Bool.{false}
use mathlib.Core.List.{List, Memᴰ}
use mathlib.Core.Path.{ap, refl, subst, sym, ◌≡◌, ◌∙◌}
use native.Mathlib.Omega.{arith}
use Prim.Native.Nat.{ℕ, ◌<◌, ◌≤◌}
use Rattle.sheet.specs.Layout.{sheet_of}
use Rattle.sheet.specs.Outcome.{Outcome, finished}
use Rattle.sheet.specs.Refusal.{checked, checked_strictly}
use Rattle.sheet.specs.Sheet.{Sheet, module_count, node_count}
use Rattle.sheet.specs.WorkingOrder.{working_order}
use Rattle.sheet.specs.declared.Edition.{Edition}
use Rattle.format.specs.Accepted.{Accepted, AcceptedIn, Known, HasKinds}
use Rattle.format.specs.Encode.{Bytes}
use Rattle.network.specs.Demand3.{RunsToHorizon, SameRenumbered, ValidOrders, worked_from}
use Rattle.network.specs.Ends.{ended_listing}
use Rattle.network.specs.Order.{Listed, ValidOrder}
use Rattle.network.specs.Renumbering.{Permutation, renumbered, renumbered_bytes, renumbered_listing}
use Rattle.network.specs.Buffer.{buffer_after}
use Rattle.network.specs.Run.{RunLeaves, cells_of, is_horizon_outside, ran, written_of}
use Rattle.network.specs.Timeline.{Cells, at, contribution}
use Rattle.network.specs.Working.{worked}
use Rattle.format.proofs.Accepted.{accepted, conversely, strictly, strictly_conversely}
use Rattle.network.proofs.Answers.{same_answer, whole_listing}
use Rattle.network.proofs.Equation.{equation_local}
use Rattle.network.proofs.Listing.{watched_bytes, watched_nodes}
use Rattle.network.proofs.PendingCount.{pending-renumbered}
use Rattle.network.proofs.Permuting.{to_once}
use Rattle.network.proofs.PullBack.{contribution-renumbered, pull_back}
use Rattle.network.proofs.Renumbered.{module_count-renumbered, module_of-renumbered}
use Rattle.network.proofs.RenumberedAccepted.{accepted_renumbered, started}
use Rattle.network.proofs.RenumberedListing.{Rewatched, renumbered-length, listing_renumbered}
use Rattle.network.proofs.Runs.{accepted_run, in_range, only, ran_satisfied, ran_sheet_lem, satisfied}
use Rattle.network.proofs.WorkingOrder.{working_order_lem}
use Rattle.network.proofs.Written.{read_back, written_bytes, written_accepted, written_strictly}

-- N and P, whose nodes are N's renumbered by to, with their cells
record Agree (N P : Sheet) (to : ℕ → ℕ) (horizon bytes : ℕ) (n q : Cells) : Type 0 where
  cells : (t v : ℕ) → t < horizon → v < node_count N → n t v ≡ q t (to v)
  listings : ended_listing P q horizon ≡ renumbered_listing to (ended_listing N n horizon)
  answers : (written_of P q horizon bytes).answer ≡ (written_of N n horizon bytes).answer

-- over sheets
module _ (N : Sheet) (acc : Accepted N) (π : Permutation (node_count N)) (order : List ℕ) (each-once : Listed (module_count N) order) where
  abbrev P : Sheet
  P = renumbered N π.to π.from order

  acc_P : Accepted P
  acc_P = accepted_renumbered N acc π order each-once

  rewatched : Rewatched N P π.to
  unfolding renumbered
  rewatched =
      record {
        rises = acc.watched_rise;
        bytes = watched_bytes N acc;
        new_bytes = λ v m. omega (arith, π.to_below v (watched_nodes N acc v m), acc.nodes);
        apart = λ u v m k. to_once π u v (watched_nodes N acc u m) (watched_nodes N acc v k);
        sorted = refl;
      }

  agree : (horizon bytes : ℕ) (ordersN ordersP : ℕ → List ℕ) → ValidOrders N horizon ordersN → ValidOrders P horizon ordersP
      → Agree N P π.to horizon bytes (worked N ordersN horizon) (worked P ordersP horizon)
  agree horizon bytes ordersN ordersP valid-N valid-P =
      record {
        cells = same;
        listings = listing_renumbered N P π.to rewatched n q horizon watched_same;
        answers =
            same_answer N P n q horizon bytes (renumbered-length N P π.to rewatched n q horizon watched_same)
            (λ t h. pending-renumbered N π order each-once n q horizon contributed_same t);
      }
    where
      n : Cells
      n = worked N ordersN horizon

      q : Cells
      q = worked P ordersP horizon

      same : (t v : ℕ) → t < horizon → v < node_count N → n t v ≡ q t (π.to v)
      same t v h l =
          sym (only N acc horizon ordersN valid-N (λ t v. q t (π.to v)) (pull_back N acc π order each-once horizon q (satisfied P acc_P horizon ordersP valid-P)) t v h l)

      contributed_same : (u k : ℕ) → u < horizon → k < module_count N → contribution P q k u ≡ contribution N n (get_or order k 0) u
      contributed_same u k h l =
          contribution-renumbered N acc π order each-once q u k l
          ∙ equation_local N (λ t v. q t (π.to v)) n (get_or order k 0) u
          (λ w v b used. sym (same w v (omega arith) ((acc.sound_modules (get_or order k 0) (each-once.known k l)).used v used)))

      watched_same : (t v : ℕ) → t < horizon → Memᴰ v N.watched → n t v ≡ q t (π.to v)
      watched_same t v h m = same t v h (watched_nodes N acc v m)

-- over bytes: P's are those that the renumbered sheet is written as
module _ {E : Edition} (known : Known E) (s : List ℕ) (ok : AcceptedIn E s) (π : Permutation (node_count (sheet_of E s))) (order : List ℕ) (each-once : Listed (module_count (sheet_of E s)) order) where
  abbrev p : List ℕ
  p = renumbered_bytes E s π order

  abbrev Q : Sheet
  Q = renumbered (sheet_of E s) π.to π.from order

  accepted_sheet : Accepted Q
  accepted_sheet = accepted_renumbered (sheet_of E s) ok.sheet π order each-once

  kinds_renumbered : HasKinds E Q
  kinds_renumbered k h =
      let l = rw (module_count-renumbered (sheet_of E s) π order each-once) at h in
      subst (λ m. m.kind ≤ E.greatest) (sym (module_of-renumbered (sheet_of E s) π order each-once k l)) (ok.kinds (get_or order k 0) (each-once.known k l))

  pub sheet_renumbered : sheet_of E p ≡ Q
  sheet_renumbered = read_back known Q accepted_sheet kinds_renumbered

  pub bytes_renumbered : Bytes p
  bytes_renumbered = written_bytes known Q accepted_sheet kinds_renumbered

  pub accepted_bytes : AcceptedIn E p
  accepted_bytes = written_accepted known Q accepted_sheet kinds_renumbered

  pub checked-renumbered : checked E p ≡ finished 0
  checked-renumbered = conversely E known p accepted_bytes

  -- a strict check accepts P as well where it accepts N
  pub strictly_renumbered : checked_strictly E s ≡ finished 0 → checked_strictly E p ≡ finished 0
  strictly_renumbered e =
      strictly_conversely E known p
      (written_strictly known Q accepted_sheet kinds_renumbered (started (sheet_of E s) ok.sheet π order each-once (strictly E known s e).driven_from_start))

pub demand_3 : {E : Edition} → Known E → (s : List ℕ) (horizon bytes : ℕ) → RunsToHorizon E s horizon bytes
    → (π : Permutation (node_count (sheet_of E s))) (order : List ℕ) → Listed (module_count (sheet_of E s)) order
    → (ordersN ordersP : ℕ → List ℕ) → ValidOrders (sheet_of E s) horizon ordersN → ValidOrders (sheet_of E (renumbered_bytes E s π order)) horizon ordersP
    → SameRenumbered E s (renumbered_bytes E s π order) π.to horizon bytes (worked_from E s horizon ordersN) (worked_from E (renumbered_bytes E s π order) horizon ordersP)
demand_3 {E} known s horizon bytes runs π order each-once ordersN ordersP valid-N valid-P =
    record {
      same_cells = both.cells;
      listing_of_N = listing_of_N;
      listing_of_P = listing_of_P;
      same_answer = ap (λ w. w.answer) run_of_P ∙ both.answers ∙ ap (λ w. w.answer) (sym run_of_N);
      listing_renumbered = listing_of_P ∙ both.listings ∙ ap (renumbered_listing π.to) (sym listing_of_N);
      satisfied_by_N = satisfied N ok.sheet horizon ordersN valid-N;
      satisfied_by_P = satisfied P' ok_P.sheet horizon ordersP valid-P;
      only_N = only N ok.sheet horizon ordersN valid-N;
      only_P = only P' ok_P.sheet horizon ordersP valid-P;
    }
  where
    p' : List ℕ
    p' = renumbered_bytes E s π order

    N : Sheet
    N = sheet_of E s

    P' : Sheet
    P' = sheet_of E p'

    n : Cells
    n = worked_from E s horizon ordersN

    q : Cells
    q = worked_from E p' horizon ordersP

    range : is_horizon_outside horizon ≡ false
    range = in_range E s horizon bytes runs

    ok : AcceptedIn E s
    ok = accepted E known s (accepted_run E s horizon bytes runs)

    ok_P : AcceptedIn E p'
    ok_P = accepted_bytes known s ok π order each-once

    both : Agree N P' π.to horizon bytes n q
    both =
        subst (λ P. (orders : ℕ → List ℕ) → ValidOrders P horizon orders → Agree N P π.to horizon bytes n (worked P orders horizon))
        (sym (sheet_renumbered known s ok π order each-once)) (λ orders. agree N ok.sheet π order each-once horizon bytes ordersN orders valid-N) ordersP valid-P

    run_of_N : ran E s horizon bytes ≡ written_of N n horizon bytes
    run_of_N = ran_sheet_lem E s horizon bytes range (accepted_run E s horizon bytes runs) ∙ ran_satisfied N ok.sheet horizon n (satisfied N ok.sheet horizon ordersN valid-N) bytes

    run_of_P : ran E p' horizon bytes ≡ written_of P' q horizon bytes
    run_of_P = ran_sheet_lem E p' horizon bytes range (conversely E known p' ok_P) ∙ ran_satisfied P' ok_P.sheet horizon q (satisfied P' ok_P.sheet horizon ordersP valid-P) bytes

    finishes : (written_of N n horizon bytes).answer ≡ finished runs.count
    finishes = ap (λ w. w.answer) (sym run_of_N) ∙ runs.answer

    listing_of_N : (ran E s horizon bytes).records ≡ ended_listing N n horizon
    listing_of_N = ap (λ w. w.records) run_of_N ∙ whole_listing N n horizon bytes runs.count finishes

    listing_of_P : (ran E p' horizon bytes).records ≡ ended_listing P' q horizon
    listing_of_P = ap (λ w. w.records) run_of_P ∙ whole_listing P' q horizon bytes runs.count (both.answers ∙ finishes)

-- such orders exist: the working order is one
pub valid_order_exists : {E : Edition} → Known E → (s : List ℕ) → checked E s ≡ finished 0 → (order : List ℕ) × ValidOrder (sheet_of E s) order
valid_order_exists {E} known s c = (working_order (sheet_of E s), working_order_lem (sheet_of E s) (accepted E known s c).sheet)

-- N and P worked in their own working orders
pub own_renumbered : {E : Edition} → (known : Known E) (s : List ℕ) (horizon bytes : ℕ) → RunsToHorizon E s horizon bytes
    → (π : Permutation (node_count (sheet_of E s))) (order : List ℕ) → Listed (module_count (sheet_of E s)) order
    → SameRenumbered E s (renumbered_bytes E s π order) π.to horizon bytes (cells_of (sheet_of E s) horizon) (cells_of (sheet_of E (renumbered_bytes E s π order)) horizon)
own_renumbered {E} known s horizon bytes runs π order each-once =
    demand_3 known s horizon bytes runs π order each-once (λ t. working_order (sheet_of E s)) (λ t. working_order (sheet_of E p'))
    (λ t h. working_order_lem (sheet_of E s) ok.sheet) (λ t h. working_order_lem (sheet_of E p') ok_P.sheet)
  where
    p' : List ℕ
    p' = renumbered_bytes E s π order

    ok : AcceptedIn E s
    ok = accepted E known s (accepted_run E s horizon bytes runs)

    ok_P : AcceptedIn E p'
    ok_P = accepted_bytes known s ok π order each-once

-- The same of two runs by what each leaves, as `run` promises it: P's answer is N's, and P's buffer has N's records renumbered and sorted again.
pub renumbered_run : {E : Edition} → Known E → (s : List ℕ) (horizon count : ℕ)
    → (π : Permutation (node_count (sheet_of E s))) (order : List ℕ) → Listed (module_count (sheet_of E s)) order
    → (bufferN bufferP afterN afterP : List ℕ) (answerN answerP : Outcome) → length bufferP ≡ length bufferN
    → RunLeaves E s horizon bufferN answerN afterN → RunLeaves E (renumbered_bytes E s π order) horizon bufferP answerP afterP → answerN ≡ finished count
    → (answerP ≡ answerN) × (afterP ≡ buffer_after (renumbered_listing π.to (ran E s horizon (length bufferN)).records) bufferP)
renumbered_run {E} known s horizon count π order each-once bufferN bufferP afterN afterP answerN answerP room N P done = (
  P.answered ∙ ap (λ b. (ran E p' horizon b).answer) room ∙ same.same_answer ∙ sym N.answered,
  P.left ∙ ap (λ b. buffer_after (ran E p' horizon b).records bufferP) room ∙ ap (λ records. buffer_after records bufferP) same.listing_renumbered,
)
  where
    p' : List ℕ
    p' = renumbered_bytes E s π order

    bytes : ℕ
    bytes = length bufferN

    same : SameRenumbered E s p' π.to horizon bytes (cells_of (sheet_of E s) horizon) (cells_of (sheet_of E p') horizon)
    same = own_renumbered known s horizon bytes (record { count = count; answer = sym N.answered ∙ done }) π order each-once
