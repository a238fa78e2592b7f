-- The theorems of the report, over a sheet's bytes: every short pulse and no other, none twice, rising; each answer under its condition; the report of a
-- renumbered sheet. Assumes nothing.
use mathlib.Core.Bool.{true, false}
use mathlib.Core.List.{List, ◌++◌}
use mathlib.Core.Path.{◌≡◌, refl, sym, ap, ◌∙◌, subst}
use native.Mathlib.Omega.{arith}
use Prim.Native.Nat.{ℕ, ◌*◌, ◌<◌, ◌≤◌}
use lib.ListN.{length, drop}
use Rattle.sheet.specs.declared.Edition.{Edition}
use Rattle.sheet.specs.Layout.{sheet_of}
use Rattle.sheet.specs.Outcome.{Outcome, finished, refused}
use Rattle.sheet.specs.Range.{zero_or_above}
use Rattle.sheet.specs.Sheet.{node_count, module_count}
use Rattle.format.specs.Accepted.{Accepted, Known}
use Rattle.format.specs.Made.{made_answer, output_after}
use Rattle.format.proofs.Accepted.{accepted}
use Rattle.format.proofs.Made.{refused_before, refused_short, made_whole, made_same}
use Rattle.network.specs.Timeline.{Cells}
use Rattle.network.specs.Satisfied.{Satisfied}
use Rattle.network.specs.Order.{Listed}
use Rattle.network.specs.Ends.{ended_key}
use Rattle.network.specs.Buffer.{buffer_after}
use Rattle.network.specs.Run.{Written, cells_of, unless_refused, is_horizon_outside, ran}
use Rattle.network.specs.Demand2.{Lists}
use Rattle.network.specs.Demand3.{RunsToHorizon, SameRenumbered}
use Rattle.network.specs.Renumbering.{Permutation, sort, renumbered_bytes, renumbered_ended, renumbered_listing}
use Rattle.network.proofs.Demand2.{demand_2}
use Rattle.network.proofs.Demand3.{own_renumbered}
use Rattle.network.proofs.Listing.{watched_nodes}
use Rattle.network.proofs.Permuting.{to_once}
use Rattle.network.proofs.Runs.{accepted_run}
use Rattle.network.proofs.Sort.{sort-map-length}
use Rattle.pulses.specs.Pulse.{pulse_key, Pulses}
use Rattle.pulses.specs.Report.{greatest_width, pulse_size, report_bytes}
use Rattle.pulses.specs.Renumbered.{renumbered_pulse, renumbered_report}
use Rattle.pulses.specs.Reporting.{width_outside, report_short, asked, ran_for, pulses_of, report_of, Reports}
use Rattle.pulses.proofs.Length.{report_length}
use Rattle.pulses.proofs.Records.{shown}
use Rattle.pulses.proofs.Exact.{exact}
use Rattle.pulses.proofs.Renumbered.{renumbered_shown}
use Rattle.pulses.proofs.Answers.{records_show, refused_asked}

-- Where the run reaches its horizon:
module _ {E : Edition} (known : Known E) (s : List ℕ) (horizon width bytes : ℕ) (runs : RunsToHorizon E s horizon bytes) where
  lists : (c : Cells) → Satisfied (sheet_of E s) horizon c → Lists (sheet_of E s) c horizon (ran E s horizon bytes).records
  lists c satisfied = (demand_2 known s horizon bytes c (λ b. satisfied)).lists runs.count runs.answer

  -- The report has every pulse of a watched node that is shorter than the width and no other, none twice, rising by tick and then by node; by every set of
  -- timelines that satisfies the sheet.
  pub every_pulse : (c : Cells) → Satisfied (sheet_of E s) horizon c → Pulses (sheet_of E s) c horizon width (pulses_of E s horizon width)
  every_pulse c satisfied =
      subst (Pulses (sheet_of E s) c horizon width) (records_show known s horizon width bytes runs.count runs.answer)
      (exact (sheet_of E s) c horizon width (ran E s horizon bytes).records (lists c satisfied))

-- What a call answers and leaves is determined.
pub reports_same : {E : Edition} {s : List ℕ} {horizon width : ℕ} {listing report : List ℕ} {a b : Outcome} {l m r q : List ℕ}
    → Reports E s horizon width listing report a l r → Reports E s horizon width listing report b m q → (a ≡ b) × (l ≡ m) × (r ≡ q)
reports_same x y = let z = made_same x.makes y.makes in (z.0, x.left ∙ sym y.left, z.1)

-- the width in its range, and outside it
asked_1 : (horizon width : ℕ) → is_horizon_outside horizon ≡ true → asked horizon width ≡ refused 1 0 0
asked_1 horizon width h = rw h

asked_24 : (horizon width : ℕ) → is_horizon_outside horizon ≡ false → zero_or_above greatest_width width ≡ true → asked horizon width ≡ refused width_outside 0 0
asked_24 horizon width h w = rw (h, w)

pub asked-none : (horizon width : ℕ) → is_horizon_outside horizon ≡ false → zero_or_above greatest_width width ≡ false → asked horizon width ≡ finished 0
asked-none horizon width h w = rw (h, w)

-- Each answer under its condition, in this order:
module _ {E : Edition} (known : Known E) (s : List ℕ) (horizon width : ℕ) {listing report listed reported : List ℕ} {answer : Outcome} (call : Reports E s horizon width listing report answer listed reported) where
  -- a horizon outside its range,
  pub refused_1 : is_horizon_outside horizon ≡ true → (answer ≡ refused 1 0 0) × (listed ≡ listing) × (reported ≡ report)
  refused_1 h = reports_same call (refused_asked known s horizon width listing report (asked_1 horizon width h))

  -- a width outside its own,
  pub refused_24 : is_horizon_outside horizon ≡ false → zero_or_above greatest_width width ≡ true → (answer ≡ refused width_outside 0 0) × (listed ≡ listing) × (reported ≡ report)
  refused_24 h w = reports_same call (refused_asked known s horizon width listing report (asked_24 horizon width h w))

  -- and with both in range
  module _ (h : is_horizon_outside horizon ≡ false) (w : zero_or_above greatest_width width ≡ false) where
    abbrev run : Written
    run = ran E s horizon (length listing)

    the_run : ran_for E s horizon width (length listing) ≡ run
    the_run = ap (λ o. unless_refused o run) (asked-none horizon width h w)

    -- the listing is what the run leaves,
    pub listing_left : listed ≡ buffer_after run.records listing
    listing_left = call.left ∙ ap (λ w. buffer_after w.records listing) the_run

    -- what the run refuses stands,
    pub refused_by_run : {n p k : ℕ} → run.answer ≡ refused n p k → (answer ≡ refused n p k) × (reported ≡ report)
    refused_by_run e = made_same call.makes (refused_before _ report (ap (λ w. w.answer) the_run ∙ e))

    -- and of a finished run a report that is too short is refused, with the count of pulses for its place and that of the listing for its count,
    pub refused_25 : {n : ℕ} → run.answer ≡ finished n → length report < pulse_size * length (pulses_of E s horizon width)
        → (answer ≡ refused report_short (length (pulses_of E s horizon width)) (length run.records)) × (reported ≡ report)
    refused_25 e short =
        let r = made_same call.makes (refused_short (report_of (pulses_of E s horizon width) _) report (ap (λ w. w.answer) the_run ∙ e) (omega (arith, short, report_length (pulses_of E s horizon width)))) in
        (r.0 ∙ ap (λ w. refused report_short (length (pulses_of E s horizon width)) (length w.records)) the_run, r.1)

    -- and any other is made: the pulses stand first in it, and the bytes past them are as they were.
    pub made : {n : ℕ} → run.answer ≡ finished n → pulse_size * length (pulses_of E s horizon width) ≤ length report
        → (answer ≡ finished (length (pulses_of E s horizon width))) × (reported ≡ report_bytes (pulses_of E s horizon width) ++ drop (pulse_size * length (pulses_of E s horizon width)) report)
    made e room =
        let long = report_length (pulses_of E s horizon width) in
        let r = made_same call.makes (made_whole (report_of (pulses_of E s horizon width) _) report (ap (λ w. w.answer) the_run ∙ e) (omega (arith, room, long))) in
        (r.0, r.1 ∙ ap (λ k. report_bytes (pulses_of E s horizon width) ++ drop k report) long)

-- Demand 3. N is the sheet of the bytes s, P that of the renumbered bytes.
module _ {E : Edition} (known : Known E) (s : List ℕ) (horizon width bytes : ℕ) (runs : RunsToHorizon E s horizon bytes)
    (π : Permutation (node_count (sheet_of E s))) (order : List ℕ) (each-once : Listed (module_count (sheet_of E s)) order) where
  abbrev p : List ℕ
  p = renumbered_bytes E s π order

  same : SameRenumbered E s p π.to horizon bytes (cells_of (sheet_of E s) horizon) (cells_of (sheet_of E p) horizon)
  same = own_renumbered known s horizon bytes runs π order each-once

  runs_P : RunsToHorizon E p horizon bytes
  runs_P = record { count = runs.count; answer = same.same_answer ∙ runs.answer }

  acc : Accepted (sheet_of E s)
  acc = (accepted E known s (accepted_run E s horizon bytes runs)).sheet

  -- the report of P is N's renumbered and sorted
  pub renumbered_pulses : pulses_of E p horizon width ≡ renumbered_report π.to (pulses_of E s horizon width)
  renumbered_pulses =
      sym (records_show known p horizon width bytes runs_P.count runs_P.answer)
      ∙ ap (shown horizon width) same.listing_renumbered
      ∙ renumbered_shown (sheet_of E s) (sheet_of E p) (cells_of (sheet_of E s) horizon) (cells_of (sheet_of E p) horizon) horizon width π.to
      (λ v m. omega (arith, π.to_below v (watched_nodes (sheet_of E s) acc v m), acc.nodes))
      (λ u v m k. to_once π u v (watched_nodes (sheet_of E s) acc u m) (watched_nodes (sheet_of E s) acc v k))
      (ran E s horizon bytes).records
      (lists known s horizon width bytes runs (cells_of (sheet_of E s) horizon) same.satisfied_by_N)
      (subst (Lists (sheet_of E p) (cells_of (sheet_of E p) horizon) horizon) same.listing_renumbered (lists known p horizon width bytes runs_P (cells_of (sheet_of E p) horizon) same.satisfied_by_P))
      ∙ ap (renumbered_report π.to) (records_show known s horizon width bytes runs.count runs.answer)

  -- what comes before it, whether it is in range or not
  answers_same : (o : Outcome) → (unless_refused o (ran E p horizon bytes)).answer ≡ (unless_refused o (ran E s horizon bytes)).answer
  answers_same (finished n) = same.same_answer
  answers_same (refused n q k) = refl

  records_renumbered : (o : Outcome) → (unless_refused o (ran E p horizon bytes)).records ≡ renumbered_listing π.to (unless_refused o (ran E s horizon bytes)).records
  unfolding sort
  records_renumbered (finished n) = same.listing_renumbered
  records_renumbered (refused n q k) = refl

-- The same of two calls by what each leaves, their buffers of the same lengths: P's answer is N's, its listing has N's records and its report N's pulses, both
-- renumbered and sorted again.
pub renumbered_report_lem : {E : Edition} → Known E → (s : List ℕ) (horizon width : ℕ) → (π : Permutation (node_count (sheet_of E s))) (order : List ℕ) → Listed (module_count (sheet_of E s)) order
    → {listing listing' report report' listed listed' reported reported' : List ℕ} {answer answer' : Outcome} → length listing' ≡ length listing → length report' ≡ length report
    → RunsToHorizon E s horizon (length listing)
    → Reports E s horizon width listing report answer listed reported → Reports E (renumbered_bytes E s π order) horizon width listing' report' answer' listed' reported'
    → (answer' ≡ answer)
    × (listed' ≡ buffer_after (renumbered_listing π.to (ran_for E s horizon width (length listing)).records) listing')
    × (reported' ≡ output_after answer (report_bytes (renumbered_report π.to (pulses_of E s horizon width))) report')
renumbered_report_lem {E} known s horizon width π order each-once {listing} {listing'} {report} {report'} {answer = answer} {answer'} room room' runs N P =
    (answers, P.left ∙ ap (λ l. buffer_after l listing') records, P.makes.left ∙ ap (λ o. output_after o (report_bytes (pulses_of E q horizon width)) report') (sym P.makes.answered ∙ answers) ∙ ap (λ l. output_after answer (report_bytes l) report') pulses)
  where
    q : List ℕ
    q = renumbered_bytes E s π order

    pulses : pulses_of E q horizon width ≡ renumbered_report π.to (pulses_of E s horizon width)
    pulses = renumbered_pulses known s horizon width (length listing) runs π order each-once

    count : length (pulses_of E q horizon width) ≡ length (pulses_of E s horizon width)
    count = ap length pulses ∙ sort-map-length pulse_key (renumbered_pulse π.to) (pulses_of E s horizon width)

    long : length (report_bytes (pulses_of E q horizon width)) ≡ length (report_bytes (pulses_of E s horizon width))
    long = report_length (pulses_of E q horizon width) ∙ ap (λ n. pulse_size * n) count ∙ sym (report_length (pulses_of E s horizon width))

    records : (ran_for E q horizon width (length listing')).records ≡ renumbered_listing π.to (ran_for E s horizon width (length listing)).records
    records = ap (λ n. (ran_for E q horizon width n).records) room ∙ records_renumbered known s horizon width (length listing) runs π order each-once (asked horizon width)

    listed_count : length (ran_for E q horizon width (length listing')).records ≡ length (ran_for E s horizon width (length listing)).records
    listed_count = ap length records ∙ sort-map-length ended_key (renumbered_ended π.to) (ran_for E s horizon width (length listing)).records

    before : (ran_for E q horizon width (length listing')).answer ≡ (ran_for E s horizon width (length listing)).answer
    before = ap (λ n. (ran_for E q horizon width n).answer) room ∙ answers_same known s horizon width (length listing) runs π order each-once (asked horizon width)

    alike : made_answer (ran_for E q horizon width (length listing')).answer (report_of (pulses_of E q horizon width) (length (ran_for E q horizon width (length listing')).records)) (length report')
        ≡ made_answer (ran_for E s horizon width (length listing)).answer (report_of (pulses_of E s horizon width) (length (ran_for E s horizon width (length listing)).records)) (length report)
    alike = rw (before, long, count, listed_count, room')

    answers : answer' ≡ answer
    answers = P.makes.answered ∙ alike ∙ sym N.makes.answered
