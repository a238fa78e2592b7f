-- What reporting answers and leaves: refused before the run, refused by it, or made from the listing of a finished run. Assumes nothing.
use mathlib.Core.List.{List}
use mathlib.Core.Path.{◌≡◌, refl, sym, ap, ◌∙◌, subst}
use native.Mathlib.Omega.{arith}
use Prim.Native.Nat.{ℕ}
use lib.ListN.{length}
use Rattle.sheet.specs.declared.refusal.Refusal.{Refusal}
use Rattle.sheet.specs.declared.Edition.{Edition}
use Rattle.sheet.specs.Layout.{sheet_of}
use Rattle.sheet.specs.Outcome.{Outcome, finished, refused}
use Rattle.sheet.specs.Told.{as_refused}
use Rattle.sheet.proofs.Told.{is_refused}
use Rattle.format.specs.Accepted.{Known}
use Rattle.format.specs.Made.{Makes}
use Rattle.format.proofs.Made.{refused_before}
use Rattle.network.specs.Buffer.{buffer_after}
use Rattle.network.specs.Run.{Written, cells_of, unless_refused, ran, RunLeaves}
use Rattle.network.specs.Demand2.{RunOf}
use Rattle.network.proofs.Demand2.{demand_2, timelines_exist}
use Rattle.network.proofs.RunConditions.{FinishedRun, finished_run}
use Rattle.listing.proofs.Buffer.{buffer-none}
use Rattle.pulses.specs.InListing.{pulses_in}
use Rattle.pulses.specs.Reporting.{asked, ran_for, pulses_of, report_of, Reports}
use Rattle.pulses.proofs.Records.{shown, from_listing, from_bytes}

module _ {E : Edition} (known : Known E) (s : List ℕ) (horizon width : ℕ) where
  -- a run that finished has written the whole listing, by the sheet's cells
  module _ (bytes n : ℕ) (e : (ran E s horizon bytes).answer ≡ finished n) where
    run_of_lem : RunOf E s horizon bytes (cells_of (sheet_of E s) horizon)
    run_of_lem = demand_2 known s horizon bytes (cells_of (sheet_of E s) horizon) (timelines_exist known s horizon)

    pub finished_one : FinishedRun E s (cells_of (sheet_of E s) horizon) horizon bytes n (ran E s horizon bytes).records
    finished_one = finished_run (ran E s horizon bytes) ((run_of_lem.answers (ran E s horizon bytes)).0 refl) n e

    -- its records show the pulses of the sheet
    pub records_show : shown horizon width (ran E s horizon bytes).records ≡ pulses_of E s horizon width
    records_show = ap (shown horizon width) finished_one.listed ∙ sym (from_listing horizon width (sheet_of E s) (cells_of (sheet_of E s) horizon))

    -- and so does what stands in the buffer
    pub bytes_show : (buffer : List ℕ) → pulses_in horizon width (buffer_after (ran E s horizon bytes).records buffer) n ≡ pulses_of E s horizon width
    bytes_show buffer =
        from_bytes horizon width (ran E s horizon bytes).records buffer n finished_one.counted
        (λ r m. let shown = (run_of_lem.lists n e).shown r m in (omega (arith, shown.start.below, finished_one.begins.few_ticks), omega (arith, shown.end.within, finished_one.begins.few_ticks)))
        ∙ records_show

  module _ (listing report : List ℕ) where
    abbrev run : Written
    run = ran E s horizon (length listing)

    -- 1 and 24: nothing is run
    pub refused_asked : {n p k : ℕ} → asked horizon width ≡ refused n p k → Reports E s horizon width listing report (refused n p k) listing report
    refused_asked {n} {p} {k} e =
        record {
          left = sym (ap (λ o. buffer_after (unless_refused o run).records listing) e ∙ buffer-none listing);
          makes = refused_before (report_of (pulses_of E s horizon width) (length (ran_for E s horizon width (length listing)).records)) report (ap (λ o. (unless_refused o run).answer) e);
        }

    -- the same of the code's refusal
    pub not_run : (r : Refusal) → as_refused r ≡ asked horizon width → Reports E s horizon width listing report (as_refused r) listing report
    not_run r told = let h = is_refused r in rw h.3 (refused_asked (sym told ∙ h.3))

    -- the run is that of the sheet
    module _ {j : ℕ} (in_range : asked horizon width ≡ finished j) where
      runs : ran_for E s horizon width (length listing) ≡ run
      runs = ap (λ o. unless_refused o run) in_range

      -- what it refuses stands
      pub refused_run : {n p k : ℕ} {listed : List ℕ} → RunLeaves E s horizon listing (refused n p k) listed → Reports E s horizon width listing report (refused n p k) listed report
      refused_run l =
          record {
            left = l.left ∙ sym (ap (λ w. buffer_after w.records listing) runs);
            makes = refused_before (report_of (pulses_of E s horizon width) (length (ran_for E s horizon width (length listing)).records)) report (ap (λ w. w.answer) runs ∙ sym l.answered);
          }

      pub not_finished : (r : Refusal) {listed : List ℕ} → RunLeaves E s horizon listing (as_refused r) listed → Reports E s horizon width listing report (as_refused r) listed report
      not_finished r l = let h = is_refused r in rw h.3 (refused_run (rw h.3 at l))

      -- a finished one is reported from its listing
      pub reported : {n : ℕ} {listed reported : List ℕ} {answer : Outcome} → RunLeaves E s horizon listing (finished n) listed
          → Makes (finished n) (report_of (pulses_in horizon width listed n) n) report answer reported → Reports E s horizon width listing report answer listed reported
      reported {n} {listed} {reported} {answer} l m =
          let e = sym l.answered in
          let pulses = ap (λ b. pulses_in horizon width b n) l.left ∙ bytes_show (length listing) n e listing in
          record {
            left = l.left ∙ sym (ap (λ w. buffer_after w.records listing) runs);
            makes =
                subst (λ w. Makes w.answer (report_of (pulses_of E s horizon width) (length w.records)) report answer reported) (sym runs)
                (subst (λ o. Makes o (report_of (pulses_of E s horizon width) (length run.records)) report answer reported) (sym e)
                (subst (λ k. Makes (finished n) (report_of (pulses_of E s horizon width) k) report answer reported) (finished_one (length listing) n e).counted
                (subst (λ l. Makes (finished n) (report_of l n) report answer reported) pulses m)));
          }
