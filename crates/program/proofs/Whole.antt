-- The program prints all of its text: the answer's sentence and, after a finished run, a line for each record of the run, and the lent
-- text takes it whole. Assumes nothing.
use mathlib.Core.List.{List, [], ◌∷◌, ◌++◌, Memᴰ}
use mathlib.Core.Path.{◌≡◌, refl, sym, ap, ◌∙◌, subst}
use native.Mathlib.Omega.{arith}
use Prim.Native.Nat.{ℕ, suc, ◌-◌, ◌<◌, ◌≤◌}
use lib.ListN.{length, take, drop, length-append, length-map}
use lib.Seq.{take_at}
use Rattle.sheet.specs.Layout.{first_edition, sheet_of}
use Rattle.sheet.specs.Outcome.{Outcome, finished, refused}
use Rattle.format.specs.Accepted.{the_first}
use Rattle.network.specs.Listing.{listing}
use Rattle.network.specs.Ends.{Ended, ended_of}
use Rattle.network.specs.Timeline.{Cells}
use Rattle.network.specs.Buffer.{room}
use Rattle.network.specs.Run.{Written, cells_of, ran}
use Rattle.network.specs.Demand2.{RunOf}
use Rattle.network.proofs.Listing.{watched_bytes}
use Rattle.network.proofs.RunConditions.{finished_run}
use Rattle.network.proofs.Demand2.{demand_2, sheet_accepted, timelines_exist}
use Rattle.lent.specs.Lent.{Printed}
use Rattle.lent.proofs.Digits.{few_digits}
use Rattle.lent.proofs.Putting.{whole}
use Rattle.sentence.specs.Sentence.{sentence}
use Rattle.sentence.proofs.Longest.{finished_length, longest_sentence}
use Rattle.text.specs.Printing.{newline, printed_text}
use Rattle.program.specs.Program.{sheet_in, horizon_in, run_of, listing_of, program_text}
use Rattle.program.specs.Room.{lent_bytes, text_bytes}
use Rattle.program.proofs.Lines.{lines_of, lines_printed, Short, lines_length}

-- of a finished run: the count is that of the records, which the buffer takes, and their numbers are in range
pub record Finished (bytes n : ℕ) (records : List Ended) : Type 0 where
  pub counted : n ≡ length records
  pub fits : n ≤ room bytes
  pub small : (r : Ended) → Memᴰ r records → Short r

last_tick : {horizon : ℕ} → 0 < horizon → suc (horizon - 1) ≡ horizon
last_tick h = omega arith

module _ (s : List ℕ) (horizon bytes : ℕ) where
  abbrev cells : Cells
  cells = cells_of (sheet_of first_edition s) horizon

  run_of_lem : RunOf first_edition s horizon bytes cells
  run_of_lem = demand_2 the_first s horizon bytes cells (timelines_exist the_first s horizon)

  pub at_horizon : (n : ℕ) → (ran first_edition s horizon bytes).answer ≡ finished n → Finished bytes n (ran first_edition s horizon bytes).records
  at_horizon n e =
      let S = sheet_of first_edition s in
      let f = finished_run (ran first_edition s horizon bytes) ((run_of_lem.answers (ran first_edition s horizon bytes)).0 refl) n e in
      let b = f.begins in
      let room_left = (f.passes (horizon - 1) (omega (arith, b.some_tick))).room_left in
      record {
        counted = f.counted;
        fits = omega (arith, f.counted, ap length f.listed, length-map (listing S cells horizon) (ended_of cells horizon), subst (λ k. length (listing S cells k) ≤ room bytes) (last_tick b.some_tick) room_left);
        small = λ r m.
            let shown = (run_of_lem.lists n e).shown r m in
            record {
              tick = omega (arith, shown.start.below, b.few_ticks);
              node = omega (arith, watched_bytes S (sheet_accepted the_first s horizon b) r.start.node shown.start.watched);
              end = omega (arith, shown.end.within, b.few_ticks);
            };
      }

module _ (input listing : List ℕ) where
  abbrev run : Written
  run = run_of input (length listing)

  -- after a finished run: its sentence, and a line for each record of the run
  pub records_printed : (n : ℕ) → run.answer ≡ finished n → program_text input listing ≡ sentence (finished n) ++ newline ∷ lines_of run.records
  unfolding program_text printed_text
  records_printed n e =
      let x = at_horizon (sheet_in input) (horizon_in input) (length listing) n e in
      ap (λ o. printed_text o (listing_of input listing)) e
      ∙ ap (λ l. sentence (finished n) ++ newline ∷ l) (lines_printed run.records listing n x.counted (λ r m. (omega (arith, (x.small r m).tick), omega (arith, (x.small r m).end))))

  -- after a refusal: its sentence alone
  pub refusal_printed : (n p k : ℕ) → run.answer ≡ refused n p k → program_text input listing ≡ sentence (refused n p k) ++ newline ∷ []
  unfolding program_text printed_text
  refusal_printed n p k e = ap (λ o. printed_text o (listing_of input listing)) e

-- The text that the program lends takes all that is printed.
module _ (input listing : List ℕ) (lent : length listing ≡ lent_bytes) where
  finished_fits : (n : ℕ) → (run input listing).answer ≡ finished n → length (program_text input listing) ≤ text_bytes
  finished_fits n e =
      let x = at_horizon (sheet_in input) (horizon_in input) (length listing) n e in
      let count : n ≤ 6000 = omega (arith, x.fits, lent) in
      let digits = few_digits 10 3 n (omega (arith, count)) in
      let lines = lines_length (run input listing).records x.small in
      rw (records_printed input listing n e)
      (omega (arith, count, digits, finished_length n, lines, x.counted, length-append (sentence (finished n)) (newline ∷ lines_of (run input listing).records)))

  refused_fits : (n p k : ℕ) → (run input listing).answer ≡ refused n p k → length (program_text input listing) ≤ text_bytes
  refused_fits n p k e =
      rw (refusal_printed input listing n p k e) (omega (arith, longest_sentence (refused n p k), length-append (sentence (refused n p k)) (newline ∷ [])))

  pub room_for_all : length (program_text input listing) ≤ text_bytes
  room_for_all = by (run input listing).answer refl
    where
      by : (o : Outcome) → (run input listing).answer ≡ o → length (program_text input listing) ≤ text_bytes
      by (finished n) e = finished_fits n e
      by (refused n p k) e = refused_fits n p k e

  -- so what is printed is the program's text, whole
  pub all_printed : {start text : List ℕ} {at : ℕ} → length start ≡ text_bytes → Printed start (program_text input listing) text at → (at ≡ length (program_text input listing)) × (take at text ≡ program_text input listing)
  all_printed {start} {text} {at} size p =
      let all = whole p (omega (arith, room_for_all, size)) in
      (all.0, ap (take at) all.1 ∙ take_at (program_text input listing) (drop (length (program_text input listing)) start) at (sym all.0))
