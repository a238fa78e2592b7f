-- The theorems of conversion between editions, each with the file that proves it. They assume nothing: they hold of all lists of numbers, or of all bytes where they say so.
use mathlib.Core.List.{List, [], ◌∷◌, ◌++◌, append-nil}
use mathlib.Core.Logic.{◌↔◌}
use mathlib.Core.Path.{◌≡◌, refl, sym, ap, ◌∙◌, subst}
use Prim.Native.Nat.{ℕ, ◌+◌, ◌-◌, ◌<◌, ◌≤◌}
use native.Mathlib.Omega.{arith}
use lib.ListN.{length, take, drop}
use lib.Seq.{take_at}
use Rattle.sheet.specs.declared.Edition.{Edition}
use Rattle.sheet.specs.Layout.{first_edition, second_edition, modules_counted, module_place, module_at, sheet_of}
use Rattle.sheet.specs.Outcome.{Outcome, finished, refused}
use Rattle.sheet.specs.Refusal.{first, checked, checked_strictly}
use Rattle.sheet.specs.Sheet.{module_count, module_of}
use Rattle.sheet.proofs.Rows.{count_0}
use Rattle.format.specs.Accepted.{Known, the_first, the_second, HasKinds, AcceptedIn}
use Rattle.format.specs.Encode.{encode, Bytes}
use Rattle.format.specs.FirstMet.{FirstMet}
use Rattle.format.specs.Made.{output_short, sheet_made}
use Rattle.format.proofs.Accepted.{accepted, conversely, strictly, strictly_conversely}
use Rattle.format.proofs.FirstMet.{first_met, first_refused}
use Rattle.format.proofs.Made.{refused_before, refused_short, made_whole, made_same, success}
use Rattle.network.specs.Buffer.{buffer_after}
use Rattle.network.specs.Run.{ran, RunLeaves}
use Rattle.convert.specs.Converted.{part, converted_record, converted, needed}
use Rattle.convert.specs.Conversion.{kind_not_in_first, conversion_rows, Converts}
use Rattle.convert.proofs.Answers.{own_refused, kind_refused, none_refused, both_accepted}
use Rattle.convert.proofs.Length.{converted-length, longer, shorter}
use Rattle.convert.proofs.Written.{converted-is, same_sheet, bytes_converted, accepted_converted, strictly_converted, back_again}

-- A record gains a third input of 0 before its delay, or loses its third input.
pub gains : (s : List ℕ) (p : ℕ) → converted_record first_edition second_edition s p ≡ part s p 5 ++ 0 ∷ [] ++ part s (p + 5) 2
gains s p = refl

pub loses : (s : List ℕ) (p : ℕ) → converted_record second_edition first_edition s p ≡ part s p 5 ++ part s (p + 6) 2
loses s p = ap (λ l. l ++ part s (p + 6) 2) (append-nil (part s p 5))

-- (a) A conversion answers, in this order: what the sheet's own edition refuses; 22 at the first record of a kind that the other edition lacks; 23 with
-- the length needed; a success. A refusal leaves the output as it was.
module _ (from to : Edition) (s : List ℕ) {output : List ℕ} {answer : Outcome} {after : List ℕ} (call : Converts from to s output answer after) where
  pub refused_by_its_own : {n p : ℕ} → checked from s ≡ refused n p 0 → (answer ≡ refused n p 0) × (after ≡ output)
  refused_by_its_own e = made_same call (refused_before (sheet_made (converted from to s)) output (own_refused from to s e))

  pub refused_22 : checked from s ≡ finished 0 → (m : ℕ) → m < modules_counted s → to.greatest < (module_at from s m).kind
      → ((k : ℕ) → k < m → (module_at from s k).kind ≤ to.greatest) → (answer ≡ refused kind_not_in_first (module_place from s m) 0) × (after ≡ output)
  refused_22 ok m h above before = made_same call (refused_before (sheet_made (converted from to s)) output (kind_refused from to s ok m h above before))

  module _ (known : Known from) (known' : Known to) (ok : checked from s ≡ finished 0) (kinds : HasKinds to (sheet_of from s)) where
    long : length (converted from to s) ≡ needed from to s
    long = converted-length known s (accepted from known s ok) known'

    pub refused_23 : length output < needed from to s → (answer ≡ refused output_short (needed from to s) 0) × (after ≡ output)
    refused_23 h =
        subst (λ n. (answer ≡ refused output_short n 0) × (after ≡ output)) long
        (made_same call (refused_short (sheet_made (converted from to s)) output (none_refused from to s ok kinds) (omega (arith, h, long))))

    pub succeeds : needed from to s ≤ length output → (answer ≡ finished (needed from to s)) × (after ≡ converted from to s ++ drop (needed from to s) output)
    succeeds h =
        subst (λ n. (answer ≡ finished n) × (after ≡ converted from to s ++ drop n output)) long
        (made_same call (made_whole (sheet_made (converted from to s)) output (none_refused from to s ok kinds) (omega (arith, h, long))))

-- Before the output is looked at, a refusal is given exactly where its row is the first that is met.
pub refused_first : (from to : Edition) (s : List ℕ) (n p : ℕ) → (first (conversion_rows from to s) ≡ refused n p 0) ↔ FirstMet (conversion_rows from to s) n p
refused_first from to s n p = (first_met (conversion_rows from to s) n p, first_refused (conversion_rows from to s) n p)

-- The second edition has the first's kinds.
pub second_has_all : (s : List ℕ) → checked first_edition s ≡ finished 0 → HasKinds second_edition (sheet_of first_edition s)
second_has_all s ok m h = omega (arith, (accepted first_edition the_first s ok).kinds m h)

-- (b) First to second succeeds for every accepted sheet and an output that takes it.
pub first_to_second : (s : List ℕ) {output : List ℕ} {answer : Outcome} {after : List ℕ} → Converts first_edition second_edition s output answer after
    → checked first_edition s ≡ finished 0 → length s + modules_counted s ≤ length output
    → (answer ≡ finished (length s + modules_counted s)) × (after ≡ converted first_edition second_edition s ++ drop (length s + modules_counted s) output)
first_to_second s {output} {answer} {after} call ok h =
    subst (λ n. n ≤ length output → (answer ≡ finished n) × (after ≡ converted first_edition second_edition s ++ drop n output))
    (longer s (accepted first_edition the_first s ok)) (succeeds first_edition second_edition s call the_first the_second ok (second_has_all s ok)) h

-- Second to first does if kinds 10 to 15 are absent.
pub second_to_first : (s : List ℕ) {output : List ℕ} {answer : Outcome} {after : List ℕ} → Converts second_edition first_edition s output answer after
    → checked second_edition s ≡ finished 0 → ((m : ℕ) → m < module_count (sheet_of second_edition s) → (module_of (sheet_of second_edition s) m).kind ≤ 9)
    → length s - modules_counted s ≤ length output
    → (answer ≡ finished (length s - modules_counted s)) × (after ≡ converted second_edition first_edition s ++ drop (length s - modules_counted s) output)
second_to_first s {output} {answer} {after} call ok kinds h =
    subst (λ n. n ≤ length output → (answer ≡ finished n) × (after ≡ converted second_edition first_edition s ++ drop n output))
    (shorter s (accepted second_edition the_second s ok)) (succeeds second_edition first_edition s call the_second the_first ok kinds) h

-- And a success is answered under these conditions alone.
pub only_then : (from to : Edition) (s : List ℕ) {output : List ℕ} {n : ℕ} {after : List ℕ} → Converts from to s output (finished n) after
    → (checked from s ≡ finished 0) × HasKinds to (sheet_of from s) × (n ≡ length (converted from to s)) × (n ≤ length output) × (take n after ≡ converted from to s)
only_then from to s {output} {n} {after} call =
    let done = success call in
    let both = both_accepted from to s (count_0 (conversion_rows from to s) _ done.passed.1) in
    (both.0, both.1, done.counted, omega (arith, done.counted, done.fits), ap (take n) done.left ∙ take_at (converted from to s) _ n (sym done.counted))

-- Of a sheet of bytes that its edition accepts, converted to an edition that has its kinds:
module _ {from to : Edition} (known : Known from) (known' : Known to) (s : List ℕ) (bytes : Bytes s) (ok : checked from s ≡ finished 0) (kinds : HasKinds to (sheet_of from s)) where
  into : AcceptedIn from s
  into = accepted from known s ok

  -- (c) it is the same sheet, written in the other edition,
  pub written_in_other : (converted from to s ≡ encode to (sheet_of from s)) × (sheet_of to (converted from to s) ≡ sheet_of from s) × Bytes (converted from to s)
  written_in_other = (converted-is known s into bytes known', same_sheet known s into bytes known' kinds, bytes_converted known s into bytes known' kinds)

  -- there and back gives the same bytes,
  pub there_and_back : converted to from (converted from to s) ≡ s
  there_and_back = back_again known known' s into bytes kinds

  -- (d) it is accepted by its edition, strictly if the given one was,
  pub accepted_there : checked to (converted from to s) ≡ finished 0
  accepted_there = conversely to known' (converted from to s) (accepted_converted known s into bytes known' kinds)

  pub strictly_there : checked_strictly from s ≡ finished 0 → checked_strictly to (converted from to s) ≡ finished 0
  strictly_there strict = strictly_conversely to known' (converted from to s) (strictly_converted known s into bytes known' kinds (strictly from known s strict))

  -- (e) and it runs to the same answer and records at every horizon and buffer length, refusals included.
  pub same_run : (horizon room : ℕ) → ran to (converted from to s) horizon room ≡ ran from s horizon room
  unfolding ran
  same_run horizon room = rw (accepted_there, ok, same_sheet known s into bytes known' kinds)

-- The same of calls, as they promise it. Back from what a conversion wrote, with an output that takes it: the given bytes, and past them as it was.
pub back_by_calls : {from to : Edition} → Known from → Known to → (s : List ℕ) {output output' : List ℕ} {answer : Outcome} {n : ℕ} {after after' : List ℕ} → Bytes s
    → Converts from to s output (finished n) after → Converts to from (take n after) output' answer after' → length s ≤ length output'
    → (answer ≡ finished (length s)) × (after' ≡ s ++ drop (length s) output')
back_by_calls {from} {to} known known' s {output} {output'} {answer} {n} {after} {after'} bytes call call' h =
    let done = only_then from to s call in
    let again = there_and_back known known' s bytes done.0 done.1 in
    let c = converted from to s in
    let there = subst (λ t. Converts to from t output' answer after') done.4 call' in
    let kinds : HasKinds from (sheet_of to c) = subst (HasKinds from) (sym (written_in_other known known' s bytes done.0 done.1).1) (accepted from known s done.0).kinds in
    let whole = made_whole (sheet_made (converted to from c)) output' (none_refused to from c (accepted_there known known' s bytes done.0 done.1) kinds) (omega (arith, h, ap length again)) in
    subst (λ t. (answer ≡ finished (length t)) × (after' ≡ t ++ drop (length t) output')) again (made_same there whole)

-- Runs of both sheets over the same buffer leave the same answer and the same bytes.
pub same_leaves : {from to : Edition} → Known from → Known to → (s : List ℕ) {output : List ℕ} {n : ℕ} {after : List ℕ} → Bytes s → Converts from to s output (finished n) after
    → (horizon : ℕ) {buffer left left' : List ℕ} {answer answer' : Outcome} → RunLeaves from s horizon buffer answer left → RunLeaves to (take n after) horizon buffer answer' left'
    → (answer' ≡ answer) × (left' ≡ left)
same_leaves {from} {to} known known' s {output} {n} {after} bytes call horizon {buffer} {left} {left'} {answer} {answer'} run run' =
    let done = only_then from to s call in
    let same = ap (λ t. ran to t horizon (length buffer)) done.4 ∙ same_run known known' s bytes done.0 done.1 horizon (length buffer) in
    (run'.answered ∙ ap (λ w. w.answer) same ∙ sym run.answered, run'.left ∙ ap (λ w. buffer_after w.records buffer) same ∙ sym run.left)
