-- The theorems of loading, each with the file that proves it. They assume nothing: they hold of all lists of numbers, or of all bytes where they say so.
use lib.ListN.{length, get_or, take, drop}
use lib.Seq.{take_at}
use mathlib.Core.List.{List, ◌++◌}
use mathlib.Core.Logic.{◌↔◌}
use mathlib.Core.Path.{◌≡◌, refl, sym, ap, ◌∙◌, subst}
use native.Mathlib.Omega.{arith}
use Prim.Native.Nat.{ℕ, suc, ◌+◌, ◌*◌, ◌%◌, ◌^◌, ◌<◌, ◌≤◌}
use Rattle.sheet.specs.declared.Edition.{Edition}
use Rattle.sheet.specs.declared.Event.{Event}
use Rattle.sheet.specs.Layout.{drive_place, watched_place, sheet_of}
use Rattle.sheet.specs.Limits.{most_events}
use Rattle.sheet.specs.Outcome.{Outcome, finished, refused}
use Rattle.sheet.specs.Refusal.{first, checked, checked_strictly}
use Rattle.sheet.specs.Sheet.{no_event, event_count, event_of}
use Rattle.sheet.proofs.Rows.{count_0}
use Rattle.format.specs.Accepted.{Input, Known, AcceptedIn}
use Rattle.format.specs.Encode.{encode, Bytes}
use Rattle.format.specs.FirstMet.{FirstMet}
use Rattle.format.specs.Made.{output_short, sheet_made}
use Rattle.format.proofs.Accepted.{accepted, conversely, strictly_conversely}
use Rattle.format.proofs.FirstMet.{first_met, first_refused}
use Rattle.format.proofs.Made.{refused_before, refused_short, made_whole, made_same, success}
use Rattle.draw.specs.Draw.{result_of, state_after, draw}
use Rattle.draw.specs.Drive.{later_event, drawn_drive, drive_bytes}
use Rattle.loaded.specs.Loaded.{inputs_in, loaded, needed, with_drive}
use Rattle.loaded.specs.Loading.{drawn_too_many, load_rows, Loads}
use Rattle.loaded.proofs.Answers.{TooMany, drawn_refused, drawn_passed, passing, own_refused, own_passed, both_passed_by}
use Rattle.draw.proofs.Draws.{state_is, result_small}
use Rattle.draw.proofs.Drive.{drawn_length, first_at, later_at}
use Rattle.loaded.proofs.Inputs.{same_inputs}
use Rattle.loaded.proofs.Length.{loaded-length}
use Rattle.loaded.proofs.Written.{loaded-is, loaded_sheet, loaded_bytes, loaded_strictly, loaded_again}

-- (a) A draw's state is the remainder of the seed and as many steps, and its result is of that state, at every draw.
pub drawn_state : (seed k : ℕ) → state_after seed (suc k) ≡ (seed + suc k * 2654435769) % 2 ^ 32
drawn_state = state_is

pub drawn_result : (seed k : ℕ) → (draw seed k ≡ result_of ((seed + suc k * 2654435769) % 2 ^ 32)) × (draw seed k < 2 ^ 16)
drawn_result seed k = (ap result_of (state_is seed k), result_small seed k)

-- (b) A load answers, in this order: what the sheet's own edition refuses; 26; 23 with the length of the new sheet; a success. A refusal leaves the output as
-- it was.
module _ (e : Edition) (s : List ℕ) (seed n : ℕ) {output : List ℕ} {answer : Outcome} {after : List ℕ} (call : Loads e s seed n output answer after) where
  pub refused_by_its_own : {m p : ℕ} → checked e s ≡ refused m p 0 → (answer ≡ refused m p 0) × (after ≡ output)
  refused_by_its_own r = made_same call (refused_before (sheet_made (loaded e s seed n)) output (own_refused e s n r))

  pub refused_26 : checked e s ≡ finished 0 → TooMany (length (inputs_in e s)) n → (answer ≡ refused drawn_too_many 0 0) × (after ≡ output)
  refused_26 ok h = made_same call (refused_before (sheet_made (loaded e s seed n)) output (own_passed e s n ok ∙ drawn_refused (length (inputs_in e s)) n h))

  module _ (known : Known e) (ok : checked e s ≡ finished 0) (few : TooMany (length (inputs_in e s)) n → ⊥) where
    long : length (loaded e s seed n) ≡ needed e s n
    long = loaded-length known s (accepted e known s ok) seed n

    passed : first (load_rows e s n) ≡ finished 0
    passed = own_passed e s n ok ∙ drawn_passed (length (inputs_in e s)) n few

    pub refused_23 : length output < needed e s n → (answer ≡ refused output_short (needed e s n) 0) × (after ≡ output)
    refused_23 h =
        subst (λ k. (answer ≡ refused output_short k 0) × (after ≡ output)) long
        (made_same call (refused_short (sheet_made (loaded e s seed n)) output passed (omega (arith, h, long))))

    pub succeeds : needed e s n ≤ length output → (answer ≡ finished (needed e s n)) × (after ≡ loaded e s seed n ++ drop (needed e s n) output)
    succeeds h =
        subst (λ k. (answer ≡ finished k) × (after ≡ loaded e s seed n ++ drop k output)) long
        (made_same call (made_whole (sheet_made (loaded e s seed n)) output passed (omega (arith, h, long))))

-- Before the output is looked at, a refusal is given exactly where its row is the first that is met.
pub refused_first : (e : Edition) (s : List ℕ) (n m p : ℕ) → (first (load_rows e s n) ≡ refused m p 0) ↔ FirstMet (load_rows e s n) m p
refused_first e s n m p = (first_met (load_rows e s n) m p, first_refused (load_rows e s n) m p)

-- And a success is answered under these conditions alone.
pub only_then : (e : Edition) (s : List ℕ) (seed n : ℕ) {output : List ℕ} {k : ℕ} {after : List ℕ} → Loads e s seed n output (finished k) after
    → (checked e s ≡ finished 0) × (TooMany (length (inputs_in e s)) n → ⊥) × (k ≡ length (loaded e s seed n)) × (k ≤ length output) × (take k after ≡ loaded e s seed n)
only_then e s seed n {output} {k} {after} call =
    let done = success call in
    let both = both_passed_by e s n (count_0 (load_rows e s n) _ done.passed.1) in
    (both.0, both.1, done.counted, omega (arith, done.counted, done.fits), ap (take k) done.left ∙ take_at (loaded e s seed n) _ k (sym done.counted))

-- Of a sheet of bytes that its edition accepts, and a count that is not refused:
module _ {e : Edition} (known : Known e) (s : List ℕ) (bytes : Bytes s) (ok : checked e s ≡ finished 0) (seed n : ℕ) (few : TooMany (length (inputs_in e s)) n → ⊥) where
  into : AcceptedIn e s
  into = accepted e known s ok

  counts : (length (inputs_in e s) + n ≤ most_events) × (0 < n → 0 < length (inputs_in e s))
  counts = passing (length (inputs_in e s)) n few

  abbrev drawn : List Event
  drawn = drawn_drive (inputs_in e s) seed n

  -- (c) everything but the drive is the given sheet's,
  pub all_but_the_drive : sheet_of e (loaded e s seed n) ≡ with_drive (sheet_of e s) drawn
  all_but_the_drive = loaded_sheet known s into seed n counts.0 counts.1 bytes

  -- in its bytes too, which are those that this sheet is written as,
  pub written_so : (loaded e s seed n ≡ take (drive_place e s) s ++ drive_bytes drawn ++ drop (watched_place e s) s)
      × (loaded e s seed n ≡ encode e (with_drive (sheet_of e s) drawn)) × Bytes (loaded e s seed n)
  unfolding loaded
  written_so = (refl, loaded-is known s into seed n counts.0 counts.1 bytes, loaded_bytes known s into seed n counts.0 counts.1 bytes)

  -- (d) it is accepted by its edition, and strictly,
  pub accepted_strictly : checked_strictly e (loaded e s seed n) ≡ finished 0
  accepted_strictly = strictly_conversely e known (loaded e s seed n) (loaded_strictly known s into seed n counts.0 counts.1 bytes)

  pub accepted_plainly : checked e (loaded e s seed n) ≡ finished 0
  accepted_plainly = conversely e known (loaded e s seed n) (loaded_strictly known s into seed n counts.0 counts.1 bytes).accepted

  -- (e) and its events, read from its bytes, are the drawn ones: an event at tick 0 for each input, then n of them, with these draws.
  pub event_total : event_count (sheet_of e (loaded e s seed n)) ≡ length (inputs_in e s) + n
  event_total = ap event_count all_but_the_drive ∙ drawn_length (inputs_in e s) seed n

  pub first_drawn : (i : ℕ) → i < length (inputs_in e s)
      → event_of (sheet_of e (loaded e s seed n)) i ≡ record { tick = 0; node = get_or (inputs_in e s) i 0; value = draw seed i % 2 }
  first_drawn i h = ap (λ S. event_of S i) all_but_the_drive ∙ first_at (inputs_in e s) seed n i h no_event

  pub later_drawn : (k : ℕ) → k < n → event_of (sheet_of e (loaded e s seed n)) (length (inputs_in e s) + k) ≡ later_event (inputs_in e s) seed k
  later_drawn k h = ap (λ S. event_of S (length (inputs_in e s) + k)) all_but_the_drive ∙ later_at (inputs_in e s) seed n k h no_event

  -- (f) Of the events that are replaced nothing is left: a sheet that is loaded again is as if it had not been loaded before.
  pub nothing_left : (seed' n' : ℕ) → loaded e (loaded e s seed n) seed' n' ≡ loaded e s seed' n'
  nothing_left = loaded_again known s into bytes seed n counts.0 counts.1

-- (g) Accepted sheets of either edition with the same inputs get the same drive from one seed and n, whatever else they have; so one is refused with 26 where
-- the other is.
module _ (e e' : Edition) (s s' : List ℕ) (same : (v : ℕ) → Input (sheet_of e s) v ↔ Input (sheet_of e' s') v) where
  pub same_list : inputs_in e s ≡ inputs_in e' s'
  same_list = same_inputs (sheet_of e s) (sheet_of e' s') same

  pub same_26 : (n : ℕ) → checked e s ≡ finished 0 → checked e' s' ≡ finished 0 → first (load_rows e s n) ≡ first (load_rows e' s' n)
  same_26 n ok ok' = own_passed e s n ok ∙ rw same_list (sym (own_passed e' s' n ok'))

  pub same_drive : Known e → Known e' → Bytes s → Bytes s' → checked e s ≡ finished 0 → checked e' s' ≡ finished 0 → (seed n : ℕ) → (TooMany (length (inputs_in e s)) n → ⊥)
      → (sheet_of e (loaded e s seed n)).drive ≡ (sheet_of e' (loaded e' s' seed n)).drive
  same_drive known known' bytes bytes' ok ok' seed n few =
      ap (λ S. S.drive) (all_but_the_drive known s bytes ok seed n few)
      ∙ ap (λ l. drawn_drive l seed n) same_list
      ∙ sym (ap (λ S. S.drive) (all_but_the_drive known' s' bytes' ok' seed n (subst (λ l. TooMany (length l) n → ⊥) same_list few)))

-- The same of calls, as they promise it. What a success wrote is strictly accepted;
pub accepted_by_call : {e : Edition} → Known e → (s : List ℕ) → Bytes s → (seed n : ℕ) {output : List ℕ} {k : ℕ} {after : List ℕ} → Loads e s seed n output (finished k) after
    → checked_strictly e (take k after) ≡ finished 0
accepted_by_call {e} known s bytes seed n call =
    let done = only_then e s seed n call in
    ap (checked_strictly e) done.4 ∙ accepted_strictly known s bytes done.0 seed n done.1

-- what two wrote has one drive.
pub same_by_calls : {e e' : Edition} → Known e → Known e' → (s s' : List ℕ) → Bytes s → Bytes s' → ((v : ℕ) → Input (sheet_of e s) v ↔ Input (sheet_of e' s') v)
    → (seed n : ℕ) {output output' : List ℕ} {k k' : ℕ} {after after' : List ℕ}
    → Loads e s seed n output (finished k) after → Loads e' s' seed n output' (finished k') after'
    → (sheet_of e (take k after)).drive ≡ (sheet_of e' (take k' after')).drive
same_by_calls {e} {e'} known known' s s' bytes bytes' same seed n call call' =
    let done = only_then e s seed n call in
    let done' = only_then e' s' seed n call' in
    ap (λ t. (sheet_of e t).drive) done.4 ∙ same_drive e e' s s' same known known' bytes bytes' done.0 done'.0 seed n done.1 ∙ sym (ap (λ t. (sheet_of e' t).drive) done'.4)
