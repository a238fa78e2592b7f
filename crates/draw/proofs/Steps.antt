-- What the steps of drawing and writing come to: three draws in a row are an event, and the parts of a drive's section.
-- Assumes nothing.
use Rattle.std.proofs.Common.{◌≡◌, ℕ, suc, ◌+◌, ◌%◌, List, ◌++◌, length, get_or, sym, ap, ◌∙◌, ap₂, add-one, append_assoc, arith}
use Rattle.sheet.specs.declared.Event.{Event}
use Rattle.sheet.specs.Enumerate.{each, listed}
use Rattle.format.specs.Encode.{word_bytes, event_bytes, all_bytes}
use Rattle.format.proofs.AllBytes.{all_bytes-append, each_bytes}
use Rattle.draw.specs.Draw.{advanced, result_of, state_after}
use Rattle.draw.specs.Drive.{first_event, tick_draw, input_draw, value_draw, tick_before, later_event, drawn_drive, drive_bytes}
use Rattle.draw.proofs.Drive.{drawn_length}

-- Three draws, from the state and the tick before event k.
module _ (inputs : List ℕ) (seed k : ℕ) {state tick : ℕ} (from : state ≡ state_after seed (tick_draw inputs k)) (so_far : tick ≡ tick_before inputs seed k) where
  one : advanced state ≡ state_after seed (suc (tick_draw inputs k))
  unfolding state_after
  one = ap advanced from

  two : advanced (advanced state) ≡ state_after seed (suc (input_draw inputs k))
  unfolding state_after
  two =
      let at : suc (suc (tick_draw inputs k)) ≡ suc (input_draw inputs k) = omega arith in
      ap advanced one ∙ ap (state_after seed) at

  three : advanced (advanced (advanced state)) ≡ state_after seed (suc (value_draw inputs k))
  unfolding state_after
  three =
      let at : suc (suc (input_draw inputs k)) ≡ suc (value_draw inputs k) = omega arith in
      ap advanced two ∙ ap (state_after seed) at

  pub state_next : advanced (advanced (advanced state)) ≡ state_after seed (tick_draw inputs (k + 1))
  state_next =
      let at : suc (value_draw inputs k) ≡ tick_draw inputs (k + 1) = omega arith in
      three ∙ ap (state_after seed) at

  pub tick_next : tick + (1 + result_of (advanced state) % 64) ≡ tick_before inputs seed (suc k)
  unfolding tick_before
  tick_next = ap₂ (λ t s. t + (1 + result_of s % 64)) so_far one

  pub event_next : ◌≡◌ {A = Event} (record {
    tick = tick + (1 + result_of (advanced state) % 64);
    node = get_or inputs (result_of (advanced (advanced state)) % length inputs) 0;
    value = result_of (advanced (advanced (advanced state))) % 2;
  }) (later_event inputs seed k)
  event_next =
      λ i.
      record {
        tick = tick_next i;
        node = ap (λ s. get_or inputs (result_of s % length inputs) 0) two i;
        value = ap (λ s. result_of s % 2) three i;
      }

-- one record more
pub one_more : {A : Type 0} (bytes : A → List ℕ) (n : ℕ) (f : ℕ → A) → all_bytes bytes (listed (n + 1) f) ≡ all_bytes bytes (listed n f) ++ bytes (f n)
unfolding each
one_more bytes n f = rw (add-one n, ← each_bytes bytes (suc n) f, ← each_bytes bytes n f)

pub section_parts : (inputs : List ℕ) (seed n : ℕ)
    → word_bytes (length inputs + n) ++ all_bytes event_bytes (listed (length inputs) (first_event inputs seed)) ++ all_bytes event_bytes (listed n (later_event inputs seed))
    ≡ drive_bytes (drawn_drive inputs seed n)
unfolding drawn_drive
section_parts inputs seed n =
    append_assoc (word_bytes (length inputs + n)) (all_bytes event_bytes (listed (length inputs) (first_event inputs seed))) (all_bytes event_bytes (listed n (later_event inputs seed)))
    ∙ sym
    (ap₂ (λ l r. word_bytes l ++ r) (drawn_length inputs seed n) (all_bytes-append event_bytes (listed (length inputs) (first_event inputs seed)) (listed n (later_event inputs seed))))
