-- An accepted sheet's bytes with another drive's section are what the sheet with that drive is written as. With the drawn drive it is accepted, strictly
-- too. Assumes nothing.
use lib.ListN.{length, get_or, take, drop, length-append}
use lib.Seq.{take_at, drop_at}
use mathlib.Core.List.{List, ◌++◌, append_assoc}
use mathlib.Core.Path.{◌≡◌, refl, sym, ap, ◌∙◌}
use native.Mathlib.Decide.{dec_lt}
use native.Mathlib.Nat.{mod-lt}
use native.Mathlib.Omega.{arith}
use Prim.Native.Nat.{ℕ, suc, ◌+◌, ◌-◌, ◌*◌, ◌<◌, ◌≤◌}
use Rattle.sheet.specs.declared.Edition.{Edition}
use Rattle.sheet.specs.declared.Event.{Event}
use Rattle.sheet.specs.Layout.{event_size, drive_place, watched_place, sheet_of}
use Rattle.sheet.specs.Limits.{most_events}
use Rattle.sheet.specs.Sheet.{Sheet, no_event}
use Rattle.sheet.proofs.Parts.{counts_nodes, counts_modules, counts_events}
use Rattle.format.specs.Accepted.{Input, SoundEvent, Accepted, Known, HasKinds, AcceptedIn, DrivenAtStart, StrictlyAcceptedIn}
use Rattle.format.specs.Encode.{word_bytes, module_bytes, event_bytes, all_bytes, encode, Bytes}
use Rattle.format.proofs.AllBytes.{length-all_bytes}
use Rattle.format.proofs.EncodeRead.{reading_encoded}
use Rattle.format.proofs.EncodeRecord.{module_length}
use Rattle.network.proofs.Written.{read_back, written_bytes, written_strictly}
use Rattle.draw.specs.Draw.{draw}
use Rattle.draw.specs.Drive.{sheet_inputs, input_draw, first_event, later_event, drawn_drive, drive_bytes}
use Rattle.loaded.specs.Loaded.{with_section, inputs_in, loaded, with_drive}
use Rattle.draw.proofs.Drive.{tick_below, drawn_length, first_at, rest_at, drawn_rises}
use Rattle.loaded.proofs.Inputs.{input_at, input_place, inputs_rise}
use Rattle.loaded.proofs.WithDrive.{input_back, accepted_with}

-- what stands before the drive's section, and after it
front : Edition → Sheet → List ℕ
front e S = word_bytes (length S.nodes) ++ S.nodes ++ word_bytes (length S.modules) ++ all_bytes (module_bytes e) S.modules

back : Sheet → List ℕ
back S = word_bytes (length S.watched) ++ S.watched

regroup : (a b c d e : List ℕ) → a ++ b ++ c ++ d ++ e ≡ a ++ (b ++ c) ++ (d ++ e)
regroup a b c d e = simp append_assoc

three_parts : (e : Edition) (S : Sheet) → encode e S ≡ front e S ++ drive_bytes S.drive ++ back S
unfolding encode front back
three_parts e S = regroup (front e S) (word_bytes (length S.drive)) (all_bytes event_bytes S.drive) (word_bytes (length S.watched)) S.watched

event_length : (e : Event) → length (event_bytes e) ≡ event_size
event_length e = refl

pub drive_length : (drive : List Event) → length (drive_bytes drive) ≡ 2 + event_size * length drive
drive_length drive = length-append (word_bytes (length drive)) (all_bytes event_bytes drive) ∙ ap (λ n. 2 + n) (length-all_bytes event_size event_bytes event_length drive)

module _ {e : Edition} (known : Known e) (s : List ℕ) (ok : AcceptedIn e s) where
  abbrev S : Sheet
  S = sheet_of e s

  module _ (bytes : Bytes s) where
    parts : s ≡ front e S ++ drive_bytes S.drive ++ back S
    parts = sym (reading_encoded known s bytes ok) ∙ three_parts e S

    front_length : length (front e S) ≡ drive_place e s
    unfolding front
    front_length =
        simp length-append (omega (arith, counts_nodes e s, length-all_bytes e.size (module_bytes e) (module_length known) S.modules, ap (λ n. e.size * n) (counts_modules e s)))

    section_ends : length (front e S ++ drive_bytes S.drive) ≡ watched_place e s
    section_ends = length-append (front e S) (drive_bytes S.drive) ∙ omega (arith, front_length, drive_length S.drive, counts_events e s)

    front_stays : take (drive_place e s) s ≡ front e S
    front_stays = ap (take (drive_place e s)) (parts ∙ append_assoc (front e S) (drive_bytes S.drive) (back S)) ∙ take_at (front e S) _ (drive_place e s) front_length

    back_stays : drop (watched_place e s) s ≡ back S
    back_stays = ap (drop (watched_place e s)) parts ∙ drop_at (front e S ++ drive_bytes S.drive) (back S) (watched_place e s) section_ends

    pub replaced_is : (drive : List Event) → with_section s (drive_place e s) (watched_place e s) drive ≡ encode e (with_drive S drive)
    unfolding front back
    replaced_is drive = rw (front_stays, back_stays) (sym (three_parts e (with_drive S drive)))

    -- whatever the seed and the count, refused or not
    pub section_drawn : (seed n : ℕ) → loaded e s seed n ≡ encode e (with_drive S (drawn_drive (sheet_inputs S) seed n))
    unfolding loaded
    section_drawn seed n = replaced_is (drawn_drive (sheet_inputs S) seed n)

  -- Of the drawn drive, for a seed and a count that is not refused.
  module _ (seed n : ℕ) (few : length (inputs_in e s) + n ≤ most_events) (some : 0 < n → 0 < length (inputs_in e s)) where
    abbrev inputs : List ℕ
    inputs = inputs_in e s

    abbrev drawn : List Event
    drawn = drawn_drive inputs seed n

    abbrev L : Sheet
    L = with_drive S drawn

    small : (i : ℕ) → i < length inputs → get_or inputs i 0 < 256
    small i h = omega (arith, (input_at S i h).node, ok.sheet.nodes)

    first_sound : (i : ℕ) → i < length inputs → SoundEvent S (first_event inputs seed i)
    first_sound i h = record { tick = omega arith; node = input_at S i h; value = omega arith }

    later_sound : (k : ℕ) → k < n → SoundEvent S (later_event inputs seed k)
    later_sound k h =
        record {
          tick = omega (arith, tick_below inputs seed (suc k), h, few);
          node = input_at S _ (mod-lt (draw seed (input_draw inputs k)) (some (omega (arith, h))));
          value = omega arith;
        }

    sound : (k : ℕ) → k < length drawn → SoundEvent S (get_or drawn k no_event)
    sound k h = by (dec_lt k (length inputs))
      where
        end : k < length inputs + n
        end = omega (arith, h, drawn_length inputs seed n)

        by : Dec (k < length inputs) → SoundEvent S (get_or drawn k no_event)
        by (yes p) = rw (first_at inputs seed n k p no_event) (first_sound k p)
        by (no p) = rw (rest_at inputs seed n k (omega (arith, p)) end no_event) (later_sound (k - length inputs) (omega (arith, p, end)))

    pub sheet_accepted : Accepted L
    sheet_accepted =
        accepted_with S drawn ok.sheet (omega (arith, few, drawn_length inputs seed n)) sound
        (λ a b l h. drawn_rises inputs seed n (λ i j l h. inputs_rise S i j l h 0) small some a b l h no_event)

    started : (v : ℕ) → Input L v → DrivenAtStart L v
    started v i =
        let p = input_place S v (input_back S drawn i) in
        let e = first_at inputs seed n p.0 p.1 no_event in
        record { event = p.0; listed = omega (arith, p.1, drawn_length inputs seed n); tick = ap (λ x. x.tick) e; node = ap (λ x. x.node) e ∙ p.2 }

    kinds : HasKinds e L
    kinds = ok.kinds

    module _ (bytes : Bytes s) where
      pub loaded-is : loaded e s seed n ≡ encode e L
      loaded-is = section_drawn bytes seed n

      pub loaded_sheet : sheet_of e (loaded e s seed n) ≡ L
      loaded_sheet = rw loaded-is (read_back known L sheet_accepted kinds)

      pub loaded_bytes : Bytes (loaded e s seed n)
      loaded_bytes = rw loaded-is (written_bytes known L sheet_accepted kinds)

      pub loaded_strictly : StrictlyAcceptedIn e (loaded e s seed n)
      loaded_strictly = rw loaded-is (written_strictly known L sheet_accepted kinds started)

-- loaded again, it is as if it had not been loaded before
pub loaded_again : {e : Edition} (known : Known e) (s : List ℕ) (ok : AcceptedIn e s) → Bytes s → (seed n : ℕ) → length (inputs_in e s) + n ≤ most_events
    → (0 < n → 0 < length (inputs_in e s)) → (seed' n' : ℕ) → loaded e (loaded e s seed n) seed' n' ≡ loaded e s seed' n'
loaded_again {e} known s ok bytes seed n few some seed' n' =
    section_drawn known (loaded e s seed n) (loaded_strictly known s ok seed n few some bytes).accepted (loaded_bytes known s ok seed n few some bytes) seed' n'
    ∙ ap (λ T. encode e (with_drive T (drawn_drive (sheet_inputs T) seed' n'))) (loaded_sheet known s ok seed n few some bytes)
    ∙ sym (section_drawn known s ok bytes seed' n')
