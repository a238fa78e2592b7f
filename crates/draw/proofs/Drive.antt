-- The drive that is drawn: how many events it has, what each is by its number, that its ticks are few, and that it rises by tick and then by node.
-- Assumes nothing.
use Rattle.std.proofs.Common.{◌≡◌, ℕ, zero, suc, ◌+◌, ◌-◌, ◌*◌, ◌<◌, ◌≤◌, List, ◌++◌, length, get_or, sym, ap, ◌∙◌, ap₂, subst₂, mod-lt, arith, lit<, length-append, get_or-append-add}
use lib.ListN.{get_or-append}
use native.Mathlib.Decide.{dec_lt}
use Rattle.sheet.specs.declared.Event.{Event}
use Rattle.sheet.specs.Enumerate.{listed}
use Rattle.sheet.specs.Refusal.{key}
use Rattle.sheet.proofs.Listed.{length-listed, get_or-listed}
use Rattle.format.proofs.Accepted.{rises}
use Rattle.draw.specs.Draw.{draw}
use Rattle.draw.specs.Drive.{tick_draw, input_draw, tick_before, first_event, later_event, drawn_drive}

module _ (inputs : List ℕ) (seed : ℕ) where
  later_tick : (k : ℕ) → tick_before inputs seed k < tick_before inputs seed (suc k)
  unfolding tick_before
  later_tick k = omega arith

  pub tick_below : (k : ℕ) → tick_before inputs seed k ≤ 64 * k
  unfolding tick_before
  tick_below zero = omega arith
  tick_below (suc k) = omega (arith, tick_below k, mod-lt (draw seed (tick_draw inputs k)) {m = 64} (lit< tt))

  pub ticks_rise : (j k : ℕ) → j < k → tick_before inputs seed j < tick_before inputs seed k
  ticks_rise j k h = rises (tick_before inputs seed) (suc k) (λ i l. later_tick i) j k h (omega arith)

  module _ (n : ℕ) where
    abbrev drawn : List Event
    drawn = drawn_drive inputs seed n

    pub drawn_length : length drawn ≡ length inputs + n
    unfolding drawn_drive
    drawn_length =
        length-append (listed (length inputs) (first_event inputs seed)) (listed n (later_event inputs seed))
        ∙ ap₂ ◌+◌ (length-listed (length inputs) (first_event inputs seed)) (length-listed n (later_event inputs seed))

    pub first_at : (i : ℕ) → i < length inputs → (d : Event) → get_or drawn i d ≡ first_event inputs seed i
    unfolding drawn_drive
    first_at i h d =
        get_or-append (listed (length inputs) (first_event inputs seed)) (listed n (later_event inputs seed)) d i (rw (length-listed (length inputs) (first_event inputs seed)) h)
        ∙ get_or-listed (length inputs) (first_event inputs seed) i d h

    pub later_at : (k : ℕ) → k < n → (d : Event) → get_or drawn (length inputs + k) d ≡ later_event inputs seed k
    unfolding drawn_drive
    later_at k h d =
        ap (λ l. get_or (listed (length inputs) (first_event inputs seed) ++ listed n (later_event inputs seed)) (l + k) d) (sym (length-listed (length inputs) (first_event inputs seed)))
        ∙ get_or-append-add (listed (length inputs) (first_event inputs seed)) (listed n (later_event inputs seed)) k d
        ∙ get_or-listed n (later_event inputs seed) k d h

    pub rest_at : (a : ℕ) → length inputs ≤ a → a < length inputs + n → (d : Event) → get_or drawn a d ≡ later_event inputs seed (a - length inputs)
    rest_at a l h d = ap (λ i. get_or drawn i d) (omega (arith, l)) ∙ later_at (a - length inputs) (omega (arith, l, h)) d

    -- Of inputs that rise and are below 256; there is one if any event is drawn for it.
    module _ (rise : (i j : ℕ) → i < j → j < length inputs → get_or inputs i 0 < get_or inputs j 0) (small : (i : ℕ) → i < length inputs → get_or inputs i 0 < 256) (some : 0 < n → 0 < length inputs) where
      later_node : (k : ℕ) → k < n → (later_event inputs seed k).node < 256
      later_node k h = small _ (mod-lt (draw seed (input_draw inputs k)) (some (omega (arith, h))))

      pub drawn_rises : (a b : ℕ) → a < b → b < length drawn → (d : Event) → key (get_or drawn a d) < key (get_or drawn b d)
      drawn_rises a b l h d = by (dec_lt a (length inputs)) (dec_lt b (length inputs))
        where
          end : b < length inputs + n
          end = omega (arith, h, drawn_length)

          by : Dec (a < length inputs) → Dec (b < length inputs) → key (get_or drawn a d) < key (get_or drawn b d)
          by (yes p) (yes q) = subst₂ (λ x y. key x < key y) (sym (first_at a p d)) (sym (first_at b q d)) (omega (arith, rise a b l q))
          by (yes p) (no q) =
              subst₂ (λ x y. key x < key y) (sym (first_at a p d)) (sym (rest_at b (omega (arith, q)) end d))
              (omega (arith, small a p, ticks_rise 0 (suc (b - length inputs)) (omega arith)))
          by (no p) (yes q) = absurd (p (omega (arith, l, q)))
          by (no p) (no q) =
              subst₂ (λ x y. key x < key y) (sym (rest_at a (omega (arith, p)) (omega (arith, l, end)) d)) (sym (rest_at b (omega (arith, q)) end d))
              (omega (arith, later_node (a - length inputs) (omega (arith, p, l, end)), ticks_rise (suc (a - length inputs)) (suc (b - length inputs)) (omega (arith, l, p))))
