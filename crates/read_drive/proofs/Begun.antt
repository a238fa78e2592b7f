-- The flags of nodes that have begun stand for the modules and the events passed. Assumes nothing.
use mathlib.Core.Bool.{Bool, false, ◌&&◌, ◌||◌, not, or-false, or_assoc}
use mathlib.Core.List.{List, [], ◌∷◌}
use mathlib.Core.Path.{◌≡◌, sym, ap, ◌∙◌}
use native.Mathlib.Numerals.{add-one}
use native.Mathlib.Omega.{arith}
use Prim.Native.Nat.{ℕ, ◌+◌, ◌<◌, ◌≤◌}
use lib.ListN.{length, get_or, take, length-set, length-take}
use Rattle.std.specs.Prelude.{None, Some, if◌then◌else◌, position}
use Rattle.std.specs.List.{position_or_len}
use Rattle.std.proofs.lemmas.Bool.Decides.{nat_tests}
use Rattle.std.proofs.lemmas.List.{get_or-take}
use Rattle.std.proofs.lemmas.List.Sums.{fails_before_first}
use Rattle.std.proofs.lemmas.List.Quantifiers.{position-Some}
use Rattle.sheet.specs.declared.Edition.{Edition}
use Rattle.sheet.specs.declared.Event.{Event}
use Rattle.sheet.specs.Enumerate.{any_below, each}
use Rattle.sheet.specs.Flags.{Flags}
use Rattle.sheet.specs.Layout.{nodes_counted, events_counted, event_at, sheet_of}
use Rattle.sheet.specs.Outcome.{finished, refused}
use Rattle.sheet.specs.Refusal.{◌at◌when◌, first, first_event_rows, first_events_section}
use Rattle.sheet.specs.Sheet.{Sheet, node_count, event_count, event_of}
use Rattle.sheet.specs.Wiring.{is_driven, is_input, started_by, driven_at_start}
use Rattle.sheet.proofs.Each.{each_same}
use Rattle.sheet.proofs.Parts.{counts_nodes, counts_events, event_of_lem}
use Rattle.sheet.proofs.Rows.{all_nil, ◌and◌, all_each, first_clear, refused_each}
use Rattle.read_nodes.proofs.Flags.{flag_more}
use Rattle.read_drive.specs.Begun.{begun_by, unbegun_rows, unbegun_section}

-- where the flags passed are set, no row is met
begun_nodes : (nodes : ℕ) (flags : List Bool) → ((v : ℕ) → v < nodes → not (get_or flags v false) ≡ false) → first (each nodes (unbegun_rows flags)) ≡ finished 0
begun_nodes nodes flags begun =
    (first_clear (each nodes (unbegun_rows flags))).1 (all_each nodes (unbegun_rows flags) (λ v h. ◌and◌ {C = λ r. r.met ≡ false} (begun v h) (all_nil (λ r. r.met ≡ false))))

-- the first node that has not begun is refused
pub unbegun_node : (nodes : ℕ) (flags : List Bool) (v : ℕ) → Some v ≡ position not (take nodes flags) → first (each nodes (unbegun_rows flags)) ≡ refused 15 v 0
unfolding first
unbegun_node nodes flags v is =
    let found = position-Some not (take nodes flags) v false (sym is) in
    let there : v < nodes = omega (arith, length-take nodes flags) in
    let before : (k : ℕ) → k < v → not (get_or flags k false) ≡ false = λ k h. ap not (sym (get_or-take nodes flags k false (omega arith))) ∙ found.2 k h in
    refused_each (unbegun_rows flags) v nodes there (begun_nodes v flags before) (simp (ap not (sym (get_or-take nodes flags v false there)) ∙ found.1))

pub all_begun : (nodes : ℕ) (flags : List Bool) → nodes ≤ length flags → None ≡ position not (take nodes flags) → first (each nodes (unbegun_rows flags)) ≡ finished 0
all_begun nodes flags long is =
    let none : length (take nodes flags) ≤ position_or_len not (take nodes flags) = grind (arith, nat_tests) in
    begun_nodes nodes flags (λ v h. ap not (sym (get_or-take nodes flags v false h)) ∙ fails_before_first not (take nodes flags) v false (omega (arith, length-take nodes flags)))

-- a module drives the node, or one of the first k events does at tick 0
abbrev pub begun_in : Sheet → ℕ → ℕ → Bool
begun_in S k v = is_driven S v || started_by S k v

pub begun_length : (event : Event) (flags : List Bool) → length (begun_by event flags) ≡ length flags
begun_length event flags = grind (arith, length-set)

pub begun_none : (S : Sheet) (flags : List Bool) → Flags flags (is_driven S) → Flags flags (begun_in S 0)
unfolding any_below
begun_none S flags known v h = known v h ∙ sym (or-false (is_driven S v))

pub begun_more : (e : Edition) (s : List ℕ) (k : ℕ) (event : Event) (flags : List Bool) → Flags flags (begun_in (sheet_of e s) k) → event ≡ event_at e s k → k < events_counted e s → length flags ≡ 256 → event.node < 256
    → Flags (begun_by event flags) (begun_in (sheet_of e s) (k + 1))
unfolding any_below
begun_more e s k event flags before is h long small v b =
    let here : event_of (sheet_of e s) k ≡ event = event_of_lem e s k h ∙ sym is in
    let set_there = flag_more flags (begun_in (sheet_of e s) k) event.node long small before v b in
    rw (add-one k, here) (grind (arith, nat_tests, or_assoc))

-- once all events are passed, the flags decide the rows after the drive
pub first_rows : (strict : Bool) (e : Edition) (s : List ℕ) (flags : List Bool) {k nodes : ℕ} → Flags flags (begun_in (sheet_of e s) k) → k ≡ events_counted e s → nodes ≡ nodes_counted s → nodes ≤ 256
    → unbegun_section strict nodes flags ≡ first_events_section strict e s
first_rows strict e s flags {k} known all counted few =
    ap (λ rows. if strict then rows else [])
    (rw counted (each_same (nodes_counted s) (unbegun_rows flags) (first_event_rows e s) (λ v h. ap (λ b. (15 at v when b) ∷ []) (same v h))))
  where
    S : Sheet
    S = sheet_of e s

    same : (v : ℕ) → v < nodes_counted s → not (get_or flags v false) ≡ (is_input S v && not (driven_at_start S v))
    same v h =
        let begun = known v (omega arith) in
        let node : v < node_count S = rw (counts_nodes e s) h in
        let events : k ≡ event_count S = all ∙ sym (counts_events e s) in
        grind (arith, nat_tests)
