-- What a module's record, at its place, says of its rows, and what is known once the first modules are read. Assumes nothing.
use mathlib.Core.Bool.{Bool, true, false}
use mathlib.Core.List.{List, ◌∷◌, ◌++◌}
use mathlib.Core.Path.{◌≡◌, sym, ap, ◌∙◌}
use Prim.Native.Nat.{ℕ, ◌+◌, ◌*◌, ◌<◌, ◌≤◌}
use native.Mathlib.Nat.{mul-zero, mul-suc, add-zero, add_assoc}
use native.Mathlib.Numerals.{add-one}
use native.Mathlib.Omega.{arith}
use borrow.Author.Count.{below_none, below_more}
use lib.ListN.{length, get_or, set, drop, replicate, get_or-replicate, length-replicate, length-set}
use lib.Seq.{get_or-set_same, get_or-set_other}
use Rattle.std.proofs.lemmas.List.{drop-replicate}
use Rattle.std.specs.Prelude.{None, Some, Ok}
use Rattle.sheet.specs.declared.Edition.{Edition}
use Rattle.sheet.specs.declared.Module.{Module}
use Rattle.sheet.specs.declared.refusal.Refusal.{Refusal}
use Rattle.sheet.specs.Bytes.{word_at, ends_inside}
use Rattle.sheet.specs.Enumerate.{any_below, each, listed}
use Rattle.sheet.specs.Flags.{Flags}
use Rattle.sheet.specs.Layout.{nodes_counted, modules_place, modules_counted, module_place, module_record, module_at, sheet_of, count_size}
use Rattle.sheet.specs.Limits.{most_modules}
use Rattle.sheet.specs.Outcome.{Outcome, finished, refused}
use Rattle.sheet.specs.Reading.{module_read}
use Rattle.sheet.specs.Refusal.{Row, ◌at◌when◌, first, count_rows, module_rows, modules_section}
use Rattle.sheet.specs.Sheet.{no_module}
use Rattle.sheet.specs.Told.{as_refused, Told}
use Rattle.sheet.specs.Wiring.{driven_by}
use Rattle.sheet.proofs.Listed.{listed-is}
use Rattle.sheet.proofs.Parts.{counts_modules, module_of_lem}
use Rattle.sheet.proofs.Read.{none_read, some_read}
use Rattle.sheet.proofs.Rows.{none_yet, passed_append, passed_each}
use Rattle.sheet.proofs.Told.{stopped_each}
use Rattle.read_nodes.proofs.Flags.{flag_more}
use Rattle.read_modules.specs.declared.section.ModulesRead.{ModulesRead}
use Rattle.read_modules.specs.Read.{ModulesKnown}
use Rattle.read_modules.specs.Record.{record_rows}

-- The count and the first m records are read: none of their rows is met, the records stand in the array's front, their outputs are flagged, and the
-- next one's place is known.
pub record Reached (e : Edition) (s : List ℕ) (count m p : ℕ) (records : List Module) (driven : List Bool) : Type 0 where
  pub count_clear : first (count_rows s (modules_place s) 0 most_modules) ≡ finished 0
  pub counted : count ≡ modules_counted s
  pub few : count ≤ 256
  pub room : length records ≡ count
  pub clear : first (each m (module_rows e s)) ≡ finished 0
  pub held : (k : ℕ) → k < m → get_or records k no_module ≡ module_at e s k
  pub long : length driven ≡ 256
  pub flags : Flags driven (driven_by (sheet_of e s) m)
  pub place : p ≡ module_place e s m
  pub near : p ≤ 300 + 255 * m

-- the rows of a module whose record stands at a place
abbrev rows_at : Edition → List ℕ → ℕ → List Row
rows_at e s q = (2 at q when ends_inside s q e.size) ∷ record_rows e.greatest (nodes_counted s) q (module_record e s q)

module _ {e : Edition} {s : List ℕ} where
  pub none_reached : (count p : ℕ) → p ≡ modules_place s → p ≤ 258 → Told (count_rows s p 0 most_modules) (λ n. (n ≡ word_at s p) × (n ≤ most_modules)) (Ok count)
      → Reached e s count 0 (p + count_size) (replicate count no_module) (replicate 256 false)
  unfolding any_below
  none_reached count p is h told =
      let here = rw is at told in
      record {
        count_clear = here.0;
        counted = here.1.0;
        few = here.1.1;
        room = length-replicate count no_module;
        clear = none_yet (module_rows e s);
        held = below_none (λ k. get_or (replicate count no_module) k no_module ≡ module_at e s k);
        long = length-replicate 256 false;
        flags = λ v l. get_or-replicate 256 v false false l;
        place = rw (mul-zero e.size, is) (sym (add-zero (modules_place s + count_size)));
        near = omega (arith, h);
      }

  module _ {count m p : ℕ} {records : List Module} {driven : List Bool} (reached : Reached e s count m p records driven) where
    -- all records are read
    pub all_reached : count ≤ m → m ≤ count → (r : ModulesRead) → r.modules.count ≡ count → r.modules.records ≡ records ++ drop count (replicate 256 no_module)
        → r.driven ≡ driven → r.end ≡ p → Told (modules_section e s) (ModulesKnown e s) (Ok r)
    all_reached h g r counted held flagged ends =
        let last : m ≡ modules_counted s = omega (arith, h, g, reached.counted) in
        let all : listed (modules_counted s) (module_at e s) ≡ records =
        listed-is records no_module (modules_counted s) (module_at e s) (omega (arith, reached.counted, reached.room)) (λ k b. sym (reached.held k (omega (arith, b, h, reached.room)))) in (
          passed_append (count_rows s (modules_place s) 0 most_modules) (each (modules_counted s) (module_rows e s)) reached.count_clear ∙ rw last at reached.clear,
          record {
            section = record { counted = counted ∙ reached.counted; held = held ∙ rw (all, reached.room, drop-replicate count 256 no_module) };
            driven = rw (flagged, counts_modules e s, ← last) reached.flags;
            end = rw ends (reached.place ∙ ap (module_place e s) last, omega (arith, g, reached.near, reached.few));
          },
        )

    -- the next record is refused
    pub record_refused : m < count → (r : Refusal) → first (module_rows e s m) ≡ as_refused r → first (modules_section e s) ≡ as_refused r
    record_refused h r met =
        passed_append (count_rows s (modules_place s) 0 most_modules) (each (modules_counted s) (module_rows e s)) reached.count_clear
        ∙ stopped_each r (module_rows e s) m (modules_counted s) (omega (arith, h, reached.counted)) reached.clear met

    pub module_short : None ≡ module_read e s p → first (module_rows e s m) ≡ refused 2 p 0
    unfolding first
    module_short read = ap (λ q. first (rows_at e s q)) (sym reached.place) ∙ simp (none_read (ends_inside s p e.size) (module_record e s p) read)

    module _ {r : Module} (read : Some r ≡ module_read e s p) where
      there : (ends_inside s p e.size ≡ false) × (r ≡ module_record e s p)
      there = some_read (ends_inside s p e.size) (module_record e s p) r read

      -- what the code tests of the record is what its rows say
      pub module_whole : {nodes : ℕ} → nodes ≡ nodes_counted s → {o : Outcome} → o ≡ first (record_rows e.greatest nodes p r) → first (module_rows e s m) ≡ o
      unfolding first
      module_whole n told =
          ap (λ q. first (rows_at e s q)) (sym reached.place)
          ∙ simp there.0
          (ap (λ x. first (record_rows e.greatest (nodes_counted s) p x)) (sym there.1)
          ∙ ap (λ k. first (record_rows e.greatest k p r)) (sym n)
          ∙ sym told)

      -- one module more
      pub one_more_read : m < count → r.output < 256 → e.size < 256 → first (module_rows e s m) ≡ finished 0
          → Reached e s count (m + 1) (p + e.size) (set records m r) (set driven r.output true)
      unfolding any_below
      one_more_read l h small clear =
          let is : r ≡ module_at e s m = there.1 ∙ ap (module_record e s) reached.place in
          let out = ap (λ x. x.output) (module_of_lem e s m (omega (arith, l, reached.counted)) ∙ sym is) in
          record {
            count_clear = reached.count_clear;
            counted = reached.counted;
            few = reached.few;
            room = length-set records m r ∙ reached.room;
            clear = passed_each (module_rows e s) m reached.clear clear;
            held =
                below_more _ _
                (λ k b. get_or-set_other records m k r no_module (omega (arith, b)) ∙ reached.held k b)
                (get_or-set_same records m r no_module (omega (arith, l, reached.room)) ∙ is);
            long = length-set driven r.output true ∙ reached.long;
            flags = λ v. rw (add-one m, out) (flag_more driven (driven_by (sheet_of e s) m) r.output reached.long h reached.flags v);
            place = rw (reached.place, add-one m, mul-suc e.size m) (add_assoc (modules_place s + count_size) (e.size * m) e.size);
            near = omega (arith, reached.near);
          }
