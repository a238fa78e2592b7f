-- `loaded::load` meets its contract: the places and the inputs are found, and then the sheet is loaded for them. Assumes nothing.
use Rattle.std.proofs.Common.{◌≡◌, ℕ, ◌-◌, ◌≤◌, List, length, take, drop, sym, ap, ◌∙◌, rules, arith, length-drop, length-take, eqb}
use Rattle.std.proofs.Math.ListN.{replicate, length-replicate}
use Rattle.std.proofs.lemmas.List.{take_all, length-take-le}
use Rattle.sheet.specs.declared.Edition.{Edition}
use Rattle.sheet.specs.Enumerate.{chosen}
use Rattle.sheet.specs.Layout.{nodes_counted, node_at, drive_place, watched_place}
use Rattle.sheet.specs.Limits.{input_byte}
use Rattle.sheet.specs.Outcome.{finished}
use Rattle.sheet.specs.Refusal.{checked}
use Rattle.format.specs.Accepted.{Known, AcceptedIn}
use Rattle.format.proofs.Accepted.{accepted}
use Rattle.lent.specs.Lent.{Printed}
use Rattle.loaded.specs.Loaded.{inputs_in}
use Rattle.loaded.proofs.Answers.{by_parts}
use Rattle.loaded.proofs.Found.{count_below, inputs_found}
use Rattle.loaded.proofs.Length.{drive_within, watched_within, short_sheet, few_nodes, inputs_below}
use Rattle.loaded.proofs.load.Goals as goal

-- The sheet is accepted, and its drive's section lies within it,
module _ {e : Edition} (s : List ℕ) (accepts : Known e × (checked e s ≡ finished 0)) where
  ok : AcceptedIn e s
  ok = accepted e accepts.0 s accepts.1

  module _ {drive watched : ℕ} (places : (drive ≡ drive_place e s) × (watched ≡ watched_place e s)) where
    drive_in : drive ≤ length s
    drive_in = omega (arith, places.0, drive_within accepts.0 s ok)

    watched_in : watched ≤ length s
    watched_in = omega (arith, places.1, watched_within accepts.0 s ok)

  -- and its inputs are found.
  module _ {nodes count : ℕ} {found : List ℕ} (word : nodes ≡ nodes_counted s)
      (printed : Printed (replicate 256 0) (chosen nodes (λ v. eqb (node_at s v) input_byte) (λ v. v)) found count) where
    all : Printed (replicate 256 0) (chosen (nodes_counted s) (λ v. eqb (node_at s v) input_byte) (λ v. v)) found count
    all = rw word at printed

    few : count ≤ 256
    few = count_below e s ok (length-replicate {A = ℕ} 256 0) all

    inputs : take count found ≡ inputs_in e s
    inputs = inputs_found e s ok (length-replicate {A = ℕ} 256 0) all

pub find_inputs-count-requires : goal.find_inputs-count-requires
find_inputs-count-requires c = omega (arith, c.word.ensures, few_nodes c.requires.0 c.args.sheet.now (ok c.args.sheet.now c.requires))

pub slice_bounds-loading-end : goal.slice_bounds-loading-end
slice_bounds-loading-end c = sym (length-take-le _ _ (drive_in c.args.sheet.now c.requires c.find_places-drive.ensures))

pub slice_bounds-loading-count : goal.slice_bounds-loading-count
slice_bounds-loading-count c =
    let s = c.args.sheet.now in
    let places = c.find_places-drive.ensures in
    omega (arith, drive_in s c.requires places, watched_in s c.requires places)

pub slice_bounds-loading-start : goal.slice_bounds-loading-start
slice_bounds-loading-start c =
    let s = c.args.sheet.now in
    let drive = drive_in s c.requires c.find_places-drive.ensures in
    let watched = watched_in s c.requires c.find_places-drive.ensures in
    search rules

pub invariant_of-loading : goal.invariant_of-loading
invariant_of-loading c =
    let s = c.args.sheet.now in
    let known = c.requires.0 in
    let inputs = inputs s c.requires c.word.ensures c.find_inputs-count.ensures in
    record {
      short = omega (arith, length-take {A = ℕ}, length-drop {A = ℕ}, short_sheet known s (ok s c.requires));
      few = omega (arith, ap length inputs, inputs_below known s (ok s c.requires));
    }

pub returns : goal.returns
returns c =
    let a = c.args in
    let s = a.sheet.now in
    let places = c.find_places-drive.ensures in
    let rest : take (length s - watched_place a.edition s) (drop (watched_place a.edition s) s) ≡ drop (watched_place a.edition s) s = take_all _ _ (omega (arith, length-drop {A = ℕ})) in
    by_parts a.edition s a.n c.requires.1 a.seed (ap (λ p. take p s) places.0) (ap (λ p. take (length s - p) (drop p s)) places.1 ∙ rest) (inputs s c.requires c.word.ensures c.find_inputs-count.ensures) c.load.ensures
