-- `reason::phrase` meets its contract: each part of the table in the code has what the definitions list there, row by row, as antt computes.
-- Assumes nothing.
use Rattle.std.proofs.Common.{ℕ, List, Bor, [], ◌≡◌, ◌≤◌, length, get_or, map, take, drop, ◌++◌, ◌+◌, ◌-◌, ◌<◌, suc, sym, ap, ◌∙◌, rules, arith}
use Rattle.std.proofs.lemmas.List.{get_or-map, get_or-take, get_or-drop, length-map}
use Rattle.lent.specs.Letters.{letters}
use Rattle.reason.specs.declared.Sort.{Sort}
use Rattle.reason.specs.declared.Sort.TheVariants.{Bare}
use Rattle.reason.specs.Phrases.{Phrase, ◌by◌, before, phrases, unlisted, is_listed}
use Rattle.reason.specs.Reason.{said, reason}
use Rattle.reason.proofs.Listed.{is-listed, above_listed}
use Rattle.reason.proofs.phrase.Goals as goal
use Rattle.reason.proofs.phrase.Goals.{then-number-eq0-via-then-number-eq0, then-number-eq0-via-else-number-eq0+then-number-gt26}

-- a number that the table has no row for
pub returns-then-number-eq0 : goal.returns-then-number-eq0
unfolding reason
returns-then-number-eq0 c =
    elim c.then-number-eq0.branch [
      | then-number-eq0-via-then-number-eq0 w ↦ rw (ap is_listed w.if-number-eq0.true)
      | then-number-eq0-via-else-number-eq0+then-number-gt26 w ↦ rw (above_listed c.args.number w.if-number-gt26.true)
    ]

-- what a row of the table in the code says
abbrev row_said : Bor (List ℕ) × Sort → List ℕ
row_said (wrong, sort) = wrong.now ++ letters (before sort)

-- rows that say what the definitions list after the first k
row_is : (k n : ℕ) (rows : List (Bor (List ℕ) × Sort)) (d : Bor (List ℕ) × Sort) → map row_said rows ≡ map said (take (length rows) (drop k phrases))
    → k < n → n ≤ k + length rows → n ≤ length phrases → reason n ≡ row_said (get_or rows (n - suc k) d)
unfolding reason
row_is k n rows d same some most listed =
    rw (is-listed n (omega (arith, some)) listed)
    (ap (λ j. said (get_or phrases j none)) at ∙ ap said (sym (get_or-take (length rows) (drop k phrases) i none small ∙ get_or-drop k phrases i none))
    ∙ sym (get_or-map said part i none [] in_part) ∙ ap (λ l. get_or l i []) (sym same) ∙ get_or-map row_said rows i d [] small)
  where
    none : Phrase
    none = unlisted by Bare

    i : ℕ
    i = n - suc k

    part : List Phrase
    part = take (length rows) (drop k phrases)

    at : n - 1 ≡ k + i
    at = omega (arith, some)

    small : i < length rows
    small = omega (arith, some, most)

    in_part : i < length part
    in_part = omega (arith, small, simp length-map at (ap length same))

pub returns-then-number-le9 : goal.returns-then-number-le9
unfolding letters
returns-then-number-le9 c = let some : 0 < c.args.number = omega (arith, c.if-number-eq0.false) in search (rules, row_is 0)

pub returns-then-number-le18 : goal.returns-then-number-le18
unfolding letters
returns-then-number-le18 c = search (rules, row_is 9)

pub returns : goal.returns
unfolding letters
returns c = search (rules, row_is 18)
