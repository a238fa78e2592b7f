-- `simulate::read_full` meets its contract: what a read put after the bytes so far is what the reader gave after them. Assumes nothing.
use Rattle.std.proofs.Common.{◌≡◌, ℕ, ◌+◌, ◌-◌, ◌≤◌, List, ◌++◌, length, take, rules, arith, ap, sym, ◌∙◌, subst, length-take-le}
use Rattle.std.proofs.KnownBytes.{Consumes-trans}
use Rattle.std.proofs.lemmas.List.{take-append-le}
use Rattle.std.specs.Io.KnownBytes.{Consumes}
use borrow.Rule.Slice.PartMut.{put_mid, post_of}
use lib.Seq.{take-append-add}
use Rattle.simulate.proofs.read_full.Goals as goal

-- the first bytes, and as many of those put after them
take_after : (a k n : ℕ) (xs ys : List ℕ) → a ≤ length xs → n ≤ length ys → take (a + n) (put_mid a k xs ys) ≡ take a xs ++ take n ys
take_after a k n xs ys within fits =
    let rest = post_of a k xs in
    let first : length (take a xs) ≡ a = length-take-le a xs within in
    ap (λ m. take (m + n) (take a xs ++ (ys ++ rest))) (sym first) ∙ take-append-add (take a xs) (ys ++ rest) n ∙ ap (λ l. take a xs ++ l) (take-append-le n ys rest fits)

pub loop-done-preserved : goal.loop-done-preserved
loop-done-preserved g c =
    let before = c.loop-done.input in
    let done = c.loop-done.done in
    let within : done ≤ length before = omega arith in
    let joined = take_after done (length before - done) c.in-Ok.n before c.read.new.buf within c.in-Ok.ensures.bound.0 in
    (search rules, subst (Consumes _ _) (sym joined) (Consumes-trans _ _ _ _ _ c.loop-done.invariant.1 c.in-Ok.ensures.bytes.0))
