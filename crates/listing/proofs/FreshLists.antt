-- The records of a tick and what is then shown, one watched node after the other. Assumes nothing.
use mathlib.Core.List.{List, [], ◌∷◌, ◌++◌, append-nil}
use mathlib.Core.Path.{◌≡◌, refl, ap, ◌∙◌}
use Prim.Native.Nat.{ℕ, suc, ◌+◌, ◌<◌, ◌≤◌}
use mathlib.Core.Bool.{Bool, true, false}
use native.Mathlib.Omega.{arith}
use lib.Dec.{eqb}
use lib.ListN.{length, get_or, take, set, length-append, length-set, take-append-drop}
use Rattle.std.specs.Prelude.{if◌then◌else◌, cond, not, count_by}
use Rattle.std.proofs.lemmas.Bool.{not-false, not-true}
use Rattle.std.proofs.lemmas.List.{take_more}
use Rattle.std.proofs.lemmas.List.Recursion.{is_count_by}
use Rattle.network.specs.Listing.{Record}
use Rattle.model.specs.Fresh.{fresh, show_all}

-- a record or none before others, of which there are some more, or at most so many
before_more : (b : Bool) (r : Record) (rs qs : List Record) → (if b then rs ++ qs else r ∷ rs ++ qs) ≡ (if b then rs else r ∷ rs) ++ qs
before_more true r rs qs = refl
before_more false r rs qs = refl

before_few : (b : Bool) (r : Record) (rs : List Record) (n : ℕ) → length rs ≤ n → length (if b then rs else r ∷ rs) ≤ suc n
before_few true r rs n h = omega arith
before_few false r rs n h = omega arith

before_counted : (b : Bool) (r : Record) (rs : List Record) → length (if b then rs else r ∷ rs) ≡ cond (not b) (1 + length rs) (length rs)
before_counted true r rs = refl
before_counted false r rs = omega arith

module _ (values shown : List ℕ) where
  -- the node's value is the one shown last
  abbrev pub is_shown : ℕ → Bool
  is_shown v = eqb (get_or values v 0) (get_or shown v 0)

  fresh-append : (t : ℕ) (vs ws : List ℕ) → fresh t values shown (vs ++ ws) ≡ fresh t values shown vs ++ fresh t values shown ws
  unfolding fresh
  fresh-append t [] ws = refl
  fresh-append t (v ∷ vs) ws = rw (fresh-append t vs ws) (before_more (is_shown v) _ _ _)

  -- no more records than watched nodes
  pub fresh_few : (t : ℕ) (vs : List ℕ) → length (fresh t values shown vs) ≤ length vs
  unfolding fresh
  fresh_few t [] = omega arith
  fresh_few t (v ∷ vs) = before_few (is_shown v) _ _ _ (fresh_few t vs)

  -- as many as watched nodes have another value
  pub fresh_counted : (t : ℕ) (vs : List ℕ) → length (fresh t values shown vs) ≡ count_by (λ v. not (is_shown v)) vs
  unfolding fresh
  fresh_counted t vs = is_count_by (λ vs. length (fresh t values shown vs)) (λ v. not (is_shown v)) refl (λ v vs. before_counted (is_shown v) _ _) vs

  module _ (t : ℕ) (watched : List ℕ) (k : ℕ) (h : k < length watched) where
    fresh_more : fresh t values shown (take (k + 1) watched) ≡ fresh t values shown (take k watched) ++ fresh t values shown (get_or watched k 0 ∷ [])
    fresh_more = ap (fresh t values shown) (take_more watched k 0 h) ∙ fresh-append t (take k watched) (get_or watched k 0 ∷ [])

    -- the next watched node has its value shown already,
    pub fresh_same : not (is_shown (get_or watched k 0)) ≡ false → fresh t values shown (take (k + 1) watched) ≡ fresh t values shown (take k watched)
    unfolding fresh
    fresh_same e = fresh_more ∙ rw (not-false (is_shown (get_or watched k 0)) e) (append-nil (fresh t values shown (take k watched)))

    -- or it has a record,
    pub fresh_new : not (is_shown (get_or watched k 0)) ≡ true
        → fresh t values shown (take (k + 1) watched) ≡ fresh t values shown (take k watched) ++ record { tick = t; node = get_or watched k 0; value = get_or values (get_or watched k 0) 0 } ∷ []
    unfolding fresh
    fresh_new e = fresh_more ∙ rw (not-true (is_shown (get_or watched k 0)) e)

    -- for which there is room among those of all nodes
    pub fresh_room : not (is_shown (get_or watched k 0)) ≡ true → length (fresh t values shown (take k watched)) < length (fresh t values shown watched)
    fresh_room e =
        let parts = ap (λ vs. length (fresh t values shown vs)) (take-append-drop (k + 1) watched) in
        omega (arith, simp (fresh-append, length-append) at parts, simp length-append at (ap length (fresh_new e)))

shown_append : (values shown vs ws : List ℕ) → show_all values shown (vs ++ ws) ≡ show_all values (show_all values shown vs) ws
unfolding show_all
shown_append values shown [] ws = refl
shown_append values shown (v ∷ vs) ws = shown_append values (set shown v (get_or values v 0)) vs ws

-- the value of one watched node more is shown
pub shown_next : (values shown watched : List ℕ) (k : ℕ) → k < length watched
    → show_all values shown (take (k + 1) watched) ≡ set (show_all values shown (take k watched)) (get_or watched k 0) (get_or values (get_or watched k 0) 0)
unfolding show_all
shown_next values shown watched k h = ap (show_all values shown) (take_more watched k 0 h) ∙ shown_append values shown (take k watched) (get_or watched k 0 ∷ [])

-- one value is shown for each node, as before
pub shown_length : (values shown vs : List ℕ) → length (show_all values shown vs) ≡ length shown
unfolding show_all
shown_length values shown [] = refl
shown_length values shown (v ∷ vs) = shown_length values (set shown v (get_or values v 0)) vs ∙ length-set shown v (get_or values v 0)
