-- Going over one more node. L says from which node one can go to which; `via L k` also goes over node k. It is closed under going over k, and
-- over each node that L is closed under going over. Assumes nothing.
use mathlib.Core.Bool.{Bool, true, ◌&&◌, ◌||◌}
use mathlib.Core.Logic.Iff
use mathlib.Core.Logic.{◌⊎◌, inl, inr, ⊎_elim}
use mathlib.Core.Path.{◌≡◌}
use Prim.Native.Nat.{ℕ}
use Rattle.sheet.proofs.Tests.{Tells, tells_and, tells_or}

abbrev pub via : (ℕ → ℕ → Bool) → ℕ → ℕ → ℕ → Bool
via L k u v = L u v || L u k && L k v

-- closed under going over a node
abbrev pub Over : (ℕ → ℕ → Bool) → ℕ → Type 0
Over L w = (u v : ℕ) → L u w ≡ true → L w v ≡ true → L u v ≡ true

module _ (L : ℕ → ℕ → Bool) (k : ℕ) where
  pub tells_via : (u v : ℕ) → Tells (via L k u v) ((L u v ≡ true) ⊎ ((L u k ≡ true) × (L k v ≡ true)))
  tells_via u v = tells_or (L u v) (L u k && L k v) Iff.rfl (tells_and (L u k) (L k v) Iff.rfl Iff.rfl)

  -- to node k, and from it, one goes as before
  to : (u : ℕ) → via L k u k ≡ true → L u k ≡ true
  to u t = ⊎_elim (λ h. h) (λ h. h.0) ((tells_via u k).0 t)

  from : (v : ℕ) → via L k k v ≡ true → L k v ≡ true
  from v t = ⊎_elim (λ h. h) (λ h. h.1) ((tells_via k v).0 t)

  pub over_new : Over (via L k) k
  over_new u v p q = (tells_via u v).1 (inr (to u p, from v q))

  pub over_old : (w : ℕ) → Over L w → Over (via L k) w
  over_old w o u v p q =
      (tells_via u v).1
      (⊎_elim
      (λ a. ⊎_elim (λ b. inl (o u v a b)) (λ b. inr (o u k a b.0, b.1)) ((tells_via w v).0 q))
      (λ a. inr (a.0, ⊎_elim (o k v a.1) (λ b. b.1) ((tells_via w v).0 q)))
      ((tells_via u w).0 p))
