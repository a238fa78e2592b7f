-- The test for a zero-delay loop says exactly what document 01 says: a closed chain of modules of delay 0, each output being a used input of the next.
-- Soundness: where one node leads to another, some module drives the second, and every driver of the first has a chain to it. Completeness:
-- leading over the nodes below k is closed under going over each of them. Assumes nothing.
use mathlib.Core.Bool.{true, ◌&&◌}
use mathlib.Core.List.Memᴰ
use mathlib.Core.List.{Memᴰ}
use mathlib.Core.Logic.{inl, ⊎_elim}
use mathlib.Core.Path.{◌≡◌, refl, sym, subst}
use Prim.Native.Nat.{ℕ, zero, suc, ◌<◌, ◌≤◌}
use native.Mathlib.Nat.{le_of_suc-le-suc, eq-or-lt_of_le, not-suc-le-zero, le_refl}
use native.Mathlib.Omega.{arith}
use lib.Dec.{eqb}
use Rattle.sheet.specs.declared.Module.{Module}
use Rattle.sheet.specs.Enumerate.{any_of}
use Rattle.sheet.specs.Sheet.{Sheet, node_count, module_count, module_of}
use Rattle.sheet.specs.Wiring.{used_inputs}
use Rattle.sheet.specs.Loop.{Feeds, Chain, link, more, OnLoop, links, leads, leads_over, is_on_loop}
use Rattle.sheet.proofs.Tests.{Tells, tells_as, tells_eq, tells_and, tells_below, tells_member}
use Rattle.format.proofs.Over.{via, Over, tells_via, over_new, over_old}

-- a module of delay 0 drives the node
record Drives (S : Sheet) (m v : ℕ) : Type 0 where
  below : m < module_count S
  at_once : (module_of S m).delay ≡ 0
  output : (module_of S m).output ≡ v

-- a module of delay 0 drives the second node, and every one that drives the first has a chain to it
record Reaches (S : Sheet) (u v : ℕ) : Type 0 where
  last : ℕ
  drives : Drives S last v
  chain : (a : ℕ) → Drives S a u → Chain S a last

-- what the test of one module's links tells
pub record Linked (m : Module) (u v : ℕ) : Type 0 where
  pub at_once : m.delay ≡ 0
  pub output : m.output ≡ v
  pub used : Memᴰ u (used_inputs m)

tells_links : (m : Module) (u v : ℕ) → Tells (links m u v) (Linked m u v)
tells_links m u v =
    tells_as
    (tells_and (eqb m.delay 0 && eqb m.output v) (any_of (eqb u) (used_inputs m))
    (tells_and (eqb m.delay 0) (eqb m.output v) (tells_eq m.delay 0) (tells_eq m.output v))
    (tells_member u (used_inputs m)))
    (λ h. record { at_once = h.0.0; output = h.0.1; used = h.1 }, λ l. ((l.at_once, l.output), l.used))

module _ (S : Sheet) where
  pub tells_leads : (u v : ℕ) → Tells (leads S u v) ((m : ℕ) × (m < module_count S) × Linked (module_of S m) u v)
  tells_leads u v = tells_below (module_count S) (λ m. links (module_of S m) u v) (λ m. tells_links (module_of S m) u v)

  -- soundness
  one : (u v : ℕ) → u < node_count S → leads S u v ≡ true → Reaches S u v
  one u v n t = go ((tells_leads u v).0 t)
    where
      go : (m : ℕ) × (m < module_count S) × Linked (module_of S m) u v → Reaches S u v
      go (m, l, h) =
          record {
            last = m;
            drives = record { below = l; at_once = h.at_once; output = h.output };
            chain = λ a d. link (record { from = d.below; to = l; from_at_once = d.at_once; to_at_once = h.at_once; node = subst (λ w. w < node_count S) (sym d.output) n; used = Memᴰ.cast d.output h.used });
          }

  joined : {a b c : ℕ} → Chain S a b → Chain S b c → Chain S a c
  joined (link f) d = more f d
  joined (more f e) d = more f (joined e d)

  over : {u w v : ℕ} → Reaches S u w → Reaches S w v → Reaches S u v
  over p q = record { last = q.last; drives = q.drives; chain = λ a d. joined (p.chain a d) (q.chain p.last p.drives) }

  reaches : (k u v : ℕ) → k ≤ node_count S → u < node_count S → leads_over S k u v ≡ true → Reaches S u v
  unfolding leads_over
  reaches zero u v l n t = one u v n t
  reaches (suc k) u v l n t =
      let b : k ≤ node_count S = omega (arith, l) in
      ⊎_elim (reaches k u v b n) (λ h. over (reaches k u k b n h.0) (reaches k k v b l h.1)) ((tells_via (leads_over S k) k u v).0 t)

  closed : {v : ℕ} → Reaches S v v → OnLoop S v
  closed p = record { driver = p.last; closed = p.chain p.last p.drives; output = p.drives.output }

  -- completeness
  fed : {a b : ℕ} → Feeds S a b → leads S (module_of S a).output (module_of S b).output ≡ true
  fed {a} {b} f =
      (tells_leads (module_of S a).output (module_of S b).output).1
      (b, f.to, record { at_once = f.to_at_once; output = refl; used = f.used })

  pub kept : (k u v : ℕ) → leads S u v ≡ true → leads_over S k u v ≡ true
  unfolding leads_over
  kept zero u v t = t
  kept (suc k) u v t = (tells_via (leads_over S k) k u v).1 (inl (kept k u v t))

  pub through : (k w : ℕ) → w < k → Over (leads_over S k) w
  unfolding leads_over
  through zero w l = absurd (not-suc-le-zero l)
  through (suc k) w l =
      ⊎_elim
      (λ e. subst (Over (via (leads_over S k) k)) (sym e) (over_new (leads_over S k) k))
      (λ h. over_old (leads_over S k) k w (through k w h))
      (eq-or-lt_of_le (le_of_suc-le-suc l))

  -- a chain begins at a node
  first_node : {a b : ℕ} → Chain S a b → (module_of S a).output < node_count S
  first_node (link f) = f.node
  first_node (more f d) = f.node

  found : {a b : ℕ} → Chain S a b → leads_over S (node_count S) (module_of S a).output (module_of S b).output ≡ true
  found (link f) = kept (node_count S) _ _ (fed f)
  found (more f d) = through (node_count S) _ (first_node d) _ _ (kept (node_count S) _ _ (fed f)) (found d)

  pub loop_node : {v : ℕ} → OnLoop S v → v < node_count S
  loop_node o = subst (λ u. u < node_count S) o.output (first_node o.closed)

  pub loop_test : (v : ℕ) → v < node_count S → Tells (is_on_loop S v) (OnLoop S v)
  loop_test v n = (
    λ t. closed (reaches (node_count S) v v (le_refl (node_count S)) n t),
    λ o. subst (λ (u : ℕ). leads_over S (node_count S) u u ≡ true) o.output (found o.closed),
  )
