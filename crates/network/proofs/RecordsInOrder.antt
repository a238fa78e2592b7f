-- The records that the run is handed: the sheet's, each once, in an order that is valid. Assumes nothing.
use lib.ListN.{get_or, take}
use lib.Seq.{get_or-take}
use mathlib.Core.List.{List, Memᴰ}
use mathlib.Core.Path.{◌≡◌, sym, ap, ◌∙◌, subst₂}
use Prim.Native.Nat.{ℕ, ◌<◌}
use Rattle.sheet.specs.Enumerate.{each}
use Rattle.sheet.specs.Sheet.{module_count, module_of, no_module, Sheet}
use Rattle.sheet.specs.Wiring.{used_inputs}
use Rattle.sheet.specs.WorkingOrder.{working_order, in_working_order}
use Rattle.sheet.specs.declared.Module.{Module}
use Rattle.format.specs.Accepted.{Accepted}
use Rattle.network.specs.Order.{record_at, RecordsInOrder}
use Rattle.sheet.proofs.Listed.{get_or-map_within}
use Rattle.network.proofs.Ordered.{ordered}
use Rattle.network.proofs.WorkingOrder.{every_module_once, working_order_lem}

module _ (S : Sheet) (records : List Module) (ordered : take (module_count S) records ≡ in_working_order S) where
  -- the record at a position of the working order
  pub record_there : (k : ℕ) → k < module_count S → record_at records k ≡ module_of S (get_or (working_order S) k 0)
  record_there k h =
      sym (get_or-take (module_count S) records k no_module h)
      ∙ ap (λ (l : List Module). get_or l k no_module) ordered
      ∙ get_or-map_within (module_of S) (working_order S) k 0 no_module (rw (every_module_once S).count h)

  pub records_in_order : Accepted S → RecordsInOrder S (working_order S) records
  records_in_order acc =
      record {
        valid = working_order_lem S acc;
        each = record_there;
        after = λ j k l h. subst₂ (λ (x y : Module). y.delay ≡ 0 → Memᴰ x.output (used_inputs y) → j < k) (sym (record_there j l)) (sym (record_there k h)) ((working_order_lem S acc).after j k l h);
      }
