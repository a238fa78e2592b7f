-- Where each section's rows stand in the whole table. Assumes nothing.
use mathlib.Core.Bool.{Bool, true}
use mathlib.Core.List.Memᴰ
use mathlib.Core.List.{List, ◌++◌, Memᴰ}
use mathlib.Core.Path.{◌≡◌, sym, subst}
use Prim.Native.Nat.{ℕ, ◌<◌}
use Rattle.sheet.specs.Enumerate.{each}
use Rattle.sheet.specs.declared.Edition.{Edition}
use Rattle.sheet.specs.Limits.{least_nodes, most_nodes, most_modules, most_events, most_watched}
use Rattle.sheet.specs.Sheet.{node_count}
use Rattle.sheet.specs.Layout.{nodes_counted, modules_place, modules_counted, drive_place, events_counted, watched_place, watched_counted, sheet_of}
use Rattle.sheet.specs.Refusal.{Row, count_rows, node_rows, module_rows, start_rows, event_rows, first_event_rows, first_events_section, watched_rows, left_over_rows, loop_rows, loops_section, nodes_section, modules_section, drive_section, watched_section, bytes_rows, rows}
use Rattle.format.specs.Condition.{Count, of_nodes, of_modules, of_drive, of_watched}
use Rattle.sheet.proofs.Each.{each-mem}

-- the rows of all nodes, and the table up to those after the modules and after the drive
abbrev starts : Edition → List ℕ → List Row
starts E s = each (nodes_counted s) (start_rows E s)

abbrev to_starts : Edition → List ℕ → List Row
to_starts E s = nodes_section s ++ modules_section E s ++ starts E s

abbrev to_first_events : Bool → Edition → List ℕ → List Row
to_first_events strict E s = to_starts E s ++ drive_section E s ++ first_events_section strict E s

module _ (strict : Bool) (E : Edition) (s : List ℕ) {r : Row} where
  within_first_events : Memᴰ r (to_first_events strict E s) → Memᴰ r (bytes_rows strict E s)
  unfolding bytes_rows
  within_first_events m = Memᴰ.append_left (left_over_rows E s) (Memᴰ.append_left (watched_section E s) m)

  within_starts : Memᴰ r (to_starts E s) → Memᴰ r (bytes_rows strict E s)
  within_starts m = within_first_events (Memᴰ.append_left (first_events_section strict E s) (Memᴰ.append_left (drive_section E s) m))

  in_nodes : Memᴰ r (nodes_section s) → Memᴰ r (bytes_rows strict E s)
  in_nodes m = within_starts (Memᴰ.append_left (starts E s) (Memᴰ.append_left (modules_section E s) m))

  in_modules : Memᴰ r (modules_section E s) → Memᴰ r (bytes_rows strict E s)
  in_modules m = within_starts (Memᴰ.append_left (starts E s) (Memᴰ.append_right (nodes_section s) m))

  in_drive : Memᴰ r (drive_section E s) → Memᴰ r (bytes_rows strict E s)
  in_drive m = within_first_events (Memᴰ.append_left (first_events_section strict E s) (Memᴰ.append_right (to_starts E s) m))

  in_watched : Memᴰ r (watched_section E s) → Memᴰ r (bytes_rows strict E s)
  unfolding bytes_rows
  in_watched m = Memᴰ.append_left (left_over_rows E s) (Memᴰ.append_right (to_first_events strict E s) m)

  -- each count and each record
  pub in_count : {p least greatest : ℕ} → Count E s p least greatest → Memᴰ r (count_rows s p least greatest) → Memᴰ r (bytes_rows strict E s)
  in_count of_nodes m = in_nodes (Memᴰ.append_left (each (nodes_counted s) (node_rows s)) m)
  in_count of_modules m = in_modules (Memᴰ.append_left (each (modules_counted s) (module_rows E s)) m)
  in_count of_drive m = in_drive (Memᴰ.append_left (each (events_counted E s) (event_rows E s)) m)
  in_count of_watched m = in_watched (Memᴰ.append_left (each (watched_counted E s) (watched_rows E s)) m)

  pub in_node : (v : ℕ) → v < nodes_counted s → Memᴰ r (node_rows s v) → Memᴰ r (bytes_rows strict E s)
  in_node v h m = in_nodes (Memᴰ.append_right (count_rows s 0 least_nodes most_nodes) ((each-mem (nodes_counted s) (node_rows s)).1 (v, h, m)))

  pub in_module : (m : ℕ) → m < modules_counted s → Memᴰ r (module_rows E s m) → Memᴰ r (bytes_rows strict E s)
  in_module i h m = in_modules (Memᴰ.append_right (count_rows s (modules_place s) 0 most_modules) ((each-mem (modules_counted s) (module_rows E s)).1 (i, h, m)))

  pub in_event : (k : ℕ) → k < events_counted E s → Memᴰ r (event_rows E s k) → Memᴰ r (bytes_rows strict E s)
  in_event e h m = in_drive (Memᴰ.append_right (count_rows s (drive_place E s) 0 most_events) ((each-mem (events_counted E s) (event_rows E s)).1 (e, h, m)))

  pub in_watched_node : (k : ℕ) → k < watched_counted E s → Memᴰ r (watched_rows E s k) → Memᴰ r (bytes_rows strict E s)
  in_watched_node k h m = in_watched (Memᴰ.append_right (count_rows s (watched_place E s) 0 most_watched) ((each-mem (watched_counted E s) (watched_rows E s)).1 (k, h, m)))

  -- what stands after a section
  pub in_start : (v : ℕ) → v < nodes_counted s → Memᴰ r (start_rows E s v) → Memᴰ r (bytes_rows strict E s)
  in_start v h m = within_starts (Memᴰ.append_right (nodes_section s ++ modules_section E s) ((each-mem (nodes_counted s) (start_rows E s)).1 (v, h, m)))

  pub in_first_event : strict ≡ true → (v : ℕ) → v < nodes_counted s → Memᴰ r (first_event_rows E s v) → Memᴰ r (bytes_rows strict E s)
  in_first_event is v h m =
      within_first_events (Memᴰ.append_right (to_starts E s ++ drive_section E s) (subst (λ b. Memᴰ r (first_events_section b E s)) (sym is) ((each-mem (nodes_counted s) (first_event_rows E s)).1 (v, h, m))))

  pub in_left_over : Memᴰ r (left_over_rows E s) → Memᴰ r (bytes_rows strict E s)
  unfolding bytes_rows
  in_left_over m = Memᴰ.append_right (to_first_events strict E s ++ watched_section E s) m

  -- the bytes' rows, and then the loops'
  pub in_bytes : Memᴰ r (bytes_rows strict E s) → Memᴰ r (rows strict E s)
  unfolding rows
  in_bytes m = Memᴰ.append_left (loops_section (sheet_of E s)) m

  pub in_loop : (v : ℕ) → v < node_count (sheet_of E s) → Memᴰ r (loop_rows (sheet_of E s) v) → Memᴰ r (rows strict E s)
  unfolding rows
  in_loop v h m = Memᴰ.append_right (bytes_rows strict E s) ((each-mem (node_count (sheet_of E s)) (loop_rows (sheet_of E s))).1 (v, h, m))
