-- Why a cave can't be read, from why its parts can't.
use Rattle.std.proofs.Common.{◌≡◌, ◌≢◌, ℕ, List, Option, refl, sym, ap, subst, ◌∙◌, ◌⊎◌, inl, inr}
use Rattle.scan_core.specs.Scan.{Structure, Scans}
use Rattle.scan_core.specs.Faults.{IsFaultOf}
use Rattle.scan_core.specs.declared.fault.ScanFault.{ScanFault}
use Rattle.scan_core.specs.declared.fault.ScanFault.TheVariants as scanning
use Rattle.block_rows.specs.Rows.{Table}
use Rattle.block_rows.specs.declared.fault.RowsFault.{RowsFault}
use Rattle.block_rows.specs.declared.fault.RowsFault.TheVariants as tabling
use Rattle.cave_model.specs.Rule.{Rule}
use Rattle.cave_model.specs.Cave.{Cave}
use Rattle.cave_reading.specs.Bytes.{IsCaveOfBytes, IsFaultOfBytes, IsFaultOfParts, IsNoStructure, IsNoTable}
use Rattle.cave_reading.specs.Bytes.{IsTableFor, IsTableFault}
use Rattle.cave_reading.specs.Merging.{of_scan, of_rows, of_build}
use Rattle.cave_reading.specs.World.{IsCaveOf, IsUnknownBlock}
use Rattle.cave_reading.specs.declared.fault.BuildFault.{BuildFault}
use Rattle.cave_reading.specs.declared.fault.BuildFault.TheVariants as building
use Rattle.cave_reading.specs.declared.cave_fault.CaveFault.{CaveFault}
use Rattle.cave_reading.specs.declared.cave_fault.CaveFault.TheVariants as faults

module _ (bytes : List ℕ) (table : Option (List ℕ)) where
  refused_scan : (e : ScanFault) → e ≢ scanning.OutOfMemory → (e ≢ scanning.OutOfMemory → IsFaultOf bytes e)
      → IsNoStructure bytes (faults.Scan e)
  refused_scan e other told = (e, told other, refl)

  -- the structure is refused, and memory isn't
  pub no_structure : (e : ScanFault) → (e ≢ scanning.OutOfMemory → IsFaultOf bytes e)
      → of_scan e ≢ faults.OutOfMemory → IsNoStructure bytes (of_scan e)
  no_structure scanning.OutOfMemory told other = absurd (other refl)
  no_structure e told other = refused_scan e (λ same. cc) told

  refused_rows : (e : RowsFault) → e ≢ tabling.OutOfMemory → (e ≢ tabling.OutOfMemory → IsTableFault table e)
      → IsNoTable table (faults.Table e)
  refused_rows e other told = (e, told other, refl)

  -- the table is refused, and memory isn't
  pub no_table : (e : RowsFault) → (e ≢ tabling.OutOfMemory → IsTableFault table e)
      → of_rows e ≢ faults.OutOfMemory → IsNoTable table (of_rows e)
  no_table tabling.OutOfMemory told other = absurd (other refl)
  no_table e told other = refused_rows e (λ same. cc) told

  -- a fault of the two parts is one of the bytes
  pub part_fault : (due : CaveFault) → IsFaultOfParts bytes table due → IsFaultOfBytes bytes table due
  part_fault due (inl f) = inl f
  part_fault due (inr (scan, scans, t)) = inr (scan, scans, inl t)

  -- where the parts are refused, a fault that is due is answered, or memory was refused
  pub parts_refused : (e : CaveFault)
      → ((s : Structure) → (rows : Table) → Scans bytes s → IsTableFor table rows → e ≡ faults.OutOfMemory)
      → ((f : CaveFault) → IsFaultOfParts bytes table f → (e ≡ f) ⊎ (e ≡ faults.OutOfMemory))
      → (due : CaveFault) → IsFaultOfBytes bytes table due → (e ≡ due) ⊎ (e ≡ faults.OutOfMemory)
  parts_refused e only refused due (inl f) = refused due (inl f)
  parts_refused e only refused due (inr (scan, scans, inl t)) = refused due (inr (scan, scans, t))
  parts_refused e only refused due (inr (scan, scans, inr u)) = inr (only scan u.0 scans u.1)

  -- where both parts are read, neither has a fault
  pub parts_clean : ((f : ScanFault) → IsFaultOf bytes f → ⊥) → ((f : RowsFault) → IsTableFault table f → ⊥)
      → (due : CaveFault) → IsFaultOfParts bytes table due → ⊥
  parts_clean clean clean_table due (inl f) = clean f.0 f.1
  parts_clean clean clean_table due (inr (scan, scans, t)) = clean_table t.0 t.1

  build_of_bytes : (scan : Structure) (rows : Table) (e : BuildFault) → Scans bytes scan → IsTableFor table rows
      → e ≢ building.OutOfMemory → (e ≢ building.OutOfMemory → IsUnknownBlock scan rows e)
      → IsFaultOfBytes bytes table (faults.Build e)
  build_of_bytes scan rows e scans tells other told = inr (scan, scans, inr (rows, tells, (e, told other, refl)))

  -- and an unknown block
  pub build_fault : (scan : Structure) (rows : Table) (e : BuildFault) → Scans bytes scan → IsTableFor table rows
      → (e ≢ building.OutOfMemory → IsUnknownBlock scan rows e) → of_build e ≢ faults.OutOfMemory
      → IsFaultOfBytes bytes table (of_build e)
  build_fault scan rows building.OutOfMemory scans tells told other = absurd (other refl)
  build_fault scan rows e scans tells told other = build_of_bytes scan rows e scans tells (λ same. cc) told

  same_scan : (e inner : ScanFault) (due : CaveFault) → due ≡ faults.Scan inner
      → (e ≡ inner) ⊎ (e ≡ scanning.OutOfMemory) → (of_scan e ≡ due) ⊎ (of_scan e ≡ faults.OutOfMemory)
  same_scan e inner due is (inr none) = inr (ap of_scan none)
  same_scan scanning.OutOfMemory inner due is (inl same) = inr refl
  same_scan e inner due is (inl same) = inl (ap faults.Scan same ∙ sym is)

  -- where the structure is refused, a fault that is due is answered, or want of memory
  pub scan_refused : (e : ScanFault) → ((s : Structure) → Scans bytes s → e ≡ scanning.OutOfMemory)
      → ((f : ScanFault) → IsFaultOf bytes f → (e ≡ f) ⊎ (e ≡ scanning.OutOfMemory))
      → (due : CaveFault) → IsFaultOfParts bytes table due → (of_scan e ≡ due) ⊎ (of_scan e ≡ faults.OutOfMemory)
  scan_refused e only refused due (inl f) = same_scan e f.0 due f.2 (refused f.0 f.1)
  scan_refused e only refused due (inr t) = inr (ap of_scan (only t.0 t.1))

  same_rows : (e inner : RowsFault) (due : CaveFault) → due ≡ faults.Table inner
      → (e ≡ inner) ⊎ (e ≡ tabling.OutOfMemory) → (of_rows e ≡ due) ⊎ (of_rows e ≡ faults.OutOfMemory)
  same_rows e inner due is (inr none) = inr (ap of_rows none)
  same_rows tabling.OutOfMemory inner due is (inl same) = inr refl
  same_rows e inner due is (inl same) = inl (ap faults.Table same ∙ sym is)

  -- where the table is refused, likewise
  pub rows_refused : (e : RowsFault) → ((f : ScanFault) → IsFaultOf bytes f → ⊥)
      → ((f : RowsFault) → IsTableFault table f → (e ≡ f) ⊎ (e ≡ tabling.OutOfMemory))
      → (due : CaveFault) → IsFaultOfParts bytes table due → (of_rows e ≡ due) ⊎ (of_rows e ≡ faults.OutOfMemory)
  rows_refused e clean refused due (inl f) = absurd (clean f.0 f.1)
  rows_refused e clean refused due (inr (scan, scans, t)) = same_rows e t.0 due t.2 (refused t.0 t.1)

  same_build : (e inner : BuildFault) (due : CaveFault) → due ≡ faults.Build inner
      → (e ≡ inner) ⊎ (e ≡ building.OutOfMemory) → (of_build e ≡ due) ⊎ (of_build e ≡ faults.OutOfMemory)
  same_build e inner due is (inr none) = inr (ap of_build none)
  same_build building.OutOfMemory inner due is (inl same) = inr refl
  same_build e inner due is (inl same) = inl (ap faults.Build same ∙ sym is)

  -- a structure and a table at hand that are those of the bytes
  module _ (scan : Structure) (rows : Table)
      (only : (s : Structure) → (t : Table) → Scans bytes s → IsTableFor table t → (scan ≡ s) × (rows ≡ t)) where
    -- what is unknown in a structure and a table of these bytes is unknown in those at hand
    known_in : (s : Structure) (t : Table) (f : BuildFault) → Scans bytes s → IsTableFor table t → IsUnknownBlock s t f
        → IsUnknownBlock scan rows f
    known_in s t f scans tells unknown = let same = only s t scans tells in
        subst (λ (x : Structure). IsUnknownBlock x rows f) (sym same.0)
        (subst (λ (x : Table). IsUnknownBlock s x f) (sym same.1) unknown)

    -- where the cave can't be built, likewise
    pub build_refused : ((f : CaveFault) → IsFaultOfParts bytes table f → ⊥) → (e : BuildFault)
        → ((f : BuildFault) → IsUnknownBlock scan rows f → (e ≡ f) ⊎ (e ≡ building.OutOfMemory))
        → (due : CaveFault) → IsFaultOfBytes bytes table due → (of_build e ≡ due) ⊎ (of_build e ≡ faults.OutOfMemory)
    build_refused clean e refused due (inl f) = absurd (clean due (inl f))
    build_refused clean e refused due (inr (s, scans, inl t)) = absurd (clean due (inr (s, scans, t)))
    build_refused clean e refused due (inr (s, scans, inr u)) =
        same_build e u.2.0 due u.2.2 (refused u.2.0 (known_in s u.0 u.2.0 scans u.1 u.2.1))

    -- where the cave is built, no fault is due
    pub built_clean : ((f : CaveFault) → IsFaultOfParts bytes table f → ⊥)
        → ((f : BuildFault) → IsUnknownBlock scan rows f → ⊥) → (due : CaveFault) → IsFaultOfBytes bytes table due → ⊥
    built_clean clean known due (inl f) = clean due (inl f)
    built_clean clean known due (inr (s, scans, inl t)) = clean due (inr (s, scans, t))
    built_clean clean known due (inr (s, scans, inr u)) = known u.2.0 (known_in s u.0 u.2.0 scans u.1 u.2.1)

    -- the cave of these bytes is that of the structure and the table
    pub cave_at_hand : (rule : Rule) (cave : Cave) → IsCaveOfBytes bytes table rule cave → IsCaveOf scan rows rule cave
    cave_at_hand rule cave is = let same = only is.scan is.rows is.scans is.told in
        subst (λ (s : Structure). IsCaveOf s rows rule cave) (sym same.0)
        (subst (λ (t : Table). IsCaveOf is.scan t rule cave) (sym same.1) is.built)
