-- Which fault comes first in a root that tells no structure.
-- The order is this project's own.
use Rattle.std.specs.Prelude.{◌≡◌, ℕ, ℤ, pos, negsuc, ◌⊎◌, nat_lt, List, [], ◌∷◌, length, codes, Option, Some, None}
use Rattle.std.specs.Prelude.{if◌then◌else◌}
use Rattle.nbt_core.specs.Value.{Nbt, field}
use Rattle.nbt_core.specs.Spelling.{Root}
use Rattle.nbt_core.specs.Breaking.{FaultOf}
use Rattle.nbt_core.specs.declared.fault.NbtFault.{NbtFault}
use Rattle.cave_base.specs.Box.{Point, is_within, is_small}
use Rattle.scan_core.specs.Judging.{first_fault, each_from, on_field, on_triple, on_compounds, on_text, on_int}
use Rattle.scan_core.specs.declared.fault.Field.{Field}
use Rattle.scan_core.specs.declared.fault.Field.TheVariants.{SizeField, PaletteField, NameField, BlocksField}
use Rattle.scan_core.specs.declared.fault.Field.TheVariants.{PosField, StateField}
use Rattle.scan_core.specs.declared.fault.ScanFault.{ScanFault}
use Rattle.scan_core.specs.declared.fault.ScanFault.TheVariants as faults

-- the size: no side is negative, and the box is small
abbrev pub side_fault : Option Point → Option ScanFault
side_fault None = Some faults.BadSize
side_fault (Some size) = if is_small size then None else Some faults.TooLarge

-- the field of the size: three Ints
abbrev pub size_fault : Option Nbt → Option ScanFault
size_fault found = on_field found (Some (faults.Missing SizeField))
    (on_triple (Some (faults.WrongType SizeField)) side_fault)

-- an entry `palettes`, of whatever type
abbrev pub palettes_fault : Option Nbt → Option ScanFault
palettes_fault found = on_field found None (λ t. Some faults.Palettes)

-- a list of compounds, and then each of them
abbrev pub list_fault : Field → (ℕ → Nbt → List (Option ScanFault)) → Option Nbt → Option ScanFault
list_fault of judge found = on_field found (Some (faults.Missing of))
    (on_compounds (Some (faults.WrongType of)) (λ ts. first_fault (each_from 0 judge ts)))

-- an entry of the palette: its name is a String
abbrev pub name_fault : ℕ → Nbt → List (Option ScanFault)
name_fault index entry = on_field (field (codes "Name") entry) (Some (faults.Missing (NameField index)))
    (on_text (Some (faults.WrongType (NameField index))) None) ∷ []

-- the palette
abbrev pub palette_fault : Option Nbt → Option ScanFault
palette_fault found = list_fault PaletteField name_fault found

-- the place of an entry of the blocks: in the box
abbrev pub place_fault : Point → ℕ → Option Point → Option ScanFault
place_fault size index None = Some (faults.BadPosition index)
place_fault size index (Some at) = if is_within size at then None else Some (faults.BadPosition index)

-- its field: three Ints
abbrev pub pos_fault : Point → ℕ → Option Nbt → Option ScanFault
pos_fault size index found = on_field found (Some (faults.Missing (PosField index)))
    (on_triple (Some (faults.WrongType (PosField index))) (place_fault size index))

-- the index of an entry of the blocks: one of `states` states
abbrev pub index_fault : ℕ → ℕ → ℤ → Option ScanFault
index_fault states index (pos n) = if nat_lt n states then None else Some (faults.BadState index)
index_fault states index (negsuc n) = Some (faults.BadState index)

-- its field: an Int
abbrev pub state_fault : ℕ → ℕ → Option Nbt → Option ScanFault
state_fault states index found = on_field found (Some (faults.Missing (StateField index)))
    (on_int (Some (faults.WrongType (StateField index))) (index_fault states index))

-- an entry of the blocks: its place, then its index
abbrev pub entry_faults : Point → ℕ → ℕ → Nbt → List (Option ScanFault)
entry_faults size states index entry = pos_fault size index (field (codes "pos") entry)
    ∷ state_fault states index (field (codes "state") entry) ∷ []

-- the blocks of a box of this size, over `states` states
abbrev pub blocks_fault : Point → ℕ → Option Nbt → Option ScanFault
blocks_fault size states found = list_fault BlocksField (entry_faults size states) found

-- the size that a root tells, where it tells one
abbrev pub told_size : Nbt → Point
told_size root = on_field (field (codes "size") root) none (on_triple none (λ found. by_default found))
  where
    none : Point
    none = record { x = 0; y = 0; z = 0 }

    by_default : Option Point → Point
    by_default None = none
    by_default (Some at) = at

-- the count of states that a root tells, where it tells them
abbrev pub told_states : Nbt → ℕ
told_states root = on_field (field (codes "palette") root) 0 (on_compounds 0 length)

-- the first fault of a root
abbrev pub fault_of : Nbt → Option ScanFault
fault_of root = first_fault (size_fault (field (codes "size") root)
    ∷ palettes_fault (field (codes "palettes") root)
    ∷ palette_fault (field (codes "palette") root)
    ∷ blocks_fault (told_size root) (told_states root) (field (codes "blocks") root)
    ∷ [])

-- the first fault of a whole input
abbrev pub IsFaultOf : List ℕ → ScanFault → Type 0
IsFaultOf bytes fault = ((inner : NbtFault) × FaultOf bytes inner × (fault ≡ faults.Nbt inner))
    ⊎ ((root : Nbt) × Root bytes root × (fault_of root ≡ Some fault))
