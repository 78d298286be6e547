-- What a structure file tells: a box, a palette of block states, and the state of each cell.
-- Source: Minecraft Wiki, "Structure file". That of two entries the last counts is this project's own.
use Rattle.std.specs.Prelude.{◌≡◌, ℕ, ℤ, pos, ◌<◌, ◌==◌, IsTrue, List, [], ◌∷◌, length, All, codes, Option, Some}
use Rattle.std.specs.Prelude.{None, IfSome, slice_index_or, if◌then◌else◌}
use Rattle.nbt_core.specs.Value.{Nbt, leaf, list, items_of, field}
use Rattle.nbt_core.specs.Value as values
use Rattle.nbt_core.specs.Spelling.{Root}
use Rattle.cave_base.specs.Box.{Point, point, cell_count, number, is_within, is_small}
use Rattle.scan_core.specs.Properties.{props_of, HasEachOnce}
use Rattle.scan_core.specs.declared.state.BlockState.{BlockState}

-- what is read: for each cell, by its number, an index into the palette, or none
pub record Structure : Type 0 where
  pub size : Point
  pub palette : List BlockState
  pub cells : List (Option ℕ)

-- the structure of these parts, the sides as the code has them
abbrev pub structure : List ℕ → List BlockState → List (Option ℕ) → Structure
structure sides palette cells = record { size = point sides; palette = palette; cells = cells }

-- an entry of `blocks`
pub record Entry : Type 0 where
  pub at : Point
  pub state : ℕ

-- a list of three Ints
abbrev pub triple : ℤ → ℤ → ℤ → Nbt
triple x y z = list (items_of (leaf (values.int x) ∷ leaf (values.int y) ∷ leaf (values.int z) ∷ []))

-- three Ints that aren't negative
abbrev pub point_value : Point → Nbt
point_value at = triple (pos at.x) (pos at.y) (pos at.z)

-- what an entry of the palette tells
pub record IsEntryState (entry : Nbt) (state : BlockState) : Type 0 where
  pub named : field (codes "Name") entry ≡ Some (leaf (values.text state.name))
  pub told : state.props ≡ props_of (field (codes "Properties") entry)

-- what an entry of the blocks tells
pub record IsEntryOf (value : Nbt) (entry : Entry) : Type 0 where
  pub placed : field (codes "pos") value ≡ Some (point_value entry.at)
  pub indexed : field (codes "state") value ≡ Some (leaf (values.int (pos entry.state)))

-- the values tell these, one by one
abbrev pub AreEach : {X : Type 0} → (Nbt → X → Type 0) → List Nbt → List X → Type 0
AreEach Is [] [] = Unit {0}
AreEach Is [] (x ∷ xs) = ⊥
AreEach Is (t ∷ ts) [] = ⊥
AreEach Is (t ∷ ts) (x ∷ xs) = Is t x × AreEach Is ts xs

-- the field is a list of values that tell these
abbrev pub IsListOf : {X : Type 0} → (Nbt → X → Type 0) → Option Nbt → List X → Type 0
IsListOf Is found xs = (ts : List Nbt) × (found ≡ Some (list (items_of ts))) × AreEach Is ts xs

-- the first number, or where there is none the second
abbrev pub or_else : Option ℕ → Option ℕ → Option ℕ
or_else (Some n) other = Some n
or_else None other = other

-- the state of the last entry at the cell
abbrev pub last_state : Point → ℕ → List Entry → Option ℕ
last_state size cell [] = None
last_state size cell (entry ∷ entries) = or_else (last_state size cell entries)
    (if number size entry.at == cell then Some entry.state else None)

-- the root tells this structure
pub record IsScanOf (root : Nbt) (scan : Structure) : Type 0 where
  pub sized : field (codes "size") root ≡ Some (point_value scan.size)
  pub small : IsTrue (is_small scan.size)
  pub single : field (codes "palettes") root ≡ None
  pub states : IsListOf IsEntryState (field (codes "palette") root) scan.palette
  pub entries : List Entry
  pub listed : IsListOf IsEntryOf (field (codes "blocks") root) entries
  pub inside : All (λ entry. IsTrue (is_within scan.size entry.at)) entries
  pub known : All (λ entry. entry.state < length scan.palette) entries
  pub whole : length scan.cells ≡ cell_count scan.size
  pub last : (cell : ℕ) → cell < cell_count scan.size
      → slice_index_or scan.cells cell None ≡ last_state scan.size cell entries

-- the bytes begin with a root that tells this structure
abbrev pub Scans : List ℕ → Structure → Type 0
Scans bytes scan = (root : Nbt) × Root bytes root × IsScanOf root scan

-- what every scan keeps: a small box, a state or none for each of its cells, each index below the palette's
-- length, each property once
pub record IsWholeScan (scan : Structure) : Type 0 where
  pub small : IsTrue (is_small scan.size)
  pub whole : length scan.cells ≡ cell_count scan.size
  pub known : All (λ cell. IfSome cell (λ index. index < length scan.palette)) scan.cells
  pub once : All (λ state. HasEachOnce state.props) scan.palette
