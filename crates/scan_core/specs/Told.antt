-- What single values tell, and a size and a palette that were found.
use Rattle.std.specs.Prelude.{◌≡◌, ◌≢◌, ℤ, pos, true, false, IsTrue, List, Option, Some, None, slice_index_or}
use Rattle.nbt_core.specs.Value.{Nbt, list, items_of}
use Rattle.nbt_views.specs.Parts.{are_compounds}
use Rattle.cave_base.specs.Box.{Point, is_small}
use Rattle.scan_core.specs.Scan.{triple, point_value, IsEntryState, IsListOf}
use Rattle.scan_core.specs.Judging.{point_of}
use Rattle.scan_core.specs.declared.state.BlockState.{BlockState}

-- three Ints, as the code has them
abbrev pub triple_value : List ℤ → Nbt
triple_value ns = triple (slice_index_or ns 0 (pos 0)) (slice_index_or ns 1 (pos 0)) (slice_index_or ns 2 (pos 0))

-- three numbers as coordinates, where none is negative
abbrev pub point_of_list : List ℤ → Option Point
point_of_list ns = point_of (slice_index_or ns 0 (pos 0)) (slice_index_or ns 1 (pos 0)) (slice_index_or ns 2 (pos 0))

-- what a value of this shape holds, or none where it has another shape
abbrev pub IsReadAs : {X : Type 0} → (X → Nbt) → Nbt → Option X → Type 0
IsReadAs shape t (Some x) = t ≡ shape x
IsReadAs {X} shape t None = (x : X) → t ≢ shape x

-- the values of a list of compounds, or none where it is something else
abbrev pub AreCompoundsOf : Nbt → Option (List Nbt) → Type 0
AreCompoundsOf t (Some ts) = (t ≡ list (items_of ts)) × (are_compounds ts ≡ true)
AreCompoundsOf t None = (ts : List Nbt) → t ≡ list (items_of ts) → are_compounds ts ≡ false

-- a size that was found, which is small
pub record IsSizeOf (found : Option Nbt) (size : Point) : Type 0 where
  pub sized : found ≡ Some (point_value size)
  pub small : IsTrue (is_small size)

-- a palette that was found
abbrev pub IsPaletteOf : Option Nbt → List BlockState → Type 0
IsPaletteOf found palette = IsListOf IsEntryState found palette
