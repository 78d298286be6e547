-- What the blocks tell of each cell.
use Rattle.std.specs.Prelude.{◌≡◌, ℕ, pos, ◌<◌, IsTrue, List, length, All, Option, Some, None, slice_index_or}
use Rattle.nbt_core.specs.Value.{Nbt, leaf, list, items_of}
use Rattle.nbt_core.specs.Value as values
use Rattle.cave_base.specs.Box.{Point, cell_count, number, is_within}
use Rattle.scan_core.specs.Scan.{Entry, point_value, last_state, IsEntryOf, AreEach}

-- a place that was found, which lies in the box
pub record IsPointOf (found : Option Nbt) (size at : Point) : Type 0 where
  pub placed : found ≡ Some (point_value at)
  pub inside : IsTrue (is_within size at)

-- an index that was found, which is one of `states` states
pub record IsIndexOf (found : Option Nbt) (states index : ℕ) : Type 0 where
  pub indexed : found ≡ Some (leaf (values.int (pos index)))
  pub known : index < states

-- the number and the index of an entry whose place lies in the box and whose state is known
pub record IsPlaced (value : Nbt) (size : Point) (states cell index : ℕ) : Type 0 where
  pub entry : Entry
  pub told : IsEntryOf value entry
  pub inside : IsTrue (is_within size entry.at)
  pub known : entry.state < states
  pub numbered : cell ≡ number size entry.at
  pub indexed : index ≡ entry.state

-- each cell shows the last of these entries at it
pub record ShowEntries (ts : List Nbt) (size : Point) (states : ℕ) (cells : List (Option ℕ)) : Type 0 where
  pub entries : List Entry
  pub each : AreEach IsEntryOf ts entries
  pub inside : All (λ entry. IsTrue (is_within size entry.at)) entries
  pub known : All (λ entry. entry.state < states) entries
  pub whole : length cells ≡ cell_count size
  pub last : (cell : ℕ) → cell < cell_count size → slice_index_or cells cell None ≡ last_state size cell entries

-- blocks that were found, whose entries the cells show
pub record AreCellsOf (found : Option Nbt) (size : Point) (states : ℕ) (cells : List (Option ℕ)) : Type 0 where
  pub values : List Nbt
  pub listed : found ≡ Some (list (items_of values))
  pub shown : ShowEntries values size states cells
