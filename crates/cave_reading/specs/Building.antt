-- What the steps of building a cave leave for the next one.
use Rattle.std.specs.Prelude.{◌≡◌, ◌↔◌, ℕ, ◌<◌, Bool, false, IsTrue, List, length, All, Contains, slice_index_or}
use Rattle.std.specs.Prelude.{Option, Some, None}
use Rattle.scan_core.specs.declared.state.BlockState.{BlockState}
use Rattle.cave_base.specs.declared.class.Class.{Class}
use Rattle.cave_base.specs.Class.{IsSoundClass, void}
use Rattle.block_rows.specs.Rows.{Table}
use Rattle.cave_reading.specs.World.{IsClassOf}

-- which of `states` block states the cells name
pub record AreUsed (cells : List (Option ℕ)) (states : ℕ) (used : List Bool) : Type 0 where
  pub whole : length used ≡ states
  pub exact : (index : ℕ) → IsTrue (slice_index_or used index false) ↔ Contains cells (Some index)

-- the classes of the first `states` block states, as far as the cells name them
pub record AreClassesOf (cells : List (Option ℕ)) (palette : List BlockState) (rows : Table) (states : ℕ)
    (classes : List Class) : Type 0 where
  pub whole : length classes ≡ states
  pub sound : All IsSoundClass classes
  pub classed : (index : ℕ) → index < states → Contains cells (Some index)
      → IsClassOf rows palette (Some index) (slice_index_or classes index void)

-- the class of a cell by those of the block states
abbrev pub class_by : List Class → Option ℕ → Class
class_by classes None = void
class_by classes (Some index) = slice_index_or classes index void
