-- Levels before light spreads. This is this project's own.
use Rattle.std.specs.Prelude.{◌≡◌, ℕ, ◌<◌, ◌≤◌, ◌↔◌, List, length, Contains, slice_index}
use Rattle.cave_base.specs.Box.{cell_count}
use Rattle.cave_model.specs.Cave.{Cave, class_at}
use Rattle.cave_model.specs.Plan.{AreDistinct}
use Rattle.lit_lists.specs.Relaxing.{Queues}

-- each cell has its emission, no level is above 15, and the queue has each cell with light, all of the box
pub record AreSeeded (cave : Cave) (levels queue : List ℕ) : Type 0 where
  pub each : (cell : ℕ) → cell < cell_count cave.size → slice_index levels cell ≡ (class_at cave cell).emission
  pub queued : Queues cave (slice_index levels) queue
  pub low : (cell : ℕ) → slice_index levels cell ≤ 15

-- no cell has light
pub record AreUnlit (levels : List ℕ) : Type 0 where
  pub each : (cell : ℕ) → slice_index levels cell ≡ 0

-- a level for each cell of the cave, all without light
pub record IsScratch (cave : Cave) (levels : List ℕ) : Type 0 where
  pub whole : length levels ≡ cell_count cave.size
  pub unlit : AreUnlit levels

-- the cells of the queue with light, each once
pub record AreTaken (levels queue cells : List ℕ) : Type 0 where
  pub once : AreDistinct cells
  pub exact : (cell : ℕ) → Contains cells cell ↔ (Contains queue cell × (0 < slice_index levels cell))

-- the cells of the queue have no light, and the others have theirs
pub record ArePutOut (old queue new : List ℕ) : Type 0 where
  pub out : (cell : ℕ) → Contains queue cell → slice_index new cell ≡ 0
  pub others : (cell : ℕ) → (¬ Contains queue cell) → slice_index new cell ≡ slice_index old cell
