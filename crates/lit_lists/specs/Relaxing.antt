-- Light by rounds of relaxation: in each, the cells that the round before raised pass their light on.
-- That it is found so is this project's own.
use Rattle.std.specs.Prelude.{◌≡◌, ℕ, ◌+◌, ◌-◌, ◌<◌, ◌≤◌, ◌⊎◌, ◌↔◌, List, ◌++◌, length, Contains, slice_index}
use Rattle.cave_base.specs.Box.{cell_count}
use Rattle.cave_model.specs.Cells.{AreNeighbours}
use Rattle.cave_model.specs.Cave.{Cave}
use Rattle.cave_model.specs.Light.{BringsFrom, IsLevelOf, entering_cost}
use Rattle.cave_model.specs.Passages.{LeadsTo}

-- the levels of the cave's cells
pub record AreLevelsOf (cave : Cave) (levels : List ℕ) : Type 0 where
  pub whole : length levels ≡ cell_count cave.size
  pub each : (cell : ℕ) → cell < cell_count cave.size → IsLevelOf cave cell (slice_index levels cell)

-- no level is above the highest
pub record AreLow (levels : ℕ → ℕ) : Type 0 where
  pub each : (cell : ℕ) → levels cell ≤ 15

-- these are the neighbours of the cell that light can enter
pub record AreWaysFrom (cave : Cave) (cell : ℕ) (around : List ℕ) : Type 0 where
  pub exact : (to : ℕ) → Contains around to ↔ LeadsTo cave cell to

-- the light of the cell can't raise that of this neighbour
abbrev pub IsPassed : Cave → (ℕ → ℕ) → ℕ → ℕ → Type 0
IsPassed cave levels before cell = levels before ≤ levels cell + entering_cost cave cell

-- the cell has passed its light on to all its neighbours
pub record HasPassed (cave : Cave) (levels : ℕ → ℕ) (before : ℕ) : Type 0 where
  pub each : (cell : ℕ) → AreNeighbours cave.size before cell → IsPassed cave levels before cell

-- each level is brought by a path from a level that was there
abbrev pub Spreads : Cave → (ℕ → ℕ) → (ℕ → ℕ) → Type 0
Spreads cave old new = (cell : ℕ) → cell < cell_count cave.size → 0 < new cell
    → (source : ℕ) × BringsFrom cave source (old source) cell (new cell)

-- levels only rise; each cell that is raised joins the queue, at a level below this one
pub record Grows (cave : Cave) (level : ℕ) (old : ℕ → ℕ) (queue : List ℕ) (new : ℕ → ℕ) (next : List ℕ) : Type 0 where
  pub more : List ℕ
  pub parts : next ≡ queue ++ more
  pub up : (cell : ℕ) → old cell ≤ new cell
  pub spreads : Spreads cave old new
  pub changed : (cell : ℕ) → (new cell ≡ old cell) ⊎ Contains more cell
  pub raised : (cell : ℕ) → Contains more cell → (cell < cell_count cave.size) × (new cell < level)

-- the cell passes its light on, and what it raises stays below its own level
pub record PassesOn (cave : Cave) (from : ℕ) (old : ℕ → ℕ) (queue : List ℕ) (new : ℕ → ℕ) (next : List ℕ) : Type 0 where
  pub grows : Grows cave (old from) old queue new next
  pub passed : HasPassed cave new from

-- the index is none past the end of the queue, which has cells of the box alone
pub record Queued (cave : Cave) (index : ℕ) (queue : List ℕ) : Type 0 where
  pub within : index ≤ length queue
  pub inside : (cell : ℕ) → Contains queue cell → cell < cell_count cave.size

-- levels of at most 15, and a queue in which a round begins at this index
pub record IsBegun (cave : Cave) (levels : ℕ → ℕ) (queue : List ℕ) (index : ℕ) : Type 0 where
  pub low : AreLow levels
  pub queued : Queued cave index queue

-- the queue has each cell with light, and cells of the box alone
pub record Queues (cave : Cave) (levels : ℕ → ℕ) (queue : List ℕ) : Type 0 where
  pub lit : (cell : ℕ) → 0 < levels cell → Contains queue cell
  pub inside : (cell : ℕ) → Contains queue cell → cell < cell_count cave.size

-- levels of at most 15, and a queue of cells of the box that has each with light
pub record IsSeeded (cave : Cave) (levels : ℕ → ℕ) (queue : List ℕ) : Type 0 where
  pub low : (cell : ℕ) → levels cell ≤ 15
  pub queued : Queues cave levels queue

-- `done` cells of the queue are done; those from there on are at most at `level`, and those from `end` on below it
pub record Relaxing (cave : Cave) (start levels : ℕ → ℕ) (queue : List ℕ) (done end level : ℕ) : Type 0 where
  pub up : (cell : ℕ) → start cell ≤ levels cell
  pub spreads : Spreads cave start levels
  pub queued : Queues cave levels queue
  pub waits : (before cell : ℕ) → AreNeighbours cave.size before cell → IsPassed cave levels before cell
      ⊎ ((index : ℕ) × (done ≤ index) × (index < length queue) × (slice_index queue index ≡ before))
  pub low : (index : ℕ) → done ≤ index → index < length queue → levels (slice_index queue index) ≤ level
  pub fresh : (index : ℕ) → end ≤ index → index < length queue → levels (slice_index queue index) < level

-- a round takes a relaxation on, whatever it began with
pub record Relaxes (cave : Cave) (old : ℕ → ℕ) (queue : List ℕ) (begin : ℕ) (new : ℕ
    → ℕ) (next : List ℕ) (end : ℕ) : Type 0 where
  pub each : (start : ℕ → ℕ) (level : ℕ) → Relaxing cave start old queue begin (length queue) level
      → Relaxing cave start new next end (length next) (level - 1)

-- no cell can raise a neighbour, and each level is brought from one of the start
pub record IsSettled (cave : Cave) (start levels : ℕ → ℕ) (queue : List ℕ) : Type 0 where
  pub brought_there : Spreads cave start levels
  pub covered : (cell : ℕ) → start cell ≤ levels cell
  pub settled : (before cell : ℕ) → AreNeighbours cave.size before cell → IsPassed cave levels before cell
  pub queued : Queues cave levels queue
