-- How a flood goes on: levels only rise, each is brought from one that was there, and what can still rise waits.
-- This is the project's own.
use Rattle.std.specs.Prelude.{◌≡◌, ◌≢◌, ◌⊎◌, ℕ, ◌+◌, ◌<◌, ◌≤◌, List, [], length, Contains, slice_index, slice_index_or}
use Rattle.cave_base.specs.Box.{cell_count}
use Rattle.cave_model.specs.Cells.{AreNeighbours}
use Rattle.cave_model.specs.Cave.{Cave, class_at}
use Rattle.cave_model.specs.Light.{BringsFrom, entering_cost}

-- one cell has another level, and all others have theirs
pub record IsRaised (old : ℕ → ℕ) (cell level : ℕ) (new : ℕ → ℕ) : Type 0 where
  pub raised : new cell ≡ level
  pub others : (other : ℕ) → other ≢ cell → new other ≡ old other

-- no level falls, and what comes up stays below this level
pub record Rises (level : ℕ) (old new : ℕ → ℕ) : Type 0 where
  pub up : (cell : ℕ) → old cell ≤ new cell
  pub below : (cell : ℕ) → level ≤ new cell → new cell ≡ old cell

-- each level was there, or is brought by a path from one that was
abbrev pub Spreads : Cave → (ℕ → ℕ) → (ℕ → ℕ) → Type 0
Spreads cave old new = (cell : ℕ) → (new cell ≡ old cell)
    ⊎ ((source : ℕ) × BringsFrom cave source (old source) cell (new cell))

-- the cells that wait at a level
abbrev pub waiting_at : List (List ℕ) → ℕ → List ℕ
waiting_at waiting level = slice_index_or waiting level []

-- these cells wait at the level now, and at other levels those that did
pub record IsWaiting (old : List (List ℕ)) (level : ℕ) (cells : List ℕ) (new : List (List ℕ)) : Type 0 where
  pub here : waiting_at new level ≡ cells
  pub others : (other : ℕ) → other ≢ level → waiting_at new other ≡ waiting_at old other

-- the light of the cell can't raise that of this neighbour
abbrev pub IsPassed : Cave → (ℕ → ℕ) → ℕ → ℕ → Type 0
IsPassed cave levels before cell = levels before ≤ levels cell + entering_cost cave cell

-- cells at `passed` or above have passed their light on, and cells below `waits` wait at their level
pub record IsFlood (cave : Cave) (passed waits : ℕ) (levels : ℕ → ℕ) (waiting : List (List ℕ)) : Type 0 where
  pub low : (cell : ℕ) → levels cell ≤ 15
  pub passed_on : (before cell : ℕ) → AreNeighbours cave.size before cell → passed ≤ levels before
      → IsPassed cave levels before cell
  pub awaited : (cell : ℕ) → cell < cell_count cave.size → 0 < levels cell → levels cell < waits
      → Contains (waiting_at waiting (levels cell)) cell
  pub inside : (level cell : ℕ) → Contains (waiting_at waiting level) cell → cell < cell_count cave.size

-- a flood in a store of `cells` cells, one for each of the box
pub record IsFloodIn (cave : Cave) (passed waits cells : ℕ) (levels : ℕ → ℕ) (waiting : List (List ℕ)) : Type 0 where
  pub whole : cells ≡ cell_count cave.size
  pub flood : IsFlood cave passed waits levels waiting

-- passing on from this level: levels below it rise, each by light from one that was there, and the flood goes on
pub record IsStep (cave : Cave) (passed level : ℕ) (old new : ℕ → ℕ) (waiting : List (List ℕ)) : Type 0 where
  pub rises : Rises level old new
  pub spreads : Spreads cave old new
  pub flood : IsFlood cave passed level new waiting

-- a cell of the box without light, and an emission for it
pub record IsSource (cave : Cave) (levels : ℕ → ℕ) (cell emission : ℕ) : Type 0 where
  pub inside : cell < cell_count cave.size
  pub unlit : levels cell ≡ 0
  pub most : emission ≤ 15

-- the cell has passed its light on to all its neighbours
abbrev pub HasPassed : Cave → (ℕ → ℕ) → ℕ → Type 0
HasPassed cave levels before = (cell : ℕ) → AreNeighbours cave.size before cell → IsPassed cave levels before cell

-- no cell can raise a neighbour, and each level is brought from one of the start
pub record IsSettled (cave : Cave) (start levels : ℕ → ℕ) : Type 0 where
  pub brought_there : Spreads cave start levels
  pub covered : (cell : ℕ) → start cell ≤ levels cell
  pub settled : (before cell : ℕ) → AreNeighbours cave.size before cell → IsPassed cave levels before cell

-- no cell waits at any level
abbrev pub NoneWaits : List (List ℕ) → Type 0
NoneWaits waiting = (level : ℕ) → waiting_at waiting level ≡ []

-- each cell has its emission
pub record AreEmissions (cave : Cave) (levels : List ℕ) : Type 0 where
  pub whole : length levels ≡ cell_count cave.size
  pub each : (cell : ℕ) → cell < cell_count cave.size → slice_index levels cell ≡ (class_at cave cell).emission
