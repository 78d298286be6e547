-- Which cells are dark, which are places, and what a torch at each place lights, by the number of the cell.
-- This is this project's own.
use Rattle.std.specs.Prelude.{◌≡◌, ◌<◌, ◌↔◌, ℕ, Bool, false, IsTrue, List, [], length, slice_index_or, Contains}
use Rattle.std.specs.List.Sorted.{IsStrictlyIncreasing}
use Rattle.cave_base.specs.Box.{cell_count}
use Rattle.cave_model.specs.Cave.{Cave}
use Rattle.cave_model.specs.Spawn.{IsDark}
use Rattle.cave_model.specs.Torches.{IsPlace, Lights}
use Rattle.cave_model.specs.Plan.{AreDistinct}

-- whether the cell has its flag set; none past the end has
abbrev pub is_marked : List Bool → ℕ → Bool
is_marked marks cell = slice_index_or marks cell false

-- a flag for each cell, set for those of the kind
pub record AreMarksOf (count : ℕ) (Kind : ℕ → Type 0) (marks : List Bool) : Type 0 where
  pub whole : length marks ≡ count
  pub exact : (cell : ℕ) → IsTrue (is_marked marks cell) ↔ Kind cell

-- the list at this number; past the end it is empty
abbrev pub row_at : List (List ℕ) → ℕ → List ℕ
row_at rows number = slice_index_or rows number []

-- the cells that a torch at the place lights, each once
pub record AreLitCells (cave : Cave) (place : ℕ) (cells : List ℕ) : Type 0 where
  pub once : AreDistinct cells
  pub exact : (cell : ℕ) → Contains cells cell ↔ Lights cave place cell

-- the place is legal, the cell dark, and a torch at the one lights the other
pub record IsPair (cave : Cave) (place cell : ℕ) : Type 0 where
  pub legal : IsPlace cave place
  pub dark : IsDark cave cell
  pub lights : Lights cave place cell

-- `count` lists, each with the places that light its cell where that is dark, each once
pub record ArePlacesOf (cave : Cave) (count : ℕ) (rows : List (List ℕ)) : Type 0 where
  pub whole : length rows ≡ count
  pub exact : (place cell : ℕ) → Contains (row_at rows cell) place ↔ ((cell < count) × IsPair cave place cell)
  pub once : (cell : ℕ) → AreDistinct (row_at rows cell)

-- who lights what, by the number of the cell
pub record Pairs : Type 0 where
  -- of each place, the dark cells that it lights
  pub lights : List (List ℕ)
  -- of each dark cell, the places that light it
  pub lit_by : List (List ℕ)

-- the list of each place has the dark cells that it lights, ascending
pub record AreLights (cave : Cave) (rows : List (List ℕ)) : Type 0 where
  pub whole : length rows ≡ cell_count cave.size
  pub exact : (place cell : ℕ) → Contains (row_at rows place) cell ↔ IsPair cave place cell
  pub ascending : (place : ℕ) → IsStrictlyIncreasing (row_at rows place)

-- these are the pairs of the cave
pub record ArePairsOf (cave : Cave) (pairs : Pairs) : Type 0 where
  pub lights : (place cell : ℕ) → Contains (row_at pairs.lights place) cell ↔ IsPair cave place cell
  pub lit_by : (place cell : ℕ) → Contains (row_at pairs.lit_by cell) place ↔ IsPair cave place cell
  pub ascending : (cell : ℕ) → IsStrictlyIncreasing (row_at pairs.lit_by cell)

-- flags and pairs by the number of the cell
pub record LitLists : Type 0 where
  pub dark : List Bool
  pub places : List Bool
  pub pairs : Pairs

-- the flags and lists are those of the cave
pub record AreListsOf (cave : Cave) (lists : LitLists) : Type 0 where
  pub dark : AreMarksOf (cell_count cave.size) (IsDark cave) lists.dark
  pub places : AreMarksOf (cell_count cave.size) (IsPlace cave) lists.places
  pub lights : (place cell : ℕ) → Contains (row_at lists.pairs.lights place) cell ↔ IsPair cave place cell
  pub lit_by : (place cell : ℕ) → Contains (row_at lists.pairs.lit_by cell) place ↔ IsPair cave place cell
  pub ascending : (cell : ℕ) → IsStrictlyIncreasing (row_at lists.pairs.lit_by cell)
