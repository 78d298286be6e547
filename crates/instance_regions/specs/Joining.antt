-- Cells that belong together, as a forest: each cell has a parent, itself or a cell before it. This is this
-- project's own.
use Rattle.std.specs.Prelude.{◌≡◌, ◌<◌, ◌≤◌, ◌^◌, ℕ, List, length, slice_index, min, max, nat_eq, if◌then◌else◌}
use Rattle.set_cover.specs.Sparse.{Sparse, IsSparse, ListsAt, of_sparse}
use Rattle.instance_regions.specs.Splitting.{AreChained}

-- the parent of each cell is the cell itself or one before it
abbrev pub IsForest : List ℕ → Type 0
IsForest parents = (cell : ℕ) → cell < length parents → slice_index parents cell ≤ cell

-- each cell is represented by the root of its tree
pub record AreRooted (rep : ℕ → ℕ) (parents : List ℕ) : Type 0 where
  pub same : (cell : ℕ) → cell < length parents → rep (slice_index parents cell) ≡ rep cell
  pub top : (cell : ℕ) → cell < length parents → slice_index parents cell ≡ cell → rep cell ≡ cell
  pub low : (cell : ℕ) → cell < length parents → rep cell ≤ cell

-- the root of a cell was found, and no cell got another root
pub record Finds (old : List ℕ) (cell found : ℕ) (new : List ℕ) : Type 0 where
  pub whole : length new ≡ length old
  pub forest : IsForest new
  pub low : found ≤ cell
  pub top : slice_index new found ≡ found
  pub kept : (rep : ℕ → ℕ) → AreRooted rep old → AreRooted rep new × (rep cell ≡ found)

-- the roots after the trees of two cells were joined
abbrev pub merged : (ℕ → ℕ) → ℕ → ℕ → ℕ → ℕ
merged rep one two cell = if nat_eq (rep cell) (max (rep one) (rep two)) then min (rep one) (rep two) else rep cell

-- the trees of two cells were joined
pub record Joins (old : List ℕ) (one two : ℕ) (new : List ℕ) : Type 0 where
  pub whole : length new ≡ length old
  pub forest : IsForest new
  pub joined : (rep : ℕ → ℕ) → AreRooted rep old → AreRooted (merged rep one two) new

-- the cells with these indices are joined
abbrev pub AreJoined : Sparse → ℕ → ℕ → Type 0
AreJoined sparse a b = AreChained (of_sparse sparse) (slice_index sparse.cells a) (slice_index sparse.cells b)

-- each cell is joined with its root
abbrev pub AreJoinedBy : Sparse → (ℕ → ℕ) → Type 0
AreJoinedBy sparse rep = (cell : ℕ) → cell < length sparse.cells → AreJoined sparse cell (rep cell)

-- cells that had one root still have one
abbrev pub IsCoarser : (ℕ → ℕ) → (ℕ → ℕ) → Type 0
IsCoarser old new = (a b : ℕ) → old a ≡ old b → new a ≡ new b

-- the cells that a place lights have one root
abbrev pub IsOneTree : Sparse → ℕ → (ℕ → ℕ) → Type 0
IsOneTree sparse place rep = (a b : ℕ) → ListsAt sparse place a → ListsAt sparse place b → rep a ≡ rep b

-- new roots, for which the cells that a place lights have one
pub record HasTrees (sparse : Sparse) (place : ℕ) (old : ℕ → ℕ) (parents : List ℕ) : Type 0 where
  pub rep : ℕ → ℕ
  pub roots : AreRooted rep parents
  pub joined : AreJoinedBy sparse rep
  pub coarser : IsCoarser old rep
  pub one : IsOneTree sparse place rep

-- a parent for each cell of the instance
pub record AreParents (sparse : Sparse) (parents : List ℕ) : Type 0 where
  pub kept : IsSparse sparse
  pub sized : length parents ≡ length sparse.cells
  pub small : length parents ≤ 2 ^ 32
  pub forest : IsForest parents

-- the trees of all cells that a place lights were joined
pub record JoinsRow (sparse : Sparse) (place : ℕ) (old new : List ℕ) : Type 0 where
  pub whole : length new ≡ length old
  pub forest : IsForest new
  pub trees : (rep : ℕ → ℕ) → AreRooted rep old → AreJoinedBy sparse rep → HasTrees sparse place rep new

-- for each cell the least cell that it is joined with
pub record AreLabels (sparse : Sparse) (labels : List ℕ) : Type 0 where
  pub whole : length labels ≡ length sparse.cells
  pub linked : (place : ℕ) → place < length sparse.places → IsOneTree sparse place (slice_index labels)
  pub joined : AreJoinedBy sparse (slice_index labels)
  pub low : (cell : ℕ) → cell < length labels → slice_index labels cell ≤ cell
  pub top : (cell : ℕ) → cell < length labels → slice_index labels (slice_index labels cell) ≡ slice_index labels cell

-- `count` cells, each its own parent
pub record AreAlone (count : ℕ) (parents : List ℕ) : Type 0 where
  pub whole : length parents ≡ count
  pub each : (cell : ℕ) → cell < count → slice_index parents cell ≡ cell

-- the root of each cell
pub record AreRoots (parents labels : List ℕ) : Type 0 where
  pub whole : length labels ≡ length parents
  pub each : (rep : ℕ → ℕ) → AreRooted rep parents → (cell : ℕ) → cell < length parents
      → (slice_index labels cell ≡ rep cell) × (rep (rep cell) ≡ rep cell)
