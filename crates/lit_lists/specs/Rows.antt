-- Lists by the number of the cell, as they grow. This is this project's own.
use Rattle.std.specs.Prelude.{◌≡◌, ◌≢◌, ◌<◌, ◌+◌, ◌-◌, ◌↔◌, ℕ, List, [], ◌∷◌, ◌++◌, length, slice_index, Contains}
use Rattle.std.specs.List.Sorted.{IsStrictlyIncreasing}
use Rattle.cave_model.specs.Parts.{AreStarts, parts}
use Rattle.cave_model.specs.Plan.{AreDistinct}
use Rattle.lit_lists.specs.Lists.{row_at}

-- where each list begins in one list of all numbers, which they fill from its beginning to its end
pub record AreWhole (starts numbers : List ℕ) : Type 0 where
  pub starting : AreStarts starts numbers
  pub first : slice_index starts 0 ≡ 0
  pub last : slice_index starts (length starts - 1) ≡ length numbers

-- `count` lists, all of them empty
pub record AreEmptyRows (count : ℕ) (rows : List (List ℕ)) : Type 0 where
  pub whole : length rows ≡ count
  pub empty : (cell : ℕ) → row_at rows cell ≡ []

-- the number was put at the end of the list of the cell
pub record IsPushed (old : List (List ℕ)) (cell number : ℕ) (new : List (List ℕ)) : Type 0 where
  pub whole : length new ≡ length old
  pub here : row_at new cell ≡ row_at old cell ++ number ∷ []
  pub others : (other : ℕ) → other ≢ cell → row_at new other ≡ row_at old other

-- the number was put at the end of the lists of the cells of this kind
pub record ArePushed (Here : ℕ → Type 0) (old : List (List ℕ)) (number : ℕ) (new : List (List ℕ)) : Type 0 where
  pub whole : length new ≡ length old
  pub here : (cell : ℕ) → Here cell → row_at new cell ≡ row_at old cell ++ number ∷ []
  pub others : (cell : ℕ) → (¬ Here cell) → row_at new cell ≡ row_at old cell

-- the lists have numbers of these cells alone, each once
pub record AreOfOneBox (rows : List (List ℕ)) : Type 0 where
  pub inside : (cell number : ℕ) → Contains (row_at rows cell) number → number < length rows
  pub once : (cell : ℕ) → AreDistinct (row_at rows cell)

-- `count` lists of numbers below `count`, one after another in one list of all numbers
pub record AreRowsOf (count : ℕ) (starts numbers : List ℕ) : Type 0 where
  pub whole : AreWhole starts numbers
  pub lists : length starts ≡ count + 1
  pub boxed : AreOfOneBox (parts starts numbers)

-- the list of each number has, ascending, the cells whose lists it is in
pub record AreTurned (rows turned : List (List ℕ)) : Type 0 where
  pub exact : (number cell : ℕ) → Contains (row_at turned number) cell ↔ Contains (row_at rows cell) number
  pub ascending : (number : ℕ) → IsStrictlyIncreasing (row_at turned number)
