-- What the rows of a small region are looked at for. This is this project's own.
use Rattle.std.specs.Prelude.{◌≡◌, ℕ, ◌<◌, List, [], length, slice_index, slice_index_or, All}
use Rattle.set_cover.specs.Bits.{Has, HasNoneFrom}

-- the numbers below `count`, in order
pub record CountsUp (count : ℕ) (numbers : List ℕ) : Type 0 where
  pub long : length numbers ≡ count
  pub each : (k : ℕ) → k < count → slice_index numbers k ≡ k

-- each row has `width` words
abbrev pub AreWide : ℕ → List (List ℕ) → Type 0
AreWide width rows = All (λ row. length row ≡ width) rows

-- some bit, and none from the count on
pub record IsRowFor (count : ℕ) (row : List ℕ) : Type 0 where
  pub none_past : HasNoneFrom row count
  pub some : (bit : ℕ) × Has row bit

-- one of the rows has the bit
abbrev pub IsLitIn : List (List ℕ) → ℕ → Type 0
IsLitIn rows bit = (place : ℕ) × (place < length rows) × Has (slice_index_or rows place []) bit

-- rows over `count` cells: each has some bit and none past the cells, and each cell is lit
pub record AreLit (count : ℕ) (rows : List (List ℕ)) : Type 0 where
  pub filled : 0 < count
  pub each : (place : ℕ) → place < length rows → IsRowFor count (slice_index_or rows place [])
  pub lit : (bit : ℕ) → bit < count → IsLitIn rows bit
