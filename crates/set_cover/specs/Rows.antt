-- Rows of bits that are kept in part, and the rows of an instance. This is this project's own.
use Rattle.std.specs.Prelude.{◌≡◌, ◌<◌, ◌≤◌, ℕ, ◌+◌, ◌-◌, List, ◌++◌, length, slice_index, replicate, flat_map, All}

-- a row of `width` words, of which these are kept from an index on, and all others are 0
abbrev pub whole_row : ℕ → ℕ → List ℕ → List ℕ
whole_row width before words = replicate before 0 ++ (words ++ replicate (width - (before + length words)) 0)

-- these are the row's words from an index on, and all others are 0
pub record IsSpan (row : List ℕ) (before : ℕ) (words : List ℕ) : Type 0 where
  pub inside : before + length words ≤ length row
  pub each : (k : ℕ) → k < length words → slice_index row (before + k) ≡ slice_index words k
  pub none_before : (k : ℕ) → k < before → slice_index row k ≡ 0
  pub none_after : (k : ℕ) → before + length words ≤ k → slice_index row k ≡ 0

-- `count` words of the row, from an index on
pub record AreWordsFrom (row : List ℕ) (first count : ℕ) (words : List ℕ) : Type 0 where
  pub whole : length words ≡ count
  pub each : (k : ℕ) → k < count → slice_index words k ≡ slice_index row (first + k)

-- the words of rows, one row after another
abbrev pub words_of : List (List ℕ) → List ℕ
words_of rows = flat_map (λ row. row) rows

-- a row of `width` words for each of `count` places
pub record AreRows (count width : ℕ) (rows : List (List ℕ)) : Type 0 where
  pub whole : length rows ≡ count
  pub wide : All (λ row. length row ≡ width) rows
