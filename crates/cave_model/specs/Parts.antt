-- Rows that stand one after another in one list. This is the project's own.
use Rattle.std.specs.Prelude.{◌≡◌, ◌≤◌, ◌<◌, ◌+◌, ◌-◌, ◌++◌, ◌↔◌, ℕ, List, length, slice_index, map, Contains}
use Rattle.std.specs.List.{range_with_len, slice_range}
use Rattle.cave_model.specs.Cave.{Cave}
use Rattle.cave_model.specs.Passages.{LeadsTo}

-- the part of the list from one of the starts up to the next
abbrev pub part : List ℕ → List ℕ → ℕ → List ℕ
part starts cells row = slice_range cells (slice_index starts row) (slice_index starts (row + 1))

-- the parts of the list; the last start is the end of the last
abbrev pub parts : List ℕ → List ℕ → List (List ℕ)
parts starts cells = map (part starts cells) (range_with_len 0 (length starts - 1))

-- the starts ascend, and none lies beyond the end
pub record AreStarts (starts cells : List ℕ) : Type 0 where
  pub some : 0 < length starts
  pub ascending : (row : ℕ) → row + 1 < length starts → slice_index starts row ≤ slice_index starts (row + 1)
  pub inside : (row : ℕ) → row < length starts → slice_index starts row ≤ length cells

-- the list goes on with the neighbours of the cell that light can enter, which are six at most
pub record GoesOn (cave : Cave) (cell : ℕ) (old new : List ℕ) : Type 0 where
  pub more : List ℕ
  pub joined : new ≡ old ++ more
  pub few : length more ≤ 6
  pub exact : (to : ℕ) → Contains more to ↔ LeadsTo cave cell to
