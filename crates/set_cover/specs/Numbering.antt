-- Listed numbers get their indices. This is this project's own.
use Rattle.std.specs.Prelude.{◌≡◌, ◌<◌, ◌⊎◌, ℕ, List, length, slice_index, Contains}

-- each of the cells got its index, and the others keep what they had
pub record Numbers (old cells new : List ℕ) : Type 0 where
  pub whole : length new ≡ length old
  pub listed : (index : ℕ) → index < length cells → slice_index new (slice_index cells index) ≡ index
  pub others : (cell : ℕ) → (slice_index new cell ≡ slice_index old cell) ⊎ Contains cells cell
