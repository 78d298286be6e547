-- Levels kept for the cells that have light alone.
use Rattle.std.specs.Prelude.{ℕ, unwrap_or}
use Rattle.std.specs.Ordering.{nat_cmp}
use Rattle.std.specs.FinMap as map

-- the level of the cell, and 0 where none is kept
abbrev pub reached : map.FinMap nat_cmp ℕ → ℕ → ℕ
reached levels cell = unwrap_or (map.get levels cell) 0
