-- What a flood from a block's cells needs and leaves. This is this project's own.
use Rattle.std.specs.Prelude.{◌≡◌, ◌≤◌, ℕ, ◌+◌, ◌*◌, List, [], length}
use Rattle.cave_base.specs.Box.{cell_count, most_cells}
use Rattle.cave_model.specs.Cave.{Cave}
use Rattle.cave_problem.specs.Blocks.{AreBlank, AreExact, AreSized, IsComplete, IsLinked}
use Rattle.cave_problem.specs.Reach.{IsReach}
use Rattle.cave_problem.specs.declared.block_flood.BlockFlood.{BlockFlood}

-- numbers for `count` cells, with six sides for each
pub record AreWide (count : ℕ) (local near : List ℕ) : Type 0 where
  pub small : count ≤ most_cells
  pub numbers : length local ≡ count
  pub sides : length near ≡ 6 * count

-- the memory of a flood, for `count` cells, after one flood: a reach, and words of its cells alone
pub record IsLeft (count : ℕ) (flood : BlockFlood) : Type 0 where
  pub wide : AreWide count flood.local.items flood.near.items
  pub found : IsReach flood.local.items flood.reach.items
  pub others : AreBlank flood.levels.items (length flood.reach.items)

-- before the next: no reach and no words
pub record IsReady (count : ℕ) (flood : BlockFlood) : Type 0 where
  pub left : IsLeft count flood
  pub none : flood.reach.items ≡ []

-- the words at the levels above the one that is needed are there, and each cell to which a source brings what is needed
-- is one of the first `count`
pub record HasSpread (cave : Cave) (sources : List ℕ) (flood : BlockFlood) (count : ℕ) : Type 0 where
  pub left : IsLeft (cell_count cave.size) flood
  pub sized : AreSized (length flood.reach.items) flood.near.items flood.levels.items count
  pub linked : IsLinked cave sources flood.reach.items flood.near.items count
  pub there : AreExact cave sources flood.reach.items (cave.rule.need + 1) flood.levels.items
  pub complete : IsComplete cave sources flood.reach.items count cave.rule.need
