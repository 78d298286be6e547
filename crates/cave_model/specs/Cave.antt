-- A cave: a box of classes, with the rule of spawning.
-- Outside the box nothing is free, nothing supports and no light passes: that is this project's own.
use Rattle.std.specs.Prelude.{◌≡◌, ℕ, ◌<◌, IsTrue, Option, Some, None, List, length, slice_index_or}
use Rattle.cave_base.specs.Box.{Point, cell_count, is_small}
use Rattle.cave_model.specs.Cells.{Face, beyond}
use Rattle.cave_base.specs.declared.class.Class.{Class}
use Rattle.cave_base.specs.Class.{IsSoundClass, void}
use Rattle.cave_model.specs.Rule.{Rule, IsRule}

-- a box, the class of each of its cells, and the rule of spawning
pub record Cave : Type 0 where
  pub size : Point
  -- by the number of the cell
  pub classes : List Class
  pub rule : Rule

-- the cave of these parts
abbrev pub cave : Point → List Class → Rule → Cave
cave size classes rule = record { size = size; classes = classes; rule = rule }

-- the class of the cell with this number; past the end it is as void
abbrev pub class_at : Cave → ℕ → Class
class_at cave cell = slice_index_or cave.classes cell void

-- the class of a cell of the box, or of none
abbrev pub class_of_cell : Cave → Option ℕ → Class
class_of_cell cave None = void
class_of_cell cave (Some cell) = class_at cave cell

-- the class beyond a face of the cell; outside the box is as void
abbrev pub class_beyond : Cave → Face → ℕ → Class
class_beyond cave face cell = class_of_cell cave (beyond cave.size face cell)

-- what every cave keeps
pub record IsSound (cave : Cave) : Type 0 where
  pub whole : length cave.classes ≡ cell_count cave.size
  pub classed : (cell : ℕ) → IsSoundClass (class_at cave cell)
  pub needed : 0 < cave.rule.need

-- what every world keeps
pub record IsWorld (cave : Cave) : Type 0 where
  pub sound : IsSound cave
  pub small : IsTrue (is_small cave.size)
  pub ruled : IsRule cave.rule
