-- Shapes that have room, those that are done, and the trees of these.
use Rattle.std.specs.Prelude.{◌≡◌, ℕ, zero, suc, ◌+◌, Bool, true, false, ◌&&◌, List, [], length}
use Rattle.proof_rules.specs.Tree.{Tree, Forest, leaf, branch, pick, none, more}
use Rattle.proof_tree.specs.Bars.{wrapped}
use Rattle.proof_tree.specs.Opened.{steps_on}
use Rattle.proof_tree.specs.declared.branching.Branching.{Branching}
use Rattle.proof_tree.specs.declared.branching.Branching.TheVariants.{Cell, Place}
use Rattle.event_core.specs.State.{Way}
use Rattle.event_core.specs.Shape.{Shape, Shapes, at_rest, in_hand, settled, parted, no_shape, one_shape, shape_count}

-- ---- room

-- how many kids' trees have memory of their own: both of a pick
abbrev pub boxes_on : Branching → ℕ
boxes_on (Cell cell) = 0
boxes_on (Place place) = 2

-- and how many trees where a piece is opened so: one below each bar too
abbrev pub boxes_for : Way → ℕ
boxes_for way = length way.bars + boxes_on way.on

abbrev mutual
  -- each opened piece has a kid for each step, and room for their trees
  pub IsWhole : Shape → Type 0
  IsWhole at_rest = Unit {0}
  IsWhole (in_hand worker) = Unit {0}
  IsWhole (settled floor tree) = Unit {0}
  IsWhole (parted way places trees boxes kids) = (shape_count kids ≡ length (steps_on way.on places))
      × (trees ≡ length (steps_on way.on places)) × (boxes ≡ boxes_for way) × AreWhole kids

  -- each of the kids is such
  pub AreWhole : Shapes → Type 0
  AreWhole no_shape = Unit {0}
  AreWhole (one_shape kid kids) = IsWhole kid × AreWhole kids

-- ---- the end

abbrev mutual
  -- nothing waits or is held
  pub is_done : Shape → Bool
  is_done at_rest = false
  is_done (in_hand worker) = false
  is_done (settled floor tree) = true
  is_done (parted way places trees boxes kids) = are_done kids

  -- nothing waits or is held in any of the kids
  pub are_done : Shapes → Bool
  are_done no_shape = true
  are_done (one_shape kid kids) = is_done kid && are_done kids

-- a branch on the cell with these trees, or a pick of the place with both
abbrev pub joined_on : Branching → Forest → Tree
joined_on (Cell cell) trees = branch cell trees
joined_on (Place place) none = leaf []
joined_on (Place place) (more with none) = leaf []
joined_on (Place place) (more with (more without none)) = pick place with without
joined_on (Place place) (more with (more without (more tree trees))) = leaf []

abbrev mutual
  -- the tree of a shape that is done
  pub assembled : Shape → Tree
  assembled at_rest = leaf []
  assembled (in_hand worker) = leaf []
  assembled (settled floor tree) = tree
  assembled (parted way places trees boxes kids) = wrapped way.bars (joined_on way.on (all_assembled kids))

  -- the trees of the kids, in their order
  pub all_assembled : Shapes → Forest
  all_assembled no_shape = none
  all_assembled (one_shape kid kids) = more (assembled kid) (all_assembled kids)

-- ---- the beginning

-- as many waiting kids as the argument says
abbrev pub all_at_rest : ℕ → Shapes
all_at_rest zero = no_shape
all_at_rest (suc count) = one_shape at_rest (all_at_rest count)

-- a piece that was just opened: its kids wait, and there is room for their trees
abbrev pub newly : Way → List ℕ → Shape
newly way places = parted way places (length (steps_on way.on places)) (boxes_for way)
    (all_at_rest (length (steps_on way.on places)))
