-- The pieces that a core knows, as a tree: how the code keeps them.
use Rattle.std.specs.Prelude.{ℕ, ◌+◌, zero, suc, List, [], ◌∷◌, ◌++◌, Option, Some, None}
use Rattle.proof_rules.specs.Tree.{Tree}
use Rattle.proof_tree.specs.Bars.{places_of}
use Rattle.proof_tree.specs.Opened.{Step, steps_on}
use Rattle.event_core.specs.State.{Status, Way, waiting, held, opened, closed, Part}

mutual
  -- a piece that waits, is held, is closed, or is opened, with the kids below it
  pub data Shape : Type 0 where
    at_rest : Shape
    -- by this worker
    in_hand : ℕ → Shape
    -- at this floor, by this tree
    settled : ℕ → Tree → Shape
    -- in a way, with the places of its kids, room for this number of their trees and for that number below bars and
    -- picks, and the kids
    parted : Way → List ℕ → ℕ → ℕ → Shapes → Shape

  -- shapes, one after another: those of the kids of a piece
  pub data Shapes : Type 0 where
    no_shape : Shapes
    one_shape : Shape → Shapes → Shapes

abbrev mutual
  -- a number that falls from a shape to its kids
  pub shape_size : Shape → ℕ
  shape_size at_rest = 1
  shape_size (in_hand worker) = 1
  shape_size (settled floor tree) = 1
  shape_size (parted way places trees boxes kids) = shapes_size kids + 1

  -- a number that falls from shapes to each of them
  pub shapes_size : Shapes → ℕ
  shapes_size no_shape = 0
  shapes_size (one_shape kid kids) = shape_size kid + shapes_size kids + 1

-- how many shapes there are
abbrev pub shape_count : Shapes → ℕ
shape_count no_shape = 0
shape_count (one_shape kid kids) = shape_count kids + 1

-- what became of the piece, without the kids below it
abbrev pub status_of : Shape → Status
status_of at_rest = waiting
status_of (in_hand worker) = held worker
status_of (settled floor tree) = closed floor tree
status_of (parted way places trees boxes kids) = opened way

abbrev mutual
  -- the piece below this one that has this name, where these places are chosen and barred in this one
  pub part_in : List ℕ → List ℕ → Shape → List ℕ → Option Part
  part_in chosen barred shape [] = Some (record { chosen = chosen; barred = barred; status = status_of shape })
  part_in chosen barred at_rest (number ∷ rest) = None
  part_in chosen barred (in_hand worker) (number ∷ rest) = None
  part_in chosen barred (settled floor tree) (number ∷ rest) = None
  part_in chosen barred (parted way places trees boxes kids) (number ∷ rest) =
      part_below chosen (barred ++ places_of way.bars) (steps_on way.on places) kids number rest

  -- the same among kids: in each the places of its step are chosen and barred too
  pub part_below : List ℕ → List ℕ → List Step → Shapes → ℕ → List ℕ → Option Part
  part_below chosen barred [] kids number rest = None
  part_below chosen barred (step ∷ steps) no_shape number rest = None
  part_below chosen barred (step ∷ steps) (one_shape kid kids) zero rest =
      part_in (chosen ++ step.chosen) (barred ++ step.barred) kid rest
  part_below chosen barred (step ∷ steps) (one_shape kid kids) (suc number) rest =
      part_below chosen barred steps kids number rest

abbrev mutual
  -- the shape with the new one at this name; all stays where the name leads nowhere
  pub put_in : Shape → List ℕ → Shape → Shape
  put_in shape [] new = new
  put_in at_rest (number ∷ rest) new = at_rest
  put_in (in_hand worker) (number ∷ rest) new = in_hand worker
  put_in (settled floor tree) (number ∷ rest) new = settled floor tree
  put_in (parted way places trees boxes kids) (number ∷ rest) new =
      parted way places trees boxes (put_below kids number rest new)

  -- the same among kids, of which the first number of the name says one and the rest leads on
  pub put_below : Shapes → ℕ → List ℕ → Shape → Shapes
  put_below no_shape number rest new = no_shape
  put_below (one_shape kid kids) zero rest new = one_shape (put_in kid rest new) kids
  put_below (one_shape kid kids) (suc number) rest new = one_shape kid (put_below kids number rest new)
