-- A piece that is opened.
use Rattle.std.specs.Prelude.{◌≡◌, ℕ, List}
use Rattle.proof_tree.specs.Opened.{ArePlacesOn, below_bars}
use Rattle.proof_tree.specs.Piece.{Subproblem}
use Rattle.event_core.specs.NodeShape.{shape_of}
use Rattle.event_core.specs.State.{Way}
use Rattle.event_core.specs.Finished.{newly}
use Rattle.event_core.specs.declared.node.PieceNode.{PieceNode}

-- a waiting kid for each step, with room for their trees
pub record IsOpening (piece : Subproblem) (way : Way) (node : PieceNode) : Type 0 where
  pub places : List ℕ
  pub all : ArePlacesOn (below_bars piece way.bars) way.on places
  pub shape : shape_of node ≡ newly way places
