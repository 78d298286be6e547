-- The text of the regions of a certificate, one after another. This is this project's own.
use Rattle.std.specs.Prelude.{ℕ, List, [], ◌∷◌, ◌++◌, length, codes, All, flat_map}
use Rattle.cave_model.specs.Plan.{AreDistinct}
use Rattle.proof_rules.specs.Tree.{Tree}
use Rattle.proof_rules.specs.Text.{ended, line, section_lines}
use Rattle.certificate_text.specs.Lines.{HasDistinctCells, tree_text}
use Rattle.proof_tree.specs.Order.{in_order}
use Rattle.certificate_text.specs.Planned.{Plan, section_of}

-- a line of cells
abbrev pub cells_text : List ℕ → List ℕ → List ℕ
cells_text word cells = line word cells ++ 10 ∷ []

-- the lines of torches and a tree
unfoldable pub proved_text : List ℕ → Tree → List ℕ
proved_text torches tree = cells_text (codes "T") (in_order torches) ++ tree_text tree

-- all lines of a region
unfoldable pub region_text : List ℕ → List ℕ → Tree → List ℕ
region_text cells torches tree = cells_text (codes "region") (length cells ∷ length torches ∷ [])
    ++ (cells_text (codes "D") cells ++ proved_text torches tree)

-- the lines of a planned region, as the certificate has them
abbrev pub section_text : Plan → List ℕ
section_text plan = ended (section_lines (section_of plan))

-- no torch stands twice in it, and no cell in a leaf
pub record IsWritable (plan : Plan) : Type 0 where
  pub torches : AreDistinct plan.torches
  pub leaves : HasDistinctCells plan.tree

-- no plan has a torch twice, or a cell twice in one leaf
abbrev pub AreWritable : List Plan → Type 0
AreWritable plans = All IsWritable plans

-- the texts of the plans as the certificate has them, one after another
abbrev pub sections_text : List Plan → List ℕ
sections_text plans = flat_map section_text plans

-- the lines of all regions, and the last line
unfoldable pub body_text : List Plan → List ℕ
body_text plans = sections_text plans ++ codes "end\n"
