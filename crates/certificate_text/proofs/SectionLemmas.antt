-- The text of a region from that of its lines.
use Rattle.std.proofs.Common.{◌≡◌, ℕ, List, [], ◌∷◌, ◌++◌, length, codes, refl, sym, ap}
use Rattle.proof_rules.specs.Tree.{Tree}
use Rattle.certificate_text.specs.Lines.{tree_text}
use Rattle.proof_tree.specs.Order.{in_order}
use Rattle.certificate_text.specs.Planned.{Plan}
use Rattle.certificate_text.specs.Sections.{cells_text, proved_text, region_text, section_text}
use Rattle.proof_tree.proofs.OrderLemmas.{length_ordered}

-- the line of torches and the tree's lines
pub proved_is : (torches : List ℕ) (tree : Tree)
    → cells_text (codes "T") (in_order torches) ++ tree_text tree ≡ proved_text torches tree
unfolding proved_text
proved_is torches tree = refl

-- the line of counts, that of cells, and what follows them
pub region_is : (cells torches : List ℕ) (tree : Tree)
    → cells_text (codes "region") (length cells ∷ length torches ∷ [])
    ++ (cells_text (codes "D") cells ++ proved_text torches tree) ≡ region_text cells torches tree
unfolding region_text
region_is cells torches tree = refl

-- the lines of a planned region are those of its section
pub section_is : (plan : Plan) → region_text plan.region.cells plan.torches plan.tree ≡ section_text plan
unfolding region_text proved_text
section_is plan = ap (λ (n : ℕ). cells_text (codes "region") (length plan.region.cells ∷ n ∷ [])
    ++ (cells_text (codes "D") plan.region.cells
    ++ (cells_text (codes "T") (in_order plan.torches) ++ tree_text plan.tree))) (sym (length_ordered plan.torches))
