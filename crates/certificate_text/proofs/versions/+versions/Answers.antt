use Rattle.std.proofs.Common.{ap, arith}
use Rattle.proof_tree.specs.Shape.{tree_of, forest_of, tree_size}
use Rattle.proof_tree.specs.declared.proof.Proof.{Proof}
use Rattle.certificate_text.proofs.NodeLemmas.{tree_below}
use Rattle.certificate_text.proofs.PlanLemmas.{versions_some}
use Rattle.certificate_text.proofs.versions.+versions.Goals as goal

pub greatest_version-least_version-requires : goal.greatest_version-least_version-requires
greatest_version-least_version-requires t c =
    let same = ap (λ (p : Proof). tree_size (tree_of p)) c.tree-item.is in
    let below = tree_below c.args.trees.now c.loop-tree.tree-index c.tree-item.result c.loop-tree-test.true in
    (omega (arith, below, same, c.decreases), tt)

pub greatest_version-loop-tree-init : goal.greatest_version-loop-tree-init
greatest_version-loop-tree-init t c =
    let some = versions_some (forest_of c.args.trees.now) in (omega arith, omega (arith, some))
