use Rattle.std.proofs.Common.{sym, subst}
use Rattle.certificate_lines.specs.Decides.{Decides}
use Rattle.certificate_lines.specs.Kinds.{MeansAt, node_stage}
use Rattle.certificate_lines.specs.declared.kind.LineKind.{LineKind}
use Rattle.certificate_lines.proofs.KindLemmas.{leaf_means}
use Rattle.certificate_lines.proofs.step.after_node_line.Goals as goal

pub returns-in-Branch : goal.returns-in-Branch
returns-in-Branch c = subst (λ (k : LineKind). Decides c.after_branch.result
    (MeansAt (node_stage c.args.trees.version c.args.trees.count c.args.trees.to_come c.args.trees.pending) k
    c.args.numbers.now)) (sym c.in-Branch.is) c.after_branch.ensures

pub returns-in-Bar : goal.returns-in-Bar
returns-in-Bar c = subst (λ (k : LineKind). Decides c.after_bar.result
    (MeansAt (node_stage c.args.trees.version c.args.trees.count c.args.trees.to_come c.args.trees.pending) k
    c.args.numbers.now)) (sym c.in-Bar.is) c.after_bar.ensures

pub returns-in-Weighted : goal.returns-in-Weighted
returns-in-Weighted c = subst (λ (k : LineKind). Decides c.after_weighted.result
    (MeansAt (node_stage c.args.trees.version c.args.trees.count c.args.trees.to_come c.args.trees.pending) k
    c.args.numbers.now)) (sym c.in-Weighted.is) c.after_weighted.ensures

pub returns-in-Omit : goal.returns-in-Omit
returns-in-Omit c = subst (λ (k : LineKind). Decides c.after_omit.result
    (MeansAt (node_stage c.args.trees.version c.args.trees.count c.args.trees.to_come c.args.trees.pending) k
    c.args.numbers.now)) (sym c.in-Omit.is) c.after_omit.ensures

pub returns-in-Pick : goal.returns-in-Pick
returns-in-Pick c = subst (λ (k : LineKind). Decides c.after_pick.result
    (MeansAt (node_stage c.args.trees.version c.args.trees.count c.args.trees.to_come c.args.trees.pending) k
    c.args.numbers.now)) (sym c.in-Pick.is) c.after_pick.ensures

pub returns-in_default : goal.returns-in_default
returns-in_default c = leaf_means c.args.trees.version c.args.trees.count c.args.trees.to_come c.args.trees.pending
    c.args.numbers.now c.after_leaf.result c.args.kind c.in_default.not-Branch c.in_default.not-Bar
    c.in_default.not-Weighted c.in_default.not-Omit c.in_default.not-Pick c.after_leaf.ensures
