use Rattle.std.proofs.Common.{arith, sym, subst}
use Rattle.certificate_lines.specs.Nodes.{GroupMeans}
use Rattle.certificate_lines.specs.Decides.{IsJust}
use Rattle.certificate_lines.proofs.Words.{group_just, group_none, group_misfits}
use Rattle.certificate_lines.proofs.node.after_group.Goals as goal

pub returns-in_default : goal.returns-in_default
returns-in_default c = group_none c.args.trees.version c.args.trees.count c.args.trees.to_come c.args.trees.pending
    c.args.left c.args.from c.args.numbers.now c.in_default.ensures

pub returns-then-saturating_sub-left : goal.returns-then-saturating_sub-left
returns-then-saturating_sub-left c = group_misfits c.args.trees.version c.args.trees.count c.args.trees.to_come
    c.args.trees.pending c.args.left c.args.from c.args.numbers.now c.in-Some.cell c.in-Some.ensures
    (λ some any. omega arith)

pub returns : goal.returns
returns c = subst (IsJust (GroupMeans c.args.trees.version c.args.trees.count c.args.trees.to_come c.args.trees.pending
    c.args.left c.args.from c.args.numbers.now)) (sym c.with_groups.ensures)
    (group_just c.args.trees.version c.args.trees.count c.args.trees.to_come c.args.trees.pending c.args.left
    c.args.from c.args.numbers.now c.in-Some.cell c.in-Some.ensures c.if-trees-eq0.false c.if-left-eq0.false
    (omega arith))
