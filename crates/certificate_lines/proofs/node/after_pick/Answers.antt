use Rattle.std.proofs.Common.{sym, subst}
use Rattle.certificate_lines.specs.Nodes.{PickMeans}
use Rattle.certificate_lines.specs.Decides.{IsJust}
use Rattle.certificate_lines.proofs.Words.{pick_just}
use Rattle.certificate_lines.proofs.node.after_pick.Goals as goal

pub returns : goal.returns
returns c = subst (IsJust (PickMeans c.args.trees.version c.args.trees.count c.args.trees.to_come c.args.trees.pending
    c.args.numbers.now)) (sym c.after_node.ensures)
    (pick_just c.args.trees.version c.args.trees.count c.args.trees.to_come c.args.trees.pending c.args.numbers.now
    c.in-Some.place c.in-Some.ensures c.if-trees-lt4.false c.if-trees-eq0.false c.if-place-trees.false)
