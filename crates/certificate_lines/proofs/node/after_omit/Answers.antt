use Rattle.std.proofs.Common.{refl, sym, subst}
use Rattle.certificate_lines.specs.Nodes.{OmitMeans}
use Rattle.certificate_lines.specs.Decides.{IsJust}
use Rattle.certificate_lines.proofs.Words.{omit_just}
use Rattle.certificate_lines.proofs.node.after_omit.Goals as goal

pub returns : goal.returns
returns c = subst (IsJust (OmitMeans c.args.trees.version c.args.trees.count c.args.trees.to_come c.args.trees.pending
    c.args.numbers.now)) (sym c.after_node.ensures)
    (omit_just c.args.trees.version c.args.trees.count c.args.trees.to_come c.args.trees.pending c.args.numbers.now
    c.in-Some.many c.in-Some.cells.now c.in-Some.ensures c.if-trees-lt3.false c.if-trees-eq0.false c.if-many-eq0.false
    c.if-cells-many.false (c.if-not-are_listed.ensures.0 refl))
