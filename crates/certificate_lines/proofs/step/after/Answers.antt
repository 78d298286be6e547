use Rattle.std.proofs.Common.{sym, subst}
use Rattle.certificate_lines.specs.Decides.{Decides}
use Rattle.certificate_lines.specs.Kinds.{MeansAt}
use Rattle.certificate_lines.specs.Nodes.{GroupMeans}
use Rattle.certificate_lines.specs.declared.node.Trees.{Trees}
use Rattle.certificate_lines.specs.declared.stage.Stage.{Stage}
use Rattle.certificate_lines.proofs.KindLemmas.{region_means}
use Rattle.certificate_lines.proofs.step.after.Goals as goal

pub returns-in-Start : goal.returns-in-Start
returns-in-Start c = subst (λ (s : Stage). Decides c.after_start.result (MeansAt s c.args.kind c.args.numbers.now))
    (sym c.in-Start.is) c.after_start.ensures

pub returns-in-Box : goal.returns-in-Box
returns-in-Box c = subst (λ (s : Stage). Decides c.after_box.result (MeansAt s c.args.kind c.args.numbers.now))
    (sym c.in-Box.is) c.after_box.ensures

pub returns-in-Regions : goal.returns-in-Regions
returns-in-Regions c = subst (λ (s : Stage). Decides c.after_regions.result (MeansAt s c.args.kind c.args.numbers.now))
    (sym c.in-Regions.is) c.after_regions.ensures

pub returns-in-Group : goal.returns-in-Group
returns-in-Group c =
    let means = subst (λ (t : Trees). Decides c.after_group.result (GroupMeans t.version t.count t.to_come t.pending
    c.in-Group.left c.in-Group.from c.args.numbers.now)) c.new-trees-in-Group.ensures c.after_group.ensures in
    subst (λ (s : Stage). Decides c.after_group.result (MeansAt s c.args.kind c.args.numbers.now))
    (sym c.in-Group.is) means

pub returns-in_default : goal.returns-in_default
returns-in_default c = subst (λ (s : Stage). Decides c.after_region.result (MeansAt s c.args.kind c.args.numbers.now))
    (sym c.in-Region.is)
    (region_means c.in-Region.version c.in-Region.count c.in-Region.to_come c.args.numbers.now c.after_region.result
    c.args.kind c.in_default.not-End c.after_region.ensures)
