use Rattle.instance_regions.proofs.TreeLemmas.{finding_none, finding_next, finding_smaller, finding_all}
use Rattle.instance_regions.proofs.joining.find.Goals as goal

pub loop-parents-init : goal.loop-parents-init
loop-parents-init c = finding_none c.args.parents.now c.args.cell c.requires.inside c.requires.forest

pub loop-parents-preserved : goal.loop-parents-preserved
loop-parents-preserved c = finding_next c.args.parents.now c.loop-parents.parents c.args.cell c.loop-parents.at
    c.loop-parents.invariant

pub loop-parents-smaller : goal.loop-parents-smaller
loop-parents-smaller c = finding_smaller c.args.parents.now c.loop-parents.parents c.args.cell c.loop-parents.at
    c.loop-parents.invariant c.loop-parents-test.true

pub returns : goal.returns
returns c = finding_all c.args.parents.now c.loop-parents.parents c.args.cell c.loop-parents.at c.loop-parents.invariant
    c.loop-parents-test.false
