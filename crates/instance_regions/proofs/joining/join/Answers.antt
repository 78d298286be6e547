use Rattle.instance_regions.proofs.TreeLemmas.{joins}
use Rattle.instance_regions.proofs.joining.join.Goals as goal

pub returns : goal.returns
returns c = rw (c.max-high.ensures, c.min-low.ensures)
    (joins c.args.parents.now c.find-first.new.parents c.find-second.new.parents c.args.one c.args.two
    c.find-first.result c.find-second.result c.requires.one c.requires.two c.find-first.ensures
    c.find-second.ensures)
