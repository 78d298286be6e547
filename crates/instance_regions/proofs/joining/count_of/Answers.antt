use Rattle.instance_regions.proofs.RestrictLemmas.{few_fit}
use Rattle.instance_regions.proofs.joining.count_of.Goals as goal

pub returns-clause-few : goal.returns-clause-few
returns-clause-few c = few_fit c.args.cells.now c.requires.ascending (λ k. (c.type_inv.cells k).fits)
