use Rattle.tree_judges.proofs.WeightedLemmas.{few_cells}
use Rattle.tree_judges.proofs.weighted_leaf.count.Goals as goal

pub returns-clause-few : goal.returns-clause-few
returns-clause-few c = few_cells c.args.cells.now c.requires (λ k. (c.type_inv.cells k).fits)
