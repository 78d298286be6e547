use Rattle.cave_model.specs.Coverage.{of_cave}
use Rattle.weight_judge.proofs.KeptLemmas.{kept_capacities, kept_apart, all_kept}
use Rattle.weight_judge.proofs.laws.kept_is_within.Goals as goal

pub returns : goal.returns
returns c = λ cave barred groups lists are once. (
  λ kept. (
    kept_capacities (of_cave cave) barred groups lists are kept,
    kept_apart (of_cave cave) barred groups lists are kept,
  ),
  λ k. all_kept (of_cave cave) barred groups lists are once k.0 k.1,
)
