use Rattle.cave_model.specs.Coverage.{of_cave}
use Rattle.proof_rules.proofs.LessLemmas as less
use Rattle.proof_rules.proofs.laws.good_at_less.Goals as goal

pub returns : goal.returns
returns c = λ cave. less.good_at_less (of_cave cave)
