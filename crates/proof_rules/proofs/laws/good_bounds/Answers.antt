use Rattle.cave_model.specs.Coverage.{of_cave}
use Rattle.proof_rules.proofs.BoundLemmas.{piece_serves, bounds}
use Rattle.proof_rules.proofs.laws.good_bounds.Goals as goal

pub returns : goal.returns
returns c = λ cave cells chosen barred tree floor places d g p. bounds (of_cave cave) cells chosen barred tree floor
    places d g (piece_serves (of_cave cave) cells chosen barred places p)
