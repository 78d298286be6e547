use Rattle.cave_model.specs.Coverage.{of_cave}
use Rattle.set_cover.specs.Instance.{of_instance}
use Rattle.proof_rules.proofs.CarryLemmas.{carries}
use Rattle.proof_rules.proofs.ListLemmas.{at_member}
use Rattle.std.proofs.Common.{Contains}
use Rattle.cave_plan.proofs.laws.good_carries.Goals as goal

pub returns : goal.returns
returns c = λ cave instance cells chosen barred floor tree agrees of g.
    carries (of_instance instance) (of_cave cave) cells agrees chosen barred floor tree
    (λ p h. at_member (Contains instance.places) chosen p of h) g
