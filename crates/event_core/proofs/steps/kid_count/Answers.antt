use Rattle.std.proofs.Common.{length, [], sym, ap, ◌∙◌}
use Rattle.proof_tree.specs.Opened.{steps_on}
use Rattle.proof_tree.specs.declared.branching.Branching.{Branching}
use Rattle.proof_tree.proofs.KidLemmas.{length-steps_from}
use Rattle.event_core.proofs.steps.kid_count.Goals as goal

pub returns-in-Cell : goal.returns-in-Cell
returns-in-Cell c = sym (length-steps_from [] c.args.places.now)
    ∙ ap (λ (on : Branching). length (steps_on on c.args.places.now)) (sym c.in-Cell.is)
