use Rattle.proof_check.proofs.StepLemmas.{pick_nothing}
use Rattle.proof_check.proofs.nodes.NodeJudge.pick_line.Goals as goal

pub returns-else-numbers-eq1-clause-steps : goal.returns-else-numbers-eq1-clause-steps
returns-else-numbers-eq1-clause-steps c =
    pick_nothing c.args.lists.now c.args.numbers.now c.args.line c.args.self.now c.if-numbers-eq1.false
