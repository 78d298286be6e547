use Rattle.proof_check.proofs.StepLemmas.{branch_nothing}
use Rattle.proof_check.proofs.nodes.NodeJudge.branch_line.Goals as goal

pub returns-else-numbers-eq2-clause-steps : goal.returns-else-numbers-eq2-clause-steps
returns-else-numbers-eq2-clause-steps c =
    branch_nothing c.args.lists.now c.args.numbers.now c.args.line c.args.self.now c.if-numbers-eq2.false
