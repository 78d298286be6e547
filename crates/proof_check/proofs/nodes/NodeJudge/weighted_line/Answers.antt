use Rattle.std.proofs.Common.{refl}
use Rattle.proof_check.proofs.GroupSteps.{weighted_nothing, weighted_begins, only_number}
use Rattle.proof_check.proofs.nodes.NodeJudge.weighted_line.Goals as goal

pub returns-then-numbers-eq1-clause-steps : goal.returns-then-numbers-eq1-clause-steps
returns-then-numbers-eq1-clause-steps c = weighted_begins c.args.lists.now c.args.numbers.now _ c.args.line
    c.args.self.now c.new.result _ (only_number c.args.numbers.now c.if-numbers-eq1.true) refl c.new.ensures.line
    c.new.ensures.to_come c.new.ensures.none

pub returns-else-numbers-eq1-clause-steps : goal.returns-else-numbers-eq1-clause-steps
returns-else-numbers-eq1-clause-steps c = weighted_nothing c.args.lists.now c.args.numbers.now c.args.line
    c.args.self.now c.if-numbers-eq1.false
