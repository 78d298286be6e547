use Rattle.std.proofs.Common.{refl, arith}
use Rattle.proof_check.proofs.GroupSteps.{group_nothing, group_steps}
use Rattle.proof_check.proofs.nodes.NodeJudge.group_line.Goals as goal

pub returns-in_default-clause-steps : goal.returns-in_default-clause-steps
returns-in_default-clause-steps c = group_nothing c.args.lists.now c.args.numbers.now c.args.line c.args.self.now
    (omega (arith, c.in_default.len_below))

pub returns-in_ok-group-clause-steps : goal.returns-in_ok-group-clause-steps
returns-in_ok-group-clause-steps c =
    group_steps c.args.lists.now c.args.numbers.now c.args.line c.args.self.now c.group.new.self _ _ _
    (omega (arith, c.in-len2-up.len_at_least)) refl refl c.in_ok-shares.ensures c.in_ok-group.ensures.group
