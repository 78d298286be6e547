use Rattle.std.proofs.Common.{arith}
use Rattle.cave_problem.proofs.NumberedLemmas.{begins_push, reach_few, reach_push, not_there}
use Rattle.cave_problem.proofs.reach.number_of.Goals as goal

pub overflow_cast-number : goal.overflow_cast-number
overflow_cast-number c =
    let few = reach_few c.args.local.now c.args.reach.now.items c.requires.reach in
    omega (arith, few, c.requires.small, c.len-number.ensures)

pub returns-clause-reach : goal.returns-clause-reach
returns-clause-reach c =
    let few = reach_few c.args.local.now c.args.reach.now.items c.requires.reach in
    rw c.in_ok-push.ensures.items (record {
      found = reach_push c.args.local.now c.args.reach.now.items c.requires.reach c.args.cell
          c.len-number.result c.requires.inside (omega (arith, c.len-number.ensures))
          (omega (arith, few, c.requires.small, c.len-number.ensures))
          (not_there c.args.local.now c.args.reach.now.items c.requires.reach c.args.cell
          (omega (arith, c.if-local-cell.false)) (omega (arith, few, c.requires.small)));
      kept = begins_push c.args.reach.now.items c.args.cell;
    })
