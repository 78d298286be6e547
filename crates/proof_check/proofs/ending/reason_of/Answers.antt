use Rattle.std.proofs.Common.{ℕ, subst}
use Rattle.std.specs.Prelude.{Option}
use Rattle.cave_base.specs.Box.{cell_count}
use Rattle.proof_check.specs.Ends.{DecidesBad}
use Rattle.proof_check.proofs.ReachLemmas.{ends_illegal, ends_left, ends_regions, ends_nodes}
use Rattle.proof_check.proofs.ending.reason_of.Goals as goal

pub returns-in-Some : goal.returns-in-Some
returns-in-Some c = ends_illegal c.args.world.now c.args.judge.now c.cell_count-count.result
    c.cell_count-count.ensures.count c.in-Some.cell c.in-Some.ensures

pub returns-in-Some-first_unlit : goal.returns-in-Some-first_unlit
returns-in-Some-first_unlit c =
    ends_left c.args.world.now c.args.judge.now c.cell_count-count.result c.cell_count-count.ensures.count
    c.in-Some-first_unlit.cell c.in_default.ensures c.in-Some-first_unlit.ensures

pub returns-in-Some-2 : goal.returns-in-Some-2
returns-in-Some-2 c = ends_regions c.args.world.now c.args.judge.now c.cell_count-count.result
    c.cell_count-count.ensures.count c.in-Some-2.cell c.in_default.ensures c.in_default-first_unlit.ensures
    (subst (λ (o : Option ℕ). DecidesBad c.args.world.now c.args.judge.now.lists c.args.judge.now.regions
    (cell_count c.args.world.now.size) o) c.in-Some-2.is c.in_ok-cell.ensures)

pub returns : goal.returns
returns c = ends_nodes c.args.world.now c.args.judge.now c.cell_count-count.result c.cell_count-count.ensures.count
    c.reason_of_nodes.result c.in_default.ensures c.in_default-first_unlit.ensures
    (subst (λ (o : Option ℕ). DecidesBad c.args.world.now c.args.judge.now.lists c.args.judge.now.regions
    (cell_count c.args.world.now.size) o) c.in_default-2.is c.in_ok-cell.ensures)
    c.reason_of_nodes.ensures
