use Rattle.std.specs.Arc.{arc_value}
use Rattle.search_pool.proofs.CrewLemmas.{few_workers}
use Rattle.torch_plan.proofs.PlanLemmas.{plan_by_all}
use Rattle.torch_plan.proofs.crew.Crew.plan_region.Goals as goal

pub returns : goal.returns
returns g c =
    let number = c.args.self.now.workers.number in
    let some = (few_workers number c.args.self.now.workers.some).0 in
    plan_by_all number c.args.turns (arc_value c.args.region.now) c.plan_by.result some c.plan_by.ensures
