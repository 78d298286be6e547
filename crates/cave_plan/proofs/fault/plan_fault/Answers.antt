use Rattle.std.proofs.Common.{◌∙◌, ap, sym}
use Rattle.cave_plan.specs.Faults.{of_cover}
use Rattle.cave_plan.proofs.FaultLemmas.{told_at}
use Rattle.cave_plan.proofs.fault.plan_fault.Goals as goal

pub returns-in-Unlightable : goal.returns-in-Unlightable
returns-in-Unlightable c = told_at c.args.world.now c.in-Unlightable.cell c.size.result c.coordinates.result
    c.size.ensures.size c.coordinates.ensures.coordinates
    ∙ ap (of_cover c.args.world.now.size) (sym c.in-Unlightable.is)
