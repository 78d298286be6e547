use Rattle.std.proofs.Common.{◌∙◌}
use Rattle.cave_plan.proofs.UpToLemmas.{found_is}
use Rattle.cave_plan.proofs.drawing.is_torch.Goals as goal

pub returns : goal.returns
returns c = c.is_some.ensures ∙ found_is c.args.torches.now c.args.cell c.find.result c.find.ensures
