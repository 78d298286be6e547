use Rattle.std.proofs.Common.{ap, sym, ◌∙◌}
use Rattle.std.specs.Prelude.{is_some}
use Rattle.cave_model.proofs.PlaceLemmas.{some_place, place_some}
use Rattle.cave_problem.proofs.places.is_place.Goals as goal

pub returns : goal.returns
returns c = (
  λ t. some_place c.args.world.now c.args.cell (sym (c.is_some.ensures ∙ ap is_some c.hang_of.ensures) ∙ t),
  λ place. (c.is_some.ensures ∙ ap is_some c.hang_of.ensures) ∙ place_some c.args.world.now c.args.cell place,
)
