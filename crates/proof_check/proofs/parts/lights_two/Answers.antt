use Rattle.std.proofs.Common.{List, ℕ, sym, subst, ◌∙◌}
use Rattle.proof_check.specs.Homes.{DecidesTwo}
use Rattle.proof_check.proofs.PartLemmas.{lights_some}
use Rattle.proof_check.proofs.parts.lights_two.Goals as goal

pub returns-clause-lights : goal.returns-clause-lights
returns-clause-lights c = lights_some c.args.world.now c.args.lists.now c.args.regions.now c.args.place
    c.in_ok-cells.cells.items c.are_two.result (sym c.is_place.ensures ∙ c.if-not-is_place.false)
    c.in_ok-cells.ensures.lit
    (subst (λ (l : List ℕ). DecidesTwo l c.args.regions.now c.are_two.result) c.deref.ensures.value c.are_two.ensures)
