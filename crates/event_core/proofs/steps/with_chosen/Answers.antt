use Rattle.std.proofs.Common.{◌++◌, ap, ◌∙◌, sym, arith}
use Rattle.proof_tree.specs.Opened.{Step}
use Rattle.event_core.proofs.KidLemmas.{inside_cell, step_on_cell}
use Rattle.event_core.proofs.steps.with_chosen.Goals as goal

pub offset_bounds-places-number : goal.offset_bounds-places-number
offset_bounds-places-number c =
    let inside = inside_cell c.args.on c.in-Cell.field-0 c.args.places.now c.args.number c.in-Cell.is c.requires in
    omega (arith, inside)

pub bounds-places-number : goal.bounds-places-number
bounds-places-number c =
    inside_cell c.args.on c.in-Cell.field-0 c.args.places.now c.args.number c.in-Cell.is c.requires

pub returns-in_ok-push-in-Cell : goal.returns-in_ok-push-in-Cell
returns-in_ok-push-in-Cell c =
    c.in_ok-push-in-Cell.ensures.items ∙ ap (λ (s : Step). c.args.chosen.items ++ s.chosen)
    (sym (step_on_cell c.args.on c.in-Cell.field-0 c.args.places.now c.args.number c.in-Cell.is c.requires))
