use Rattle.std.proofs.Common.{◌++◌, ap, ◌∙◌, sym, arith}
use Rattle.std.proofs.lemmas.List.{length-take-le}
use Rattle.proof_tree.specs.Opened.{Step}
use Rattle.event_core.proofs.KidLemmas.{inside_cell, step_on_cell}
use Rattle.event_core.proofs.steps.with_barred.Goals as goal

pub slice_bounds-extend_from_slice-end : goal.slice_bounds-extend_from_slice-end
slice_bounds-extend_from_slice-end c =
    let inside = inside_cell c.args.on c.in-Cell.field-0 c.args.places.now c.args.number c.in-Cell.is c.requires in
    sym (length-take-le c.args.number c.args.places.now (omega (arith, inside)))

pub returns-in_ok-extend_from_slice-in-Cell : goal.returns-in_ok-extend_from_slice-in-Cell
returns-in_ok-extend_from_slice-in-Cell c =
    c.in_ok-extend_from_slice-in-Cell.ensures.items ∙ ap (λ (s : Step). c.args.barred.items ++ s.barred)
    (sym (step_on_cell c.args.on c.in-Cell.field-0 c.args.places.now c.args.number c.in-Cell.is c.requires))
