use Rattle.std.proofs.Common.{List, [], ◌∷◌, ◌++◌, ap, ◌∙◌, sym, take}
use Rattle.proof_tree.specs.Piece.{Subproblem}
use Rattle.proof_tree.specs.Opened.{kids_from, steps_from}
use Rattle.proof_tree.proofs.KidLemmas.{kids_more}
use Rattle.proof_tree.proofs.kids.kids_on_cell.Goals as goal

pub loop-number-preserved : goal.loop-number-preserved
loop-number-preserved c =
    let piece = c.args.piece.now in let places = c.args.places.now in let n = c.loop-number.number in
    let before = kids_from piece 0 (steps_from [] (take n places)) in
    c.in_ok-push.ensures.items ∙ ap (λ (l : List Subproblem). l ++ c.in_ok-kid_on_cell.field-0 ∷ [])
    c.loop-number.invariant
    ∙ ap (λ (k : Subproblem). before ++ k ∷ []) c.in_ok-kid_on_cell.ensures
    ∙ sym (kids_more piece places n c.loop-number-test.true)
