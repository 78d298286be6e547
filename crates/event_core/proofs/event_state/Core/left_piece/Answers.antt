use Rattle.std.proofs.Common.{List, [], ℕ, Option, Some, refl, sym, subst}
use Rattle.proof_tree.specs.Piece.{Subproblem}
use Rattle.event_core.specs.Kept.{state_of}
use Rattle.event_core.specs.Moving.{IsLeftPiece}
use Rattle.event_core.specs.Shape.{part_in}
use Rattle.event_core.specs.Tracing.{IsTraced}
use Rattle.event_core.specs.declared.tracing.Traced.{Traced}
use Rattle.event_core.proofs.MoveLemmas.{left_where}
use Rattle.event_core.proofs.WaitingLemmas.{traced_there, part_is_piece}
use Rattle.event_core.proofs.event_state.Core.left_piece.Goals as goal

pub named-requires : goal.named-requires
named-requires c =
    let kept = c.args.self.now in let t = c.in-Some.traced in let name = c.args.name.now in
    let traced = subst (λ (n : List ℕ). IsTraced [] [] kept.root n c.in_ok-traced.field-0) c.as_slice.ensures
    c.in_ok-traced.ensures.traced in
    let there = traced_there kept name t.chosen.items t.barred.items t.standing (part_in [] [] kept.root name) refl
    (subst (λ (o : Option Traced). IsTraced [] [] kept.root name o) c.in-Some.is traced) in
    part_is_piece (state_of kept) c.in_ok-traced.ensures.kept.sound name t.chosen.items t.barred.items there.0 there.1

pub returns-clause-left : goal.returns-clause-left
returns-clause-left c =
    let kept = c.args.self.now in let t = c.in-Some.traced in let name = c.args.name.now in
    let traced = subst (λ (n : List ℕ). IsTraced [] [] kept.root n c.in_ok-traced.field-0) c.as_slice.ensures
    c.in_ok-traced.ensures.traced in
    let there = traced_there kept name t.chosen.items t.barred.items t.standing (part_in [] [] kept.root name) refl
    (subst (λ (o : Option Traced). IsTraced [] [] kept.root name o) c.in-Some.is traced) in
    let left = left_where t.standing there.0 there.2 c.in_default-standing.not-Past in
    subst (λ (p : Subproblem). IsLeftPiece (state_of kept) name (Some p)) (sym c.in_ok-named.ensures)
    (refl, there.0, there.1, left)
