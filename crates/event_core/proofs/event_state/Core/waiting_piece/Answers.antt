use Rattle.std.proofs.Common.{List, [], ℕ, Option, refl, subst}
use Rattle.event_core.specs.Kept.{state_of}
use Rattle.event_core.specs.Shape.{part_in}
use Rattle.event_core.specs.Tracing.{IsTraced}
use Rattle.event_core.specs.declared.tracing.Traced.{Traced}
use Rattle.event_core.proofs.WaitingLemmas.{traced_there, part_is_piece}
use Rattle.event_core.proofs.event_state.Core.waiting_piece.Goals as goal

pub named-requires : goal.named-requires
named-requires c =
    let kept = c.args.self.now in let t = c.in-Some.traced in let name = c.args.name.now in
    let traced = subst (λ (n : List ℕ). IsTraced [] [] kept.root n c.in_ok-traced.field-0) c.as_slice.ensures
    c.in_ok-traced.ensures.traced in
    let there = traced_there kept name t.chosen.items t.barred.items t.standing (part_in [] [] kept.root name) refl
    (subst (λ (o : Option Traced). IsTraced [] [] kept.root name o) c.in-Some.is traced) in
    part_is_piece (state_of kept) c.in_ok-traced.ensures.kept.sound name t.chosen.items t.barred.items there.0 there.1
