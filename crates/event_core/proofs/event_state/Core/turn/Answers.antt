use Rattle.std.proofs.Common.{◌≡◌, sym, ap, ◌∙◌, subst}
use Rattle.std.specs.Arc.{arc_value}
use Rattle.event_core.specs.Sound.{IsSoundState}
use Rattle.event_core.specs.Shape.{Shape, put_in}
use Rattle.event_core.specs.NodeShape.{shape_of}
use Rattle.event_core.specs.Kept.{Kept, IsKept, state_of, put_kept}
use Rattle.event_core.proofs.KeptLemmas.{put_is_kept}
use Rattle.event_core.specs.declared.node.PieceNode.{PieceNode}
use Rattle.event_core.proofs.event_state.Core.turn.Goals as goal

pub invariant_of-self : goal.invariant_of-self
invariant_of-self c =
    let inside = c.self.inside in let name = c.args.name.now in let shape = shape_of c.args.node in
    let v : Kept = record {
      region = arc_value inside.region;
      best = inside.best.places;
      aim = inside.aim;
      seen = inside.seen.items;
      root = shape_of inside.root;
    } in
    let is : shape_of c.put.result ≡ put_in (shape_of inside.root) name shape = c.put.ensures
    ∙ ap (λ (n : PieceNode). put_in (shape_of n) name shape) c.replace-root.ensures.value in
    let sound = subst (λ (k : Kept). IsSoundState (state_of (put_kept k name shape)))
    (sym c.self.view_is) c.requires.sound in (
      c.self.invariant.0,
      subst (λ (s : Shape). IsKept (record v { root = s })) (sym is)
          (put_is_kept v name shape c.requires.whole sound c.self.invariant.1),
    )
