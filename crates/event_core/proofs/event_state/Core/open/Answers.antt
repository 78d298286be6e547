use Rattle.std.proofs.Common.{List, ℕ, Option, ◌∙◌, ap, refl, sym, subst}
use Rattle.event_core.specs.Events.{Does, opening_on}
use Rattle.event_core.specs.Moving.{IsMade}
use Rattle.event_core.specs.NodeShape.{shape_of}
use Rattle.event_core.specs.Sound.{IsSoundState}
use Rattle.event_core.specs.State.{Way}
use Rattle.event_core.specs.Kept.{Kept, state_of, put_kept}
use Rattle.event_core.specs.declared.node.PieceNode.{PieceNode}
use Rattle.event_core.proofs.MoveLemmas.{opens, opened_whole, opening_enabled, opening_does}
use Rattle.event_core.proofs.RunLemmas.{does_sound}
use Rattle.event_core.proofs.event_state.Core.open.Goals as goal

pub turn-requires-clause-whole : goal.turn-requires-clause-whole
turn-requires-clause-whole c =
    let kept = c.args.self.now in let name = c.args.name.now in let node = c.in-Some.node in
    let way : Way = record { bars = c.args.bars.now; on = c.args.on } in
    let made = subst (λ (o : Option PieceNode). IsMade kept name way o) c.in-Some.is c.in_ok-made.ensures.made in
    opened_whole kept name way node made.0 made.1

pub turn-requires-clause-sound : goal.turn-requires-clause-sound
turn-requires-clause-sound c =
    let kept = c.args.self.now in let name = c.args.name.now in let node = c.in-Some.node in
    let way : Way = record { bars = c.args.bars.now; on = c.args.on } in
    let made = subst (λ (o : Option PieceNode). IsMade kept name way o) c.in-Some.is c.in_ok-made.ensures.made in
    subst (λ (n : List ℕ). IsSoundState (state_of (put_kept kept n (shape_of node)))) (sym c.as_slice.ensures)
    (does_sound (state_of kept) (opening_on name way.bars way.on) (state_of (put_kept kept name (shape_of node)))
    c.in_ok-made.ensures.kept.sound ((opening_enabled (state_of kept) name way.bars way.on).0 made.0)
    ((opening_does (state_of kept) name way.bars way.on (state_of (put_kept kept name (shape_of node)))).0
    (opens kept name way node made.0 made.1)))

pub returns-in-Some-clause-done : goal.returns-in-Some-clause-done
returns-in-Some-clause-done c =
    let kept = c.args.self.now in let name = c.args.name.now in let node = c.in-Some.node in
    let way : Way = record { bars = c.args.bars.now; on = c.args.on } in
    let made = subst (λ (o : Option PieceNode). IsMade kept name way o) c.in-Some.is c.in_ok-made.ensures.made in
    let turned = c.turn.ensures ∙ ap (λ (n : List ℕ). put_kept kept n (shape_of node)) c.as_slice.ensures in (
      (opening_enabled (state_of kept) name way.bars way.on).0 made.0,
      subst (λ (k : Kept). Does (state_of kept) (opening_on name way.bars way.on) (state_of k)) (sym turned)
          ((opening_does (state_of kept) name way.bars way.on (state_of (put_kept kept name (shape_of node)))).0
          (opens kept name way node made.0 made.1)),
    )

pub returns-in-None-clause-done : goal.returns-in-None-clause-done
returns-in-None-clause-done c =
    let kept = c.args.self.now in let name = c.args.name.now in
    let way : Way = record { bars = c.args.bars.now; on = c.args.on } in
    let made = subst (λ (o : Option PieceNode). IsMade kept name way o) c.in-None.is c.in_ok-made.ensures.made in
    (λ e. made ((opening_enabled (state_of kept) name way.bars way.on).1 e), refl)
