use Rattle.std.proofs.Common.{sym, ap, subst, ◌∙◌}
use Rattle.proof_tree.specs.Piece.{Subproblem}
use Rattle.proof_tree.specs.Shape.{tree_of}
use Rattle.event_core.specs.State.{closed}
use Rattle.event_core.specs.Events.{Turns}
use Rattle.event_core.specs.Sound.{IsSoundState}
use Rattle.event_core.specs.Shape.{settled}
use Rattle.event_core.specs.Kept.{Kept, state_of, put_kept}
use Rattle.event_core.specs.declared.event.Event.TheVariants.{Close}
use Rattle.event_core.proofs.MoveLemmas.{close_turns, close_same}
use Rattle.event_core.proofs.RunLemmas.{does_sound}
use Rattle.event_core.proofs.event_state.Core.close.Goals as goal

pub turn-requires-clause-sound : goal.turn-requires-clause-sound
turn-requires-clause-sound c =
    let kept = c.args.self.now in let k = c.args.closed in let w = c.args.worker in
    let may = c.in_ok-may.ensures.may.0 c.if-not-may.false in
    let named = c.deref.ensures.value ∙ c.in_ok-name.ensures.items ∙ c.as_slice.ensures ∙ c.name.ensures
    ∙ ap (λ (p : Subproblem). p.name) c.piece.ensures.piece in
    let same = close_same kept k c.deref.result.now c.floor_of-floor.result (tree_of c.into_proof.result) named
    c.floor_of-floor.ensures.floor c.into_proof.ensures.tree in
    subst (λ (x : Kept). IsSoundState (state_of x)) (sym same)
    (does_sound (state_of kept) (Close w k) (state_of (put_kept kept k.piece.name (settled k.floor k.tree)))
    c.in_ok-may.ensures.kept.sound may (close_turns kept w k may))

pub returns-clause-done : goal.returns-clause-done
returns-clause-done c =
    let kept = c.args.self.now in let k = c.args.closed in let w = c.args.worker in
    let may = c.in_ok-may.ensures.may.0 c.if-not-may.false in
    let named = c.deref.ensures.value ∙ c.in_ok-name.ensures.items ∙ c.as_slice.ensures ∙ c.name.ensures
    ∙ ap (λ (p : Subproblem). p.name) c.piece.ensures.piece in
    let same = close_same kept k c.deref.result.now c.floor_of-floor.result (tree_of c.into_proof.result) named
    c.floor_of-floor.ensures.floor c.into_proof.ensures.tree in (
      may,
      subst (λ (x : Kept). Turns (state_of kept) k.piece.name (closed k.floor k.tree) (state_of x))
          (sym (c.turn.ensures ∙ same)) (close_turns kept w k may),
    )
