use Rattle.std.proofs.Common.{refl, sym, subst}
use Rattle.event_core.specs.State.{held, waiting}
use Rattle.event_core.specs.Events.{MayTake, Turns}
use Rattle.event_core.specs.Shape.{in_hand}
use Rattle.event_core.specs.Kept.{Kept, state_of, put_kept}
use Rattle.event_core.specs.Tracing.{IsStanding}
use Rattle.event_core.specs.declared.event.Event.TheVariants.{Take}
use Rattle.event_core.proofs.MoveLemmas.{take_turns}
use Rattle.event_core.proofs.RunLemmas.{does_sound}
use Rattle.event_core.proofs.event_state.Core.take.Goals as goal

pub turn-requires-clause-sound : goal.turn-requires-clause-sound
turn-requires-clause-sound c =
    let kept = c.args.self.now in let name = c.args.name.now in
    let waits = subst (IsStanding (state_of kept) name) c.in-Waiting.is c.in_ok-standing.ensures.standing in
    let may : MayTake (state_of kept) c.args.worker name = record {
      known = c.has_worker.ensures.0 c.if-not-has_worker.false;
      chosen = waits.0;
      barred = waits.1;
      waits = waits.2;
    } in
    does_sound (state_of kept) (Take c.args.worker name) (state_of (put_kept kept name (in_hand c.args.worker)))
    c.in_ok-standing.ensures.kept.sound may (take_turns kept c.args.worker name may)

pub returns-in-Waiting-clause-done : goal.returns-in-Waiting-clause-done
returns-in-Waiting-clause-done c =
    let kept = c.args.self.now in let name = c.args.name.now in
    let waits = subst (IsStanding (state_of kept) name) c.in-Waiting.is c.in_ok-standing.ensures.standing in
    let may : MayTake (state_of kept) c.args.worker name = record {
      known = c.has_worker.ensures.0 c.if-not-has_worker.false;
      chosen = waits.0;
      barred = waits.1;
      waits = waits.2;
    } in (
      may,
      subst (λ (k : Kept). Turns (state_of kept) name (held c.args.worker) (state_of k)) (sym c.turn.ensures)
          (take_turns kept c.args.worker name may),
    )

pub returns-in-Past-clause-done : goal.returns-in-Past-clause-done
returns-in-Past-clause-done c =
    let past = subst (IsStanding (state_of c.args.self.now) c.args.name.now)
    c.in-Past.is c.in_ok-standing.ensures.standing in
    (λ may. absurd (past may.chosen may.barred waiting may.waits tt), refl)
