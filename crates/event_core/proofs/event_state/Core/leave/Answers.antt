use Rattle.std.proofs.Common.{◌≡◌, ℕ, refl, sym, subst, arith}
use Rattle.event_core.specs.State.{HasPart, held, waiting}
use Rattle.event_core.specs.Events.{MayLeave, Turns}
use Rattle.event_core.specs.Shape.{at_rest}
use Rattle.event_core.specs.Kept.{Kept, state_of, put_kept}
use Rattle.event_core.specs.Tracing.{IsStanding}
use Rattle.event_core.specs.declared.event.Event.TheVariants.{Leave}
use Rattle.event_core.proofs.MoveLemmas.{leave_turns}
use Rattle.event_core.proofs.RunLemmas.{does_sound}
use Rattle.event_core.proofs.event_state.Core.leave.Goals as goal

pub turn-requires-clause-sound : goal.turn-requires-clause-sound
turn-requires-clause-sound c =
    let kept = c.args.self.now in let name = c.args.name.now in
    let holds = subst (IsStanding (state_of kept) name) c.in-Held.is c.in_ok-standing.ensures.standing in
    let by : c.in-Held.by ≡ c.args.worker = omega (arith, c.if-by-worker.false) in
    let may : MayLeave (state_of kept) c.args.worker name = record {
      known = c.has_worker.ensures.0 c.if-not-has_worker.false;
      chosen = holds.0;
      barred = holds.1;
      holds = subst (λ (n : ℕ). HasPart (state_of kept) name holds.0 holds.1 (held n)) by holds.2;
    } in
    does_sound (state_of kept) (Leave c.args.worker name) (state_of (put_kept kept name at_rest))
    c.in_ok-standing.ensures.kept.sound may (leave_turns kept c.args.worker name may)

pub returns-else-by-worker-clause-done : goal.returns-else-by-worker-clause-done
returns-else-by-worker-clause-done c =
    let kept = c.args.self.now in let name = c.args.name.now in
    let holds = subst (IsStanding (state_of kept) name) c.in-Held.is c.in_ok-standing.ensures.standing in
    let by : c.in-Held.by ≡ c.args.worker = omega (arith, c.if-by-worker.false) in
    let may : MayLeave (state_of kept) c.args.worker name = record {
      known = c.has_worker.ensures.0 c.if-not-has_worker.false;
      chosen = holds.0;
      barred = holds.1;
      holds = subst (λ (n : ℕ). HasPart (state_of kept) name holds.0 holds.1 (held n)) by holds.2;
    } in (
      may,
      subst (λ (k : Kept). Turns (state_of kept) name waiting (state_of k)) (sym c.turn.ensures)
          (leave_turns kept c.args.worker name may),
    )

pub returns-in-Past-clause-done : goal.returns-in-Past-clause-done
returns-in-Past-clause-done c =
    let past = subst (IsStanding (state_of c.args.self.now) c.args.name.now)
    c.in-Past.is c.in_ok-standing.ensures.standing in
    (λ may. absurd (past may.chosen may.barred (held c.args.worker) may.holds tt), refl)
