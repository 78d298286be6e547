use Rattle.std.proofs.Common.{◌∙◌, List, ℕ, ap, subst}
use Rattle.proof_tree.specs.Piece.{Subproblem}
use Rattle.event_core.specs.Kept.{state_of, StepsTo}
use Rattle.event_core.specs.declared.event.Event.TheVariants.{Take, Close, Leave}
use Rattle.event_core.proofs.KeptLemmas.{steps_are_events}
use Rattle.gathering.proofs.trying.close_one.Goals as goal

pub returns : goal.returns
returns c =
    let w = c.args.worker in let closed = c.args.closed in let name = closed.piece.name in
    let k0 = c.args.core.now in let k1 = c.step.new.self in let k2 = c.step-2.new.self in let k3 = c.step-3.new.self in
    let b1 = c.in_ok-step.field-0 in let b2 = c.in_ok-done.done in let b3 = c.in_ok-step-2.field-0 in
    let named = c.in_ok-name.ensures ∙ c.name.ensures ∙ ap (λ (p : Subproblem). p.name) c.piece.ensures.piece in
    let takes = subst (λ (n : List ℕ). StepsTo k0 (Take w n) k1 b1) named c.in_ok-step.ensures.done in
    let leaves = subst (λ (n : List ℕ). StepsTo k2 (Leave w n) k3 b3) (c.in_ok-again.ensures
    ∙ named) c.in_ok-step-2.ensures.done in
    record {
      took = b1;
      taken = state_of k1;
      takes = steps_are_events k0 (Take w name) k1 b1 takes;
      tried = state_of k2;
      closes = steps_are_events k1 (Close w closed) k2 b2 c.in_ok-done.ensures.done;
      left = b3;
      leaves = steps_are_events k2 (Leave w name) k3 b3 leaves;
    }
