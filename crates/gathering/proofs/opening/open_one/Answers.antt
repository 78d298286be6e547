use Rattle.std.proofs.Common.{◌≡◌, ◌∙◌, [], List, ℕ, Bool, length, refl, sym, ap, subst, arith}
use Rattle.std.specs.Prelude.{if◌then◌else◌}
use Rattle.std.proofs.lemmas.Bool.{eq-eqb}
use Rattle.proof_tree.specs.Opened.{Split}
use Rattle.proof_tree.specs.Piece.{Subproblem}
use Rattle.event_core.specs.Kept.{state_of, StepsTo}
use Rattle.event_core.specs.Plays.{Plays}
use Rattle.event_core.specs.declared.event.Event.{Event}
use Rattle.event_core.specs.declared.event.Event.TheVariants.{Take, Leave}
use Rattle.event_core.proofs.KeptLemmas.{steps_are_events}
use Rattle.schedule_law.specs.Listing.{opening_of}
use Rattle.gathering.specs.Playing.{tries_one, tries_open}
use Rattle.gathering.proofs.opening.open_one.Goals as goal

-- a piece whose name has the length is opened
as_long : (size worker : ℕ) (split : Split) → length split.piece.name ≡ size
    → tries_one size worker split ≡ tries_open worker split
as_long size worker split long =
    ap (λ (is : Bool). if is then tries_open worker split else []) (eq-eqb (length split.piece.name) size long)

pub returns : goal.returns
returns c =
    let w = c.args.worker in let split = c.args.split.now in let name = split.piece.name in
    let named = c.name-name.ensures ∙ ap (λ (p : Subproblem). p.name) c.piece.ensures.piece in
    let k0 = c.args.core.now in let k1 = c.step.new.self in let k2 = c.step-2.new.self in let k3 = c.step-3.new.self in
    let b1 = c.in_ok-step.field-0 in let b2 = c.in_ok-step-2.field-0 in let b3 = c.in_ok-step-3.field-0 in
    let takes = subst (λ (n : List ℕ). StepsTo k0 (Take w n) k1 b1) (c.in_ok-try_clone.ensures
    ∙ named) c.in_ok-step.ensures.done in
    let opens = subst (λ (e : Event). StepsTo k1 e k2 b2) c.in_ok-opening.ensures c.in_ok-step-2.ensures.done in
    let leaves = subst (λ (n : List ℕ). StepsTo k2 (Leave w n) k3 b3) (c.in_ok-try_clone-2.ensures
    ∙ named) c.in_ok-step-3.ensures.done in
    let long : length name ≡ c.args.size =
    (let a = ap length (c.as_slice.ensures ∙ named) in omega (arith, c.if-as_slice-size.false, a)) in
    let plays : Plays (state_of k0) (tries_open w split) (state_of k3) = (
      b1,
      state_of k1,
      steps_are_events k0 (Take w name) k1 b1 takes,
      (
        b2,
        state_of k2,
        steps_are_events k1 (opening_of split) k2 b2 opens,
        (b3, state_of k3, steps_are_events k2 (Leave w name) k3 b3 leaves, refl),
      ),
    ) in
    subst (λ l. Plays (state_of k0) l (state_of k3)) (sym (as_long c.args.size w split long)) plays
