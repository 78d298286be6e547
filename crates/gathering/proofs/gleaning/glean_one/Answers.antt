use Rattle.std.proofs.Common.{◌∙◌, ℕ, List, Option, true, length, ap, sym, subst, arith}
use Rattle.instance_regions.specs.Cover.{Covering}
use Rattle.proof_tree.specs.Piece.{Subproblem}
use Rattle.event_core.specs.State.{HasPart, held}
use Rattle.event_core.specs.Kept.{state_of, StepsTo}
use Rattle.event_core.specs.Waiting.{IsWaitingPiece}
use Rattle.event_core.specs.declared.event.Event.TheVariants.{Take}
use Rattle.event_core.proofs.KeptLemmas.{steps_are_events}
use Rattle.gathering.proofs.GleanLemmas.{step_done, taken_piece}
use Rattle.gathering.proofs.LikeLemmas.{like_step}
use Rattle.gathering.proofs.gleaning.glean_one.Goals as goal

pub finish-requires : goal.finish-requires
finish-requires g c =
    let w = c.args.caller in let name = c.args.name.now in let piece = c.in-Some.piece in
    let k0 = c.args.core.now in let k1 = c.step.new.self in let s0 = state_of k0 in let s1 = state_of k1 in
    let done = c.in_ok-step.field-0 in
    let waits = subst (λ (o : Option Subproblem). IsWaitingPiece s0 name o) c.in-Some.is c.in_ok-piece.ensures in
    let takes = step_done s0 (Take w name) done s1 (record {
      known = c.requires.known;
      chosen = piece.chosen;
      barred =
          piece.barred;
      waits = waits.2;
    })
    (steps_are_events k0 (Take w name) k1 done
    (subst (λ (n : List ℕ). StepsTo k0 (Take w n) k1 done) c.in_ok-try_clone.ensures c.in_ok-step.ensures.done)) in
    let like = like_step s0 (Take w name) true s1 takes in let of_it = c.in-Ok.ensures.closed.of_it in
    let cover = c.in_ok-cover-in-Ok.ensures in
    let size = ap (λ (x : Covering). length x.places) cover in
    record {
      known = omega (arith, c.requires.known, like.workers);
      holds = subst (λ (p : Subproblem). HasPart s1 p.name p.chosen p.barred (held w)) (sym of_it)
          (taken_piece s0 w name s1 piece waits takes);
      piece_of_it = ap (λ (p : Subproblem). p.region) of_it ∙ waits.0 ∙ sym like.of_it;
      cover_of_it = ap (λ (x : Covering). x.region) cover ∙ c.cover.ensures.of_it
          ∙ c.in-Ok.ensures.onward.region ∙ c.requires.of_it ∙ sym like.of_it;
      reaches = omega (
        arith,
        size,
        c.requires.aimed,
        like.aimed,
        c.cover.ensures.kept,
        c.in-Ok.ensures.closed.reached,
      );
    }

pub returns-in-Ok-clause-gleans : goal.returns-in-Ok-clause-gleans
returns-in-Ok-clause-gleans g c =
    let w = c.args.caller in let name = c.args.name.now in let piece = c.in-Some.piece in
    let k0 = c.args.core.now in let k1 = c.step.new.self in let s0 = state_of k0 in let s1 = state_of k1 in
    let done = c.in_ok-step.field-0 in
    let waits = subst (λ (o : Option Subproblem). IsWaitingPiece s0 name o) c.in-Some.is c.in_ok-piece.ensures in
    let takes = step_done s0 (Take w name) done s1 (record {
      known = c.requires.known;
      chosen = piece.chosen;
      barred =
          piece.barred;
      waits = waits.2;
    })
    (steps_are_events k0 (Take w name) k1 done
    (subst (λ (n : List ℕ). StepsTo k0 (Take w n) k1 done) c.in_ok-try_clone.ensures c.in_ok-step.ensures.done)) in
    let rest = c.in_ok-finish-in-Ok.ensures in
    record {
      cover = c.in_ok-cover-in-Ok.cover;
      closed = c.in-Ok.closed;
      named = ap (λ (p : Subproblem). p.name) c.in-Ok.ensures.closed.of_it ∙ waits.1;
      taken = s1;
      takes = takes;
      offered = rest.offered;
      offers = rest.offers;
      seen = rest.seen;
      looks = rest.looks;
      closes = rest.closes;
    }
