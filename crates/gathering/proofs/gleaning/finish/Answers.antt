use Rattle.event_core.specs.Kept.{state_of}
use Rattle.event_core.specs.declared.event.Event.TheVariants.{Look, Offer, Close}
use Rattle.event_core.proofs.KeptLemmas.{steps_are_events}
use Rattle.gathering.proofs.GleanLemmas.{step_done, may_offer, may_look, may_close}
use Rattle.gathering.proofs.gleaning.finish.Goals as goal

pub returns : goal.returns
returns c =
    let w = c.args.caller in let closed = c.args.closed in let cover = c.args.cover in let may = c.requires in
    let k0 = c.args.core.now in let k1 = c.step.new.self in let k2 = c.step-2.new.self in let k3 = c.step-3.new.self in
    let s0 = state_of k0 in let s1 = state_of k1 in let s2 = state_of k2 in let s3 = state_of k3 in
    let b1 = c.in_ok-step.field-0 in let b2 = c.in_ok-step-2.field-0 in let b3 = c.in_ok-step-3.field-0 in
    let covers = c.size.ensures.kept in let proved = c.floor_of.ensures.closed in
    let offers = step_done s0 (Offer w cover) b1 s1 (may_offer s0 w closed cover may covers proved)
    (steps_are_events k0 (Offer w cover) k1 b1 c.in_ok-step.ensures.done) in
    let looks = step_done s1 (Look w) b2 s2 (may_look s0 w closed cover may covers proved s1 offers.1)
    (steps_are_events k1 (Look w) k2 b2 c.in_ok-step-2.ensures.done) in
    let closes = step_done s2 (Close w closed) b3 s3 (may_close s0 w closed cover may covers proved s1 s2 offers.1
    looks.1)
    (steps_are_events k2 (Close w closed) k3 b3 c.in_ok-step-3.ensures.done) in
    record { offered = s1; offers = offers; seen = s2; looks = looks; closes = closes }
