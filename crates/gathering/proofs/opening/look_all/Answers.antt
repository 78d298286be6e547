use Rattle.std.proofs.Common.{◌+◌, [], ◌∷◌, drop, refl, ap, arith}
use Rattle.schedule_law.specs.Listing.{looks}
use Rattle.event_core.specs.Kept.{state_of}
use Rattle.event_core.specs.declared.event.Event.TheVariants.{Look}
use Rattle.gathering.proofs.PlayLemmas.{plays_one, leads_start, leads_next, leads_end, drop_at, drop_end}
use Rattle.gathering.proofs.opening.look_all.Goals as goal

pub loop-work-init : goal.loop-work-init
loop-work-init c = (refl, leads_start (state_of c.args.core.now) (looks 0 c.args.works.now))

pub overflow_add-worker : goal.overflow_add-worker
overflow_add-worker c = omega (arith, c.requires.few, c.loop-work.invariant.0, c.loop-work-test.true)

pub loop-work-preserved : goal.loop-work-preserved
loop-work-preserved c =
    let works = c.args.works.now in let i = c.loop-work.work-index in let w = c.loop-work.worker in (
      omega (arith, c.loop-work.invariant.0),
      leads_next (state_of c.args.core.now) (looks 0 works) (state_of c.loop-work.core) (looks w (drop i works))
          (Look w ∷ [])
          (looks (w + 1) (drop (i + 1) works)) (state_of c.step.new.self) c.loop-work.invariant.1
          (ap (looks w) (drop_at works i c.work-item.result c.loop-work-test.true c.work-item.is))
          (plays_one c.loop-work.core (Look w) c.step.new.self c.in_ok-step.field-0 c.in_ok-step.ensures.done),
    )

pub returns : goal.returns
returns c =
    let works = c.args.works.now in let i = c.loop-work.work-index in let w = c.loop-work.worker in
    leads_end (state_of c.args.core.now) (looks 0 works) (state_of c.loop-work.core) (looks w
    (drop i works)) c.loop-work.invariant.1
    (ap (looks w) (drop_end works i c.loop-work-test.false))
