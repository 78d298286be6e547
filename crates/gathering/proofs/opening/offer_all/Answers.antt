use Rattle.std.proofs.Common.{◌∙◌, ◌+◌, ◌++◌, Option, drop, refl, sym, ap, arith}
use Rattle.instance_regions.specs.Cover.{Covering}
use Rattle.schedule_law.specs.Listing.{offers, offer_of}
use Rattle.schedule_law.specs.Worked.{Worked}
use Rattle.event_core.specs.Kept.{state_of}
use Rattle.gathering.proofs.PlayLemmas.{leads_start, leads_next, leads_end, drop_at, drop_end}
use Rattle.gathering.proofs.opening.offer_all.Goals as goal

pub loop-work-init : goal.loop-work-init
loop-work-init c = (refl, leads_start (state_of c.args.core.now) (offers 0 c.args.works.now))

pub overflow_add-worker : goal.overflow_add-worker
overflow_add-worker c = omega (arith, c.requires.few, c.loop-work.invariant.0, c.loop-work-test.true)

pub loop-work-preserved : goal.loop-work-preserved
loop-work-preserved c =
    let works = c.args.works.now in let i = c.loop-work.work-index in let w = c.loop-work.worker in
    let next = offers (w + 1) (drop (i + 1) works) in
    let cover = ap (λ (x : Worked). x.cover) c.work.view_is in
    let whole = ap (offers w) (drop_at works i c.work-item.result c.loop-work-test.true c.work-item.is)
    ∙ ap (λ (o : Option Covering). offer_of w o ++ next) (sym cover) in (
      omega (arith, c.loop-work.invariant.0),
      leads_next (state_of c.args.core.now) (offers 0 works) (state_of c.loop-work.core) (offers w (drop i works))
          (offer_of w c.work.inside.cover) next (state_of c.offer_one.new.core) c.loop-work.invariant.1 whole
          c.in_ok-offer_one.ensures,
    )

pub returns : goal.returns
returns c =
    let works = c.args.works.now in let i = c.loop-work.work-index in let w = c.loop-work.worker in
    leads_end (state_of c.args.core.now) (offers 0 works) (state_of c.loop-work.core) (offers w
    (drop i works)) c.loop-work.invariant.1
    (ap (offers w) (drop_end works i c.loop-work-test.false))
