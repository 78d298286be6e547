use Rattle.std.proofs.Common.{◌∙◌, ◌+◌, ◌++◌, List, drop, refl, sym, ap, arith}
use Rattle.proof_tree.specs.Opened.{Split}
use Rattle.schedule_law.specs.Worked.{Worked}
use Rattle.event_core.specs.Kept.{state_of}
use Rattle.gathering.specs.Playing.{tries, tries_as_long}
use Rattle.gathering.proofs.PlayLemmas.{leads_start, leads_next, leads_end, drop_at, drop_end}
use Rattle.gathering.proofs.opening.open_all.Goals as goal

pub loop-work-init : goal.loop-work-init
loop-work-init c = (refl, leads_start (state_of c.args.core.now) (tries c.args.size 0 c.args.works.now))

pub overflow_add-worker : goal.overflow_add-worker
overflow_add-worker c = omega (arith, c.requires.few, c.loop-work.invariant.0, c.loop-work-test.true)

pub loop-work-preserved : goal.loop-work-preserved
loop-work-preserved c =
    let works = c.args.works.now in let i = c.loop-work.work-index in let w = c.loop-work.worker in
    let size = c.args.size in
    let next = tries size (w + 1) (drop (i + 1) works) in
    let opened = c.deref.ensures.value ∙ ap (λ (x : Worked). x.opened) c.work.view_is in
    let whole = ap (tries size w) (drop_at works i c.work-item.result c.loop-work-test.true c.work-item.is)
    ∙ ap (λ (l : List Split). tries_as_long size w l ++ next) (sym opened) in (
      omega (arith, c.loop-work.invariant.0),
      leads_next (state_of c.args.core.now) (tries size 0 works) (state_of c.loop-work.core) (tries size w
          (drop i works))
          (tries_as_long size w c.deref.result.now) next (state_of c.open_each.new.core) c.loop-work.invariant.1 whole
          c.in_ok-open_each.ensures,
    )

pub returns : goal.returns
returns c =
    let works = c.args.works.now in let i = c.loop-work.work-index in let w = c.loop-work.worker in
    let size = c.args.size in
    leads_end (state_of c.args.core.now) (tries size 0 works) (state_of c.loop-work.core) (tries size w
    (drop i works)) c.loop-work.invariant.1
    (ap (tries size w) (drop_end works i c.loop-work-test.false))
