use Rattle.std.proofs.Common.{◌≡◌, List, length, ap, arith, subst}
use Rattle.std.proofs.lemmas.List.{nil_from_length}
use Rattle.proof_tree.specs.Piece.{Fathomed}
use Rattle.schedule_law.specs.Worked.{Worked}
use Rattle.event_core.specs.Kept.{state_of}
use Rattle.gathering.specs.Playing.{TriesCloses}
use Rattle.gathering.proofs.CountLemmas.{all_start_at, all_next, all_end}
use Rattle.gathering.proofs.trying.close_all.Goals as goal

pub loop-work-init : goal.loop-work-init
loop-work-init c =
    let same = c.into_iter-work-iterator.ensures.into_iter_gives.0 in (
      all_start_at (state_of c.args.core.now) c.args.works.items c.into_iter-work-iterator.result.rest.items
          c.in_ok-counts.counts.items
          c.in_ok-counts.ensures.items same,
      omega (arith, ap length same),
    )

pub overflow_add-worker : goal.overflow_add-worker
overflow_add-worker c = omega (arith, c.requires.few, c.loop-work.invariant.1, ap length c.in-Some.ensures.steps.0)

pub loop-work-preserved : goal.loop-work-preserved
loop-work-preserved c =
    let now = state_of c.loop-work.core in let next = state_of c.close_each.new.core in let w = c.loop-work.worker in
    let count = c.in_ok-close_each.field-0 in let closed = ap (λ (x : Worked). x.closed) c.work.view_is in (
      all_next (state_of c.args.core.now) c.args.works.items c.loop-work.counts.items c.push.new.self.items now w count
          c.in-Some.work
          c.loop-work.work-iterator.rest.items c.next.new.self.rest.items next c.loop-work.invariant.0
          c.in-Some.ensures.steps.0
          (subst (λ (l : List Fathomed). TriesCloses now w l count next) closed c.in_ok-close_each.ensures)
          c.in_ok-push.ensures.items,
      omega (arith, c.loop-work.invariant.1, ap length c.in-Some.ensures.steps.0),
    )

pub returns : goal.returns
returns c =
    let rest = c.loop-work.work-iterator.rest in
    let none : length rest.items ≡ 0 = omega (arith, c.in-None.ensures.steps.0, rest.ok.0) in
    all_end (state_of c.args.core.now) c.args.works.items c.loop-work.counts.items
    (state_of c.loop-work.core) c.loop-work.worker rest.items
    c.loop-work.invariant.0 (nil_from_length rest.items none)
