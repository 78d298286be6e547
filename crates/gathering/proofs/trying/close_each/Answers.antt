use Rattle.std.proofs.Common.{◌≡◌, ◌+◌, Bool, length, ap, arith, subst, true, false}
use Rattle.std.proofs.lemmas.List.{nil_from_length}
use Rattle.event_core.specs.Kept.{state_of}
use Rattle.gathering.specs.Playing.{TriesClose}
use Rattle.gathering.proofs.CountLemmas.{counts_start_at, counts_next, counts_end}
use Rattle.gathering.proofs.trying.close_each.Goals as goal

pub loop-closed-init : goal.loop-closed-init
loop-closed-init c =
    let same = c.into_iter-closed-iterator.ensures.into_iter_gives.0 in (
      counts_start_at (state_of c.args.core.now) c.args.worker c.args.pieces.items
          c.into_iter-closed-iterator.result.rest.items same,
      omega (arith, ap length same),
    )

pub overflow_add-count : goal.overflow_add-count
overflow_add-count c = omega (
  arith,
  c.loop-closed.invariant.1,
  ap length c.in-Some.ensures.steps.0,
  c.args.pieces.small,
  c.args.pieces.ok,
)

pub loop-closed-preserved : goal.loop-closed-preserved
loop-closed-preserved c =
    let old = state_of c.args.core.now in let now = state_of c.loop-closed.core in
    let next = state_of c.close_one.new.core in
    let count = c.loop-closed.count in let closed = c.in-Some.closed in let w = c.args.worker in (
      counts_next old w c.args.pieces.items count count now closed c.loop-closed.closed-iterator.rest.items
          c.next.new.self.rest.items false next
          c.loop-closed.invariant.0 c.in-Some.ensures.steps.0
          (subst (λ (b : Bool). TriesClose now w closed b next) c.if-branch.false c.in_ok-close_one.ensures)
          (omega arith),
      omega (arith, c.loop-closed.invariant.1, ap length c.in-Some.ensures.steps.0),
    )

pub loop-closed-preserved-then-branch : goal.loop-closed-preserved-then-branch
loop-closed-preserved-then-branch c =
    let old = state_of c.args.core.now in let now = state_of c.loop-closed.core in
    let next = state_of c.close_one.new.core in
    let count = c.loop-closed.count in let closed = c.in-Some.closed in let w = c.args.worker in (
      counts_next old w c.args.pieces.items count (count + 1) now closed c.loop-closed.closed-iterator.rest.items
          c.next.new.self.rest.items true next
          c.loop-closed.invariant.0 c.in-Some.ensures.steps.0
          (subst (λ (b : Bool). TriesClose now w closed b next) c.if-branch.true c.in_ok-close_one.ensures)
          (omega arith),
      omega (arith, c.loop-closed.invariant.1, ap length c.in-Some.ensures.steps.0),
    )

pub returns : goal.returns
returns c =
    let rest = c.loop-closed.closed-iterator.rest in
    let none : length rest.items ≡ 0 = omega (arith, c.in-None.ensures.steps.0, rest.ok.0) in
    counts_end (state_of c.args.core.now) c.args.worker c.args.pieces.items c.loop-closed.count
    (state_of c.loop-closed.core) rest.items
    c.loop-closed.invariant.0 (nil_from_length rest.items none)
