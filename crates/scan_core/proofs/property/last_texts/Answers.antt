use Rattle.std.proofs.Common.{◌-◌, ◌≤◌, length, drop, refl, arith}
use Rattle.scan_core.proofs.SeenLemmas.{from_here, step_again, step_first}
use Rattle.scan_core.proofs.property.last_texts.Goals as goal

pub loop-index-preserved-in-Continue-branch-2 : goal.loop-index-preserved-in-Continue-branch-2
loop-index-preserved-in-Continue-branch-2 c =
    let i = c.loop-index.index in
    let members = c.args.members.now in
    let found = c.index-members-index.result in
    let bound : i - 1 ≤ length members = omega arith in
    let here = from_here members i found c.loop-index-test.true c.loop-index.invariant.0 c.index-members-index.is in (
      bound,
      step_first (drop (i - 1) members) (drop i members) found c.loop-index.props.items
          c.push_text.new.props.items c.loop-index.seen c.insert.new.self found.0.now c.in_ok-insert.field-0 here
          c.loop-index.invariant.1 refl c.in_ok-insert.ensures.added c.if-branch.true c.in_ok-push_text.ensures
          c.in_ok-insert.ensures.updates.0,
    )

pub loop-index-preserved : goal.loop-index-preserved
loop-index-preserved c =
    let i = c.loop-index.index in
    let members = c.args.members.now in
    let found = c.index-members-index.result in
    let bound : i - 1 ≤ length members = omega arith in
    let here = from_here members i found c.loop-index-test.true c.loop-index.invariant.0 c.index-members-index.is in (
      bound,
      step_again (drop (i - 1) members) (drop i members) found c.loop-index.props.items c.loop-index.seen
          c.insert.new.self found.0.now c.in_ok-insert.field-0 here c.loop-index.invariant.1 refl
          c.in_ok-insert.ensures.added c.if-branch.false c.in_ok-insert.ensures.unchanged,
    )
