use Rattle.std.proofs.Common.{◌≡◌, ℕ, List, ◌++◌, slice_index, Contains, sym, ap, subst, ◌∙◌, arith}
use Rattle.node_judges.specs.Settings.{left_in}
use Rattle.node_judges.specs.Tests.{MeetOpen, lit_by}
use Rattle.node_judges.proofs.TestLemmas.{element_of, off_true}
use Rattle.node_judges.proofs.LeafLemmas.{marking_more, met}
use Rattle.node_judges.proofs.leaf.are_apart.Goals as goal

pub returns-then-not-is_free-clause-apart : goal.returns-then-not-is_free-clause-apart
returns-then-not-is_free-clause-apart c = λ once a.
    off_true c.is_free.result c.if-not-is_free.true
    (c.is_free.ensures.free.1 (a.free (slice_index c.args.these.now c.loop-cell.cell-index)
    (element_of c.args.these.now c.loop-cell.cell-index c.loop-cell-test.true)))

pub returns-then-meet_open-clause-apart : goal.returns-then-meet_open-clause-apart
returns-then-meet_open-clause-apart c =
    let m = subst (λ (l : List ℕ). MeetOpen l c.args.setting.now.barred.now.items c.loop-cell.seen.items)
    c.lit_by-places.ensures
    (c.meet_open.ensures.0 c.if-meet_open.true) in
    met c.args.setting.now.lists.now (left_in c.args.setting.now) c.args.setting.now.chosen.now.items
    c.args.setting.now.barred.now.items c.args.these.now
    c.loop-cell.seen.items c.loop-cell.cell-index c.loop-cell-test.true c.loop-cell.invariant.marking m

pub loop-cell-preserved : goal.loop-cell-preserved
loop-cell-preserved c =
    let cell = slice_index c.args.these.now c.loop-cell.cell-index in
    let never = λ (m : MeetOpen (lit_by c.args.setting.now.lists.now cell) c.args.setting.now.barred.now.items
    c.loop-cell.seen.items).
    off_true c.meet_open.result c.if-meet_open.false
    (c.meet_open.ensures.1 (subst (λ (l : List ℕ). MeetOpen l c.args.setting.now.barred.now.items
    c.loop-cell.seen.items)
    (sym c.lit_by-places.ensures) m)) in
    let e = c.in_ok-mark.ensures.marked
    (λ place has. (let lt = c.requires.inside.each place cell
    (subst (λ (l : List ℕ). Contains l place) c.lit_by-places.ensures has) in
    omega (arith, c.loop-cell.invariant.whole))) in
    let f : c.mark.new.tally.items ≡ c.loop-cell.seen.items ++ lit_by c.args.setting.now.lists.now cell = e
    ∙ ap (λ (l : List ℕ). c.loop-cell.seen.items ++ l) c.lit_by-places.ensures in
    record {
      whole = c.in_ok-mark.ensures.whole ∙ c.loop-cell.invariant.whole;
      marking = rw f (marking_more c.args.setting.now.lists.now (left_in c.args.setting.now)
          c.args.setting.now.chosen.now.items
          c.args.setting.now.barred.now.items c.args.these.now c.loop-cell.seen.items c.loop-cell.cell-index
          c.loop-cell-test.true c.loop-cell.invariant.marking
          (c.is_free.ensures.free.0 c.if-not-is_free.false) never);
    }
