use Rattle.std.proofs.Common.{Contains, sym}
use Rattle.std.proofs.lemmas.Bool.{true≢false}
use Rattle.node_judges.proofs.TestLemmas.{each_more, each_element, off_true}
use Rattle.node_judges.proofs.testing.meet_open.Goals.{else-has-via-then-has+else-not-has, else-has-via-else-has}
use Rattle.node_judges.proofs.testing.meet_open.Goals as goal

pub loop-place-preserved : goal.loop-place-preserved
loop-place-preserved c = each_more (λ p. Contains c.args.tally.now.items p → (¬ Contains c.args.barred.now.items p) → ⊥)
    c.args.places.now c.loop-place.place-index c.loop-place.invariant
    (elim c.else-has.branch [
      | else-has-via-then-has+else-not-has w ↦ λ has free. free (w.has-then-has.ensures.has.0 w.if-not-has.false)
      | else-has-via-else-has w ↦ λ has free. off_true c.has.result w.if-has.false (c.has.ensures.has.1 has)
    ])

pub returns : goal.returns
returns c = (
  λ t. absurd (true≢false (sym t)),
  λ m. absurd (each_element (λ p. Contains c.args.tally.now.items p → (¬ Contains c.args.barred.now.items p) → ⊥)
      c.args.places.now c.loop-place.place-index c.loop-place-test.false c.loop-place.invariant m.0 m.1 m.3 m.2),
)
