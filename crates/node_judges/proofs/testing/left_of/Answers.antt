use Rattle.node_judges.proofs.TestLemmas.{left_take, left_skip, off_true}
use Rattle.node_judges.proofs.testing.left_of.Goals.{then-not-has+in_ok-push, else-not-has}
use Rattle.node_judges.proofs.testing.left_of.Goals as goal

pub loop-place-preserved : goal.loop-place-preserved
loop-place-preserved c = elim c.if-not-has.branch [
  | then-not-has+in_ok-push w ↦ rw (w.left-is, w.in_ok-push.ensures.items)
      (left_take c.args.places.now c.args.barred.now.items c.loop-place.left.items c.loop-place.place-index
      c.requires.ascending c.loop-place-test.true c.loop-place.invariant
      (λ has. off_true c.has.result w.if-not-has.true (c.has.ensures.has.1 has)))
  | else-not-has w ↦ rw w.left-is
      (left_skip c.args.places.now c.args.barred.now.items c.loop-place.left.items c.loop-place.place-index
      c.loop-place-test.true c.loop-place.invariant (c.has.ensures.has.0 w.if-not-has.false))
]
