use Rattle.std.proofs.Common.{◌<◌, ◌∙◌, length, ap, sym, subst, arith}
use Rattle.std.proofs.lemmas.Bool.{true≢false, false≢true}
use Rattle.proof_tree.specs.declared.proof.Proof.{Proof}
use Rattle.proof_tree.specs.Shape.{tree_of, tree_size}
use Rattle.tree_judges.specs.Omission.{Avoids}
use Rattle.tree_judges.proofs.KidLemmas.{tree_below}
use Rattle.tree_judges.proofs.OmissionLemmas.{avoid_next, avoid_at}
use Rattle.tree_judges.proofs.omission.+avoiding.Goals as goal

pub all_avoid-avoids-requires : goal.all_avoid-avoids-requires
all_avoid-avoids-requires t c =
    let i = c.loop-index.index in let trees = c.args.trees.now in
    let inside : i < length trees = omega arith in
    let below = tree_below trees i c.index-trees-index.result inside in
    let same = ap (λ (p : Proof). tree_size (tree_of p)) c.index-trees-index.is in
    (omega (arith, below, same, c.decreases), tt)

pub all_avoid-loop-index-preserved : goal.all_avoid-loop-index-preserved
all_avoid-loop-index-preserved t c =
    avoid_next c.args.omitted.now c.args.trees.now c.loop-index.index c.index-trees-index.result (omega arith)
    c.index-trees-index.is c.loop-index.invariant (c.avoids.ensures.0 c.if-not-avoids.false)

pub all_avoid-returns-then-not-avoids : goal.all_avoid-returns-then-not-avoids
all_avoid-returns-then-not-avoids t c = (
  λ so. absurd (false≢true so),
  λ all. absurd (true≢false (sym (c.avoids.ensures.1 (subst (λ (p : Proof). Avoids c.args.omitted.now (tree_of p))
      (sym c.index-trees-index.is)
      (avoid_at c.args.omitted.now c.args.trees.now c.loop-index.index c.index-trees-index.result (omega arith) all)))
      ∙ c.if-not-avoids.true)),
)
