use Rattle.std.proofs.Common.{◌≡◌, ℕ, ◌<◌, get_or, Some, None, sym, ap, subst, ◌∙◌, arith}
use Rattle.std.proofs.lemmas.Bool.{true≢false}
use Rattle.cave_model.specs.Light.{entering_cost}
use Rattle.cave_model.proofs.NeighbourLemmas.{listed_inside}
use Rattle.cave_model.proofs.PassageLemmas.{goes_push, goes_skip, goes_on}
use Rattle.cave_model.proofs.passages.list_passages.Goals.{in-Some+then-lets_in+in_ok-push, in-Some+else-lets_in}
use Rattle.cave_model.proofs.passages.list_passages.Goals.{in_default}
use Rattle.cave_model.proofs.passages.list_passages.Goals as goal

pub lets_in-requires : goal.lets_in-requires
lets_in-requires c = record {
  in_box = listed_inside c.args.world.now.size c.args.cell c.loop-to.to-index c.in-Some.to c.requires.in_box
      (ap (λ l. get_or l c.loop-to.to-index None) (sym c.neighbours-to-items.ensures) ∙ c.in-Some.is);
}

pub loop-to-preserved : goal.loop-to-preserved
loop-to-preserved c = elim c.match-to.branch [
  | in-Some+then-lets_in+in_ok-push w ↦ rw (w.cells-is, w.in_ok-push.ensures.items)
      (goes_push c.args.world.now c.neighbours-to-items.result c.loop-to.to-index w.in-Some.to c.args.cells.now.items
      c.loop-to.cells.items c.loop-to.invariant w.in-Some.is (w.lets_in.ensures.0 w.if-lets_in.true))
  | in-Some+else-lets_in w ↦ rw w.cells-is
      (goes_skip c.args.world.now c.neighbours-to-items.result c.loop-to.to-index c.args.cells.now.items
      c.loop-to.cells.items c.loop-to.invariant (λ to here passes.
      (let found : Some w.in-Some.to ≡ Some to = sym w.in-Some.is ∙ here in let same : w.in-Some.to ≡ to = cc in
      true≢false (sym (w.lets_in.ensures.1
      (subst (λ (n : ℕ). entering_cost c.args.world.now n < 15) (sym same) passes)) ∙ w.if-lets_in.false))))
  | in_default w ↦ rw w.cells-is
      (goes_skip c.args.world.now c.neighbours-to-items.result c.loop-to.to-index c.args.cells.now.items
      c.loop-to.cells.items c.loop-to.invariant (λ to here passes. w.in_default.not-Some to here))
]

pub returns : goal.returns
returns c =
    goes_on c.args.world.now c.args.cell c.neighbours-to-items.result c.loop-to.to-index c.args.cells.now.items
    c.loop-to.cells.items c.neighbours-to-items.ensures c.requires.in_box (omega arith) c.loop-to.invariant
