use Rattle.std.proofs.Common.{◌≡◌, ap, ◌∙◌, arith, List, ℕ, length, slice_index}
use Rattle.pack_bound.specs.Naming.{numbered}
use Rattle.proof_tree.specs.declared.proof.Proof.{Proof}
use Rattle.proof_tree.specs.Shape.{tree_of, tree_size, forest_size}
use Rattle.tree_judges.proofs.NumberingLemmas.{so_far_none, so_far_more, so_far_falls, so_far_all, bars_more}
use Rattle.tree_judges.proofs.numbering.+numbering.Goals as goal

pub all_with_numbers-loop-tree-init : goal.all_with_numbers-loop-tree-init
all_with_numbers-loop-tree-init t c =
    so_far_none c.args.region.now c.args.trees.items c.into_iter-tree-iterator.result.rest.items
    c.in_ok-proofs.proofs.items
    c.in_ok-proofs.ensures.items c.into_iter-tree-iterator.ensures.into_iter_gives.0

pub all_with_numbers-loop-tree-preserved : goal.all_with_numbers-loop-tree-preserved
all_with_numbers-loop-tree-preserved t c =
    so_far_more c.args.region.now c.args.trees.items c.loop-tree.tree-iterator.rest.items c.next.new.self.rest.items
    c.loop-tree.proofs.items c.push.new.self.items
    c.in-Some.tree c.in_ok-with_numbers.field-0 c.loop-tree.invariant c.in-Some.ensures.steps.0
    c.in_ok-push.ensures.items c.in_ok-with_numbers.ensures

pub all_with_numbers-with_numbers-requires : goal.all_with_numbers-with_numbers-requires
all_with_numbers-with_numbers-requires t c =
    let falls = so_far_falls c.args.region.now c.args.trees.items c.loop-tree.tree-iterator.rest.items
    c.next.new.self.rest.items c.loop-tree.proofs.items
    c.in-Some.tree c.loop-tree.invariant c.in-Some.ensures.steps.0 in
    (omega (arith, falls, c.decreases), tt)

pub all_with_numbers-returns : goal.all_with_numbers-returns
all_with_numbers-returns t c =
    let none : length c.loop-tree.tree-iterator.rest.items ≡ 0 =
    omega (arith, c.in-None.ensures.steps.0, c.loop-tree.tree-iterator.rest.ok.0) in
    so_far_all c.args.region.now c.args.trees.items c.loop-tree.tree-iterator.rest.items c.loop-tree.proofs.items
    c.loop-tree.invariant none

pub with_numbers-all_with_numbers-requires : goal.with_numbers-all_with_numbers-requires
with_numbers-all_with_numbers-requires t c =
    let whole = ap (λ (p : Proof). tree_size (tree_of p)) c.in-Branch.is in
    let part = ap forest_size c.into_trees.ensures in
    (omega (arith, whole, part, c.loop-rest.invariant.1, c.decreases), tt)

pub with_numbers-loop-rest-preserved : goal.with_numbers-loop-rest-preserved
with_numbers-loop-rest-preserved t c =
    let region = c.args.region.now in
    let is = ap tree_of c.in-Bar.is in
    let place = c.number_at-place.ensures ∙ ap (λ (l : List ℕ). slice_index l c.in-Bar.place) c.places.ensures.places in
    let by = c.number_at-by.ensures ∙ ap (λ (l : List ℕ). slice_index l c.in-Bar.by) c.places-in-Bar.ensures.places in (
      bars_more region c.loop-rest.bars.items c.push.new.self.items
          (record { place = c.number_at-place.result; by = c.number_at-by.result })
          c.in-Bar.place c.in-Bar.by (tree_of c.loop-rest.rest) c.in-Bar.kid (tree_of c.into_tree-rest.result)
          (numbered region (tree_of c.args.tree))
          is c.into_tree-rest.ensures place by c.in_ok-push-in-Bar.ensures.items c.loop-rest.invariant.0,
      omega (arith, ap tree_size is, ap tree_size c.into_tree-rest.ensures, c.loop-rest.invariant.1),
    )
