use Rattle.std.proofs.Common.{◌≤◌, ℕ, length, ap, sym, subst, ◌∙◌, arith}
use Rattle.std.specs.List.Sorted.{IsStrictlyIncreasing}
use Rattle.std.proofs.lemmas.Result.{IfOk-weaker}
use Rattle.instance_regions.specs.Joining.{AreAlone, AreLabels, AreRoots}
use Rattle.instance_regions.proofs.TreeLemmas.{joined_none, joined_next, labels_are}
use Rattle.instance_regions.proofs.joining.labels_of.Goals as goal

pub count_of-requires : goal.count_of-requires
count_of-requires c = record {
  ascending = subst IsStrictlyIncreasing
      (sym c.cells.ensures.cells) c.cells.ensures.kept.cells_ascend;
}

pub loop-place-init : goal.loop-place-init
loop-place-init c =
    joined_none c.args.sparse.now c.as_mut_slice-parents.result.now
    (subst (λ (n : ℕ). AreAlone n c.as_mut_slice-parents.result.now)
    (c.count_of.ensures.count ∙ ap length c.cells.ensures.cells)
    (subst (AreAlone c.count_of.result) (sym c.as_mut_slice-parents.ensures.value) c.in_ok-parents.ensures))

pub join_row-requires-clause-parents : goal.join_row-requires-clause-parents
join_row-requires-clause-parents c = record {
  kept = c.cells.ensures.kept;
  sized = c.loop-place.invariant.whole;
  small = omega (
    arith,
    c.loop-place.invariant.whole,
    c.count_of.ensures.few,
    c.count_of.ensures.count,
    ap length c.cells.ensures.cells,
  );
  forest = c.loop-place.invariant.forest;
}

pub roots-requires-clause-small : goal.roots-requires-clause-small
roots-requires-clause-small c =
    omega (
      arith,
      c.loop-place.invariant.whole,
      c.count_of.ensures.few,
      c.count_of.ensures.count,
      ap length c.cells.ensures.cells,
    )

pub loop-place-preserved : goal.loop-place-preserved
loop-place-preserved c = joined_next c.args.sparse.now c.loop-place.place c.loop-place.parents c.join_row.new.parents
    c.loop-place.invariant c.join_row.ensures

pub returns-clause-labels : goal.returns-clause-labels
returns-clause-labels c =
    let all : length c.args.sparse.now.places ≤ c.loop-place.place =
    omega (arith, ap length c.places-place-end.ensures.places, c.loop-place-test.false) in
    IfOk-weaker c.roots.result (λ v. AreRoots c.loop-place.parents v.items) (λ v. AreLabels c.args.sparse.now v.items)
    (λ v roots. labels_are c.args.sparse.now c.loop-place.parents v.items c.loop-place.place c.cells.ensures.kept all
    c.loop-place.invariant roots) c.roots.ensures

pub returns-clause-few : goal.returns-clause-few
returns-clause-few c =
    IfOk-weaker c.roots.result (λ v. AreRoots c.loop-place.parents v.items) (λ v. length v.items ≤ 4294967296)
    (λ v roots. omega (
      arith,
      roots.whole,
      c.loop-place.invariant.whole,
      c.count_of.ensures.few,
      c.count_of.ensures.count,
      ap length c.cells.ensures.cells,
    )) c.roots.ensures
