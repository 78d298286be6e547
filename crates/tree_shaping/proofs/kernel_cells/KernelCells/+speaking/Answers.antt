use Rattle.std.proofs.Common.{List, ap, arith}
use Rattle.proof_tree.specs.declared.proof.Proof.{Proof}
use Rattle.proof_tree.specs.Shape.{tree_of, forest_of, tree_size, forest_size}
use Rattle.tree_shaping.proofs.kernel_cells.KernelCells.+speaking.Goals as goal

pub spoken_by_all-loop-tree-init : goal.spoken_by_all-loop-tree-init
spoken_by_all-loop-tree-init t c =
    let all = ap (λ (ts : List Proof). forest_size (forest_of ts)) c.into_iter-tree-iterator.ensures.into_iter_gives.0
    in
    omega (arith, all)

pub spoken_by_all-loop-tree-preserved : goal.spoken_by_all-loop-tree-preserved
spoken_by_all-loop-tree-preserved t c =
    let rest = ap (λ (ts : List Proof). forest_size (forest_of ts)) c.in-Some.ensures.steps.0 in
    omega (arith, rest, c.loop-tree.invariant)

pub spoken_by_all-spoken_by-requires : goal.spoken_by_all-spoken_by-requires
spoken_by_all-spoken_by-requires t c =
    let rest = ap (λ (ts : List Proof). forest_size (forest_of ts)) c.in-Some.ensures.steps.0 in
    (omega (arith, rest, c.loop-tree.invariant, c.decreases), tt)

pub spoken_by-spoken_by_all-requires : goal.spoken_by-spoken_by_all-requires
spoken_by-spoken_by_all-requires t c =
    let whole = ap (λ (p : Proof). tree_size (tree_of p)) c.in-Branch.is in
    let part = ap forest_size c.into_trees.ensures in
    (omega (arith, whole, part, c.decreases), tt)

pub spoken_by-spoken_by-requires : goal.spoken_by-spoken_by-requires
spoken_by-spoken_by-requires t c =
    let whole = ap (λ (p : Proof). tree_size (tree_of p)) c.in-Bar.is in
    let part = ap tree_size c.into_tree.ensures in
    (omega (arith, whole, part, c.decreases), tt)
