use Rattle.std.proofs.Common.{◌≡◌, ◌<◌, ◌-◌, length, refl, subst, arith}
use Rattle.std.proofs.lemmas.Bool.{false≢true}
use Rattle.tree_judges.proofs.WeightedLemmas.{AreGroupsTo, groups_all, not_ordered}
use Rattle.tree_judges.proofs.weighted_leaf.are_groups.Goals as goal

pub returns : goal.returns
returns c =
    let groups = c.args.groups.now in
    let e : c.loop-index.index ≡ length groups = omega arith in
    let some : 0 < length groups = omega arith in
    (λ t. groups_all groups some (subst (AreGroupsTo groups) e c.loop-index.invariant), λ g. refl)

pub returns-then-first_cell : goal.returns-then-first_cell
returns-then-first_cell c = (
  λ t. absurd (false≢true t),
  λ g. absurd (not_ordered c.args.groups.now (c.loop-index.index - 1) c.loop-index.index
      c.index-groups-index-then-index-gt0.result c.index-groups-index-then-index-gt0-2.result
      (omega arith) (omega arith)
      c.index-groups-index-then-index-gt0.is c.index-groups-index-then-index-gt0-2.is
      (omega (arith, c.first_cell.ensures, c.first_cell-then-index-gt0.ensures, c.if-first_cell.true)) g),
)
