use Rattle.std.proofs.Common.{◌≡◌, length, take}
use Rattle.node_judges.specs.Settings.{left_in}
use Rattle.node_judges.proofs.LeafLemmas.{Marking}
use Rattle.node_judges.proofs.leaf.are_apart.Given as goal

abbrev pub invariant-loop-cell : goal.invariant-loop-cell
invariant-loop-cell l = record {
  whole : length l.seen.counts ≡ length l.fn.seen.counts;
  marking : Marking l.setting.lists.now (left_in l.setting) l.setting.chosen.now.items l.setting.barred.now.items
      (take l.cell-index l.these) l.seen.items;
}
