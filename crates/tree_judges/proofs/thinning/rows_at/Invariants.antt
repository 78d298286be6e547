use Rattle.std.proofs.Common.{◌≡◌, map, take}
use Rattle.set_cover.specs.Instance.{row_of}
use Rattle.tree_judges.proofs.thinning.rows_at.Given as goal

abbrev pub invariant-loop-index : goal.invariant-loop-index
invariant-loop-index l = l.rows.items ≡ map (row_of l.region) (take l.index-index l.kept)
