use Rattle.std.proofs.Common.{◌-◌, ◌*◌, length}
use Rattle.set_cover.specs.Instance.{row_of}
use Rattle.instance_regions.proofs.ColumnLemmas.{AreGrown}
use Rattle.instance_regions.proofs.columns.add_place.Given as goal

abbrev pub invariant-loop-cell : goal.invariant-loop-cell
invariant-loop-cell l = AreGrown l.instance l.place l.from l.columns

abbrev pub decreases-loop-cell : goal.decreases-loop-cell
decreases-loop-cell l = 64 * length (row_of l.instance l.place) - l.from
