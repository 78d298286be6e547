use Rattle.std.proofs.Common.{◌≡◌, length}
use Rattle.cave_base.specs.Box.{cell_count}
use Rattle.lit_lists.specs.Seeded.{AreUnlit}
use Rattle.proof_check.specs.Ends.{NoneBad}
use Rattle.proof_check.proofs.parts.first_bad_cell.Given as goal

abbrev pub invariant-loop-cell : goal.invariant-loop-cell
invariant-loop-cell l = record {
  cells : length l.levels ≡ cell_count l.world.size;
  unlit : AreUnlit l.levels;
  none : NoneBad l.world l.lists l.regions l.cell;
}
