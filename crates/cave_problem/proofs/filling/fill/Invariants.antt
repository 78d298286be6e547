use Rattle.std.proofs.Common.{◌*◌, length}
use Rattle.cave_base.specs.Box.{cell_count}
use Rattle.cave_problem.specs.BlockFlood.{IsReady}
use Rattle.cave_problem.proofs.FillLemmas.{Filling}
use Rattle.cave_problem.proofs.filling.fill.Given as goal

abbrev pub invariant-loop-block : goal.invariant-loop-block
invariant-loop-block l = record {
  filled : Filling l.world l.cells l.places (length l.initial.covered) (64 * l.block) l.lit l.covered;
  ready : IsReady (cell_count l.world.size) l.flood;
}
