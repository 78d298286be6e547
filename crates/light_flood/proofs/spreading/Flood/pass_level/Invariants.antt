use Rattle.std.proofs.Common.{◌≡◌}
use Rattle.cave_base.specs.Box.{cell_count}
use Rattle.light_flood.proofs.LevelLemmas.{PassingLevel}
use Rattle.light_flood.proofs.spreading.Flood.pass_level.Given as goal

abbrev pub invariant-loop-from : goal.invariant-loop-from
invariant-loop-from g l = record {
  cells : g.S.Store.cells l.self.store ≡ cell_count l.world.size;
  passing : PassingLevel l.world l.level (g.S.Store.levels l.fn.self.store)
      (g.S.Store.levels l.self.store) l.self.waiting l.from-items l.from-index;
}
