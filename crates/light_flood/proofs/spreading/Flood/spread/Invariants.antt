use Rattle.std.proofs.Common.{◌≡◌}
use Rattle.cave_base.specs.Box.{cell_count}
use Rattle.light_flood.proofs.LevelLemmas.{Passing}
use Rattle.light_flood.proofs.spreading.Flood.spread.Given as goal

abbrev pub invariant-loop-level : goal.invariant-loop-level
invariant-loop-level g l = record {
  cells : g.S.Store.cells l.self.store ≡ cell_count l.world.size;
  passing : Passing l.world l.level (g.S.Store.levels l.fn.self.store) (g.S.Store.levels l.self.store) l.self.waiting;
}
