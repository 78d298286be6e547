use Rattle.std.specs.Arc.{arc_value}
use Rattle.search_pool.specs.Deques.{deque_at, pushed_at}
use Rattle.search_pool.proofs.starting.run_opened.Given as goal

-- the names are those of this beacon, these deques and this region
abbrev pub ghosts-run_named : goal.ghosts-run_named
ghosts-run_named g a = record {
  beacon = a.beacon;
  deque = deque_at a.owners.items;
  region = arc_value a.run.search.region.now;
  workers = a.run.workers.number;
  start = pushed_at a.owners.items;
}
