use Rattle.std.proofs.Common.{◌≡◌, ℕ, ◌+◌, List, length}
use Rattle.cave_problem.specs.Blocks.{IsLinked, AreExact}
use Rattle.cave_problem.proofs.StoreLemmas.{Storing}
use Rattle.cave_problem.proofs.blocks.store.Given as goal

abbrev pub invariant-loop-number : goal.invariant-loop-number
invariant-loop-number l = (length l.lit ≡ length l.column.places.now)
    × ((cells : List ℕ) → length cells ≡ l.linked.sources → IsLinked l.world cells
    l.linked.reach.now l.linked.near.now l.linked.count
    → AreExact l.world cells l.linked.reach.now (l.world.rule.need + 1) l.levels
    → Storing l.world cells l.linked.reach.now l.column.places.now l.column.block l.number l.initial.lit l.lit l.all)
