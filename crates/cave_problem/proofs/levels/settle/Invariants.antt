use Rattle.std.proofs.Common.{◌≡◌, ℕ, ◌+◌, List, length}
use Rattle.cave_problem.specs.Blocks.{IsLinked, AreLevels}
use Rattle.cave_problem.proofs.LevelLemmas.{Settling}
use Rattle.cave_problem.proofs.levels.settle.Given as goal

abbrev pub invariant-loop-number : goal.invariant-loop-number
invariant-loop-number l = (cells : List ℕ) → length cells ≡ l.linked.sources → IsLinked l.world cells
    l.linked.reach.now l.linked.near.now l.linked.count
    → AreLevels l.world cells l.linked.reach.now (l.level + 1) l.initial.levels
    → Settling l.world cells l.linked.reach.now l.level l.number l.levels
