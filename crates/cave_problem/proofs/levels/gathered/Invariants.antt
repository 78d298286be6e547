use Rattle.cave_problem.specs.Blocks.{IsUnion}
use Rattle.cave_problem.proofs.levels.gathered.Given as goal

abbrev pub invariant-loop-face : goal.invariant-loop-face
invariant-loop-face l = IsUnion l.near l.levels l.number l.level l.face l.word
