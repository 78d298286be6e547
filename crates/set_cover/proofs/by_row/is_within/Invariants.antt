use Rattle.std.proofs.Common.{◌+◌}
use Rattle.set_cover.proofs.WordLemmas.{WithinSoFar}
use Rattle.set_cover.proofs.by_row.is_within.Given as goal

abbrev pub invariant-loop-index : goal.invariant-loop-index
invariant-loop-index l = WithinSoFar l.row l.part l.other (l.before + l.index)
