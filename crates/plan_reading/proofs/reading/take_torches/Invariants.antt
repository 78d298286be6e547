use Rattle.std.proofs.Common.{◌≡◌, length}
use Rattle.plan_reading.specs.Walked.{Took}
use Rattle.plan_reading.proofs.reading.take_torches.Given as goal

-- `index` torches were taken
abbrev pub invariant-loop-index : goal.invariant-loop-index
invariant-loop-index l = (length l.torches.items ≡ l.index) × Took l._text l.count l.lines l.torches.items l.rest
