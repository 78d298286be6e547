use Rattle.std.specs.Prelude.{◌≡◌, max, drop}
use Rattle.schedule_law.specs.Listing.{longest_name}
use Rattle.gathering.proofs.opening.longest_of.Given as goal

-- with those from the index on it is the longest of all
abbrev pub invariant-loop-split : goal.invariant-loop-split
invariant-loop-split l = max l.most (longest_name (drop l.split-index l.splits)) ≡ longest_name l.splits
