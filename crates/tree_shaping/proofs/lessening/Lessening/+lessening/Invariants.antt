use Rattle.std.proofs.Common.{◌+◌, ◌*◌}
use Rattle.tree_shaping.proofs.lessening.Lessening.+lessening.Given as goal

abbrev pub decreases-lessened : goal.decreases-lessened
decreases-lessened l = 4 * l.room

abbrev pub decreases-bare : goal.decreases-bare
decreases-bare l = 4 * l.room + 3

abbrev pub decreases-branch : goal.decreases-branch
decreases-branch l = 4 * l.room + 2

abbrev pub decreases-omission : goal.decreases-omission
decreases-omission l = 4 * l.room + 2

abbrev pub decreases-pick : goal.decreases-pick
decreases-pick l = 4 * l.room + 2

abbrev pub decreases-each : goal.decreases-each
decreases-each l = 4 * l.room + 1
