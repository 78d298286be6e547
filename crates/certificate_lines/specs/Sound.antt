-- What holds of the numbers that a stage keeps.
use Rattle.std.specs.Prelude.{ℕ, ◌+◌, ◌<◌, ◌≤◌}
use Rattle.cave_base.specs.Box.{most_cells}
use Rattle.certificate_lines.specs.declared.stage.Stage.{Stage}
use Rattle.certificate_lines.specs.declared.stage.Stage.TheVariants as stage

-- the box is no larger than one may be, no more regions, cells or torches are to come than it has cells, and where
-- cells, torches, trees or groups are to come they are at least one; where groups are, enough cells are left for them
abbrev pub IsSoundStage : Stage → Type 0
IsSoundStage stage.Start = Unit {0}
IsSoundStage (stage.Box version) = Unit {0}
IsSoundStage (stage.Headroom version count) = count ≤ most_cells
IsSoundStage (stage.Need version count) = count ≤ most_cells
IsSoundStage (stage.Regions version count) = count ≤ most_cells
IsSoundStage (stage.Region version count to_come) = (count ≤ most_cells) × (to_come ≤ count)
IsSoundStage (stage.Dark version count to_come n t) = (count ≤ most_cells) × (to_come < count) × (0 < n) × (n ≤ count)
    × (0 < t) × (t ≤ count)
IsSoundStage (stage.Torches version count to_come t) = (count ≤ most_cells) × (to_come < count) × (0 < t) × (t ≤ count)
IsSoundStage (stage.Node version count to_come pending) = (count ≤ most_cells) × (to_come < count) × (0 < pending)
IsSoundStage (stage.Group version count to_come pending left from) = (count ≤ most_cells) × (to_come < count)
    × (0 < pending) × (0 < left) × (from + left ≤ count)
IsSoundStage stage.Done = Unit {0}

-- how many trees are still to come
abbrev pub pending_of : Stage → ℕ
pending_of (stage.Node version count to_come pending) = pending
pending_of (stage.Group version count to_come pending left from) = pending
pending_of s = 0
