use Rattle.std.proofs.Common.{◌≡◌, ◌++◌, string_bytes, drop}
use Rattle.std.specs.List.{flat_map}
use Rattle.cave_runs.specs.RowsText.{state_line}
use Rattle.cave_runs.specs.RowsText as texts
use Rattle.cave_runs.proofs.rows_text.rows_text.Given as goal

-- the text so far, and the lines of the states that are left
abbrev pub invariant-loop-state : goal.invariant-loop-state
invariant-loop-state l = string_bytes l.out
    ++ flat_map (state_line l.rows) (drop l.state-index l.palette) ≡ texts.rows_text l.rows l.palette
